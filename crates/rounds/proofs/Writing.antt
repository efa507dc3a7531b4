-- A tick's answer, put part by part. Facts on lists alone; the laws of parts are crate `answers`'s.
use mathlib.Core.Path.{◌≡◌, refl, sym, ap, ◌∙◌}
use Prim.Native.Nat.{ℕ, zero, suc, ◌+◌, ◌*◌, ◌≤◌}
use native.Mathlib.Numerals.{add-one}
use native.Mathlib.Omega.{arith}
use lib.Dec.{leb, ltb}
use Rattle.fields.proofs.Lines.{tail}
use mathlib.Core.List.{List, ◌∷◌}
use lib.ListN.{length, take, drop, replicate, drop_of_length-le}
use borrow.Author.Tests.{ltb-true, leb-false, le-leb}
use Rattle.fields.specs.Text.{spell, part_of}
use Rattle.table.specs.Rows.{Watch}
use Rattle.table.proofs.Tests.{by_bool}
use Rattle.receiver.specs.declared.Part.{Part}
use Rattle.print.specs.declared.Text.{Text}
use Rattle.print.specs.Print.{decimal_text}
use Rattle.rows.specs.Read.{form}
use Rattle.turns.specs.declared.Turned.{Turned}
use Rattle.std.specs.Prelude.{Result, Ok}
use Rattle.table.specs.declared.Refusal.{Refusal}
use Rattle.turns.specs.Turn.{turn_on}
use Rattle.answers.specs.Words.{◌then◌}
use Rattle.answers.specs.Answers.{key_text}
use Rattle.print.specs.Print.{Adds}
use Rattle.answers.proofs.Writing.{adds_none, adds_then, adds_both, adds_is}
use Rattle.rounds.specs.Rounds.{keys_text, turned_text, tick_text, served, turn_text}

-- KEYS
-- what is left of a list from a place on, past its end too
rest_is : (s : List ℕ) (a : ℕ) → part_of s a (length s) ≡ drop a s
unfolding part_of
rest_is s a = by_bool (leb a (length s)) (λ p. rw (p, le-leb (length s) (length s) (omega arith)) (tail s a)) (λ p. rw p (sym (drop_of_length-le s {i = a} (omega (arith, leb-false a (length s) p)))))

pub keys_none : (a : Text) (list : List ℕ) → Adds a (keys_text 0 list) a
unfolding keys_text
keys_none a list = adds_none a

pub keys_on : (a b c d : Text) (list key : List ℕ) (i : ℕ) → Adds a (keys_text i list) b → Adds b (spell " ") c → key ≡ part_of list (32 * i) (length list) → Adds c (key_text key) d → Adds a (keys_text (i + 1) list) d
unfolding keys_text
keys_on a b c d list key i w v e u =
    let rest = drop (32 * i) list in
    let k : key ≡ rest = e ∙ rest_is list (32 * i) in
    rw (add-one i) (adds_then a b d (keys_text i list) (spell " " then key_text rest) w (adds_then b c d (spell " ") (key_text rest) v (rw k at u)))

-- THE ANSWER that names keys
pub named_put : (a b c d e : Text) (list : List ℕ) (t : Turned) → Adds a (spell "ok " then decimal_text t.count) b → Adds b (spell " " then decimal_text t.next) c → Adds c (keys_text t.count list) d → Adds d (spell "\n") e
    → Adds a (turned_text (Ok t) list) e
named_put a b c d e list t w1 w2 w3 w4 =
    let keys = keys_text t.count list in
    adds_both a b e (spell "ok ") (decimal_text t.count) (spell " " then decimal_text t.next then keys then spell "\n") w1
    (adds_both b c e (spell " ") (decimal_text t.next) (keys then spell "\n") w2 (adds_then c d e keys (spell "\n") w3 w4))

-- THE LINE
pub served_few : (room : ℕ) → served room ≤ 64
served_few room = by_bool (ltb room 64) (λ p. rw p (omega (arith, ltb-true room 64 p))) (λ p. rw p (omega arith))

zeros : (m n : ℕ) → m ≤ n → take {A = ℕ} m (replicate n 0) ≡ replicate m 0
zeros zero n h = refl
zeros (suc m) zero h = absurd (omega arith)
zeros (suc m) (suc n) h = ap (λ (l : List ℕ). 0 ∷ l) (zeros m n (omega arith))

module _ (room m : ℕ) (e : m ≡ 32 * served room) where
  pub list_fits : m ≤ 2048
  list_fits = omega (arith, served_few room)

  pub turn_put : (a b : Text) (list₁ : List ℕ) (t : Result Turned Refusal) (w : Watch Part) (next k : ℕ) → record { answer = t; list = list₁ } ≡ turn_on form w next k (take m (replicate 2048 0)) → Adds a (turned_text t list₁) b → Adds a (turn_text w next k room) b
  unfolding turn_text
  turn_put a b list₁ t w next k s v =
      adds_is a b (turned_text t list₁) (tick_text (turn_on form w next k (replicate (32 * served room) 0)))
      (ap tick_text (s ∙ ap (turn_on form w next k) (zeros m 2048 list_fits ∙ ap (λ (x : ℕ). replicate x 0) e))) v
