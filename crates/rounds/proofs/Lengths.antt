-- No tick's answer has more than 4,300 bytes: it gives no more keys than its list holds, which is 64 at the most, and a key is 65 bytes with the space before it.
use mathlib.Core.Path.{◌≡◌, refl, sym, ap, subst}
use mathlib.Core.Bool.{Bool, true, false, cond, ◌&&◌}
use mathlib.Core.List.{List, [], ◌∷◌}
use Prim.Native.Nat.{ℕ, zero, suc, ◌+◌, ◌*◌, ◌≤◌}
use native.Mathlib.Omega.{arith}
use borrow.Author.Tests.{leb-true}
use lib.Dec.{T, leb}
use lib.ListN.{length, drop, replicate, length-append, length-replicate}
use Rattle.fields.specs.Text.{spell}
use Rattle.table.specs.Machine.{Key}
use Rattle.table.specs.Rows.{Watch}
use Rattle.table.specs.Questions.{question1, question2}
use Rattle.receiver.specs.declared.Part.{Part}
use Rattle.rows.specs.Read.{form}
use Rattle.std.specs.Prelude.{Ok, Err}
use Rattle.table.specs.Refusals.{number_of}
use Rattle.table.specs.declared.Refusal.{Refusal}
use Rattle.table.specs.declared.Refusal.TheVariants as R
use Rattle.turns.specs.declared.Turned.{Turned}
use Rattle.turns.specs.Turn.{start_of, following, named, named_by, is_used, keys_of, holds, written, next_of, question8, refusal, acceptance, turn_on}
use Rattle.print.specs.Print.{decimal_text}
use Rattle.grammar.specs.declared.Line.{Line}
use Rattle.grammar.specs.declared.Line.TheVariants as line
use Rattle.answers.specs.Words.{◌then◌}
use Rattle.answers.specs.Answers.{key_text}
use Rattle.answers.proofs.Lengths.{decimal_length, bytes_length}
use Rattle.rounds.specs.Rounds.{keys_text, turned_text, tick_text, served, turn_text, line_text}
use Rattle.rounds.proofs.Writing.{served_few}

-- ---- the keys that a tick gives
named_length : (C i k : ℕ) → length (named C i k) ≡ k
named_length C i zero = refl
named_length C i (suc k) = ap suc (named_length C (following C i) k)

keys_few : (w : Watch Part) (l : List ℕ) → length (keys_of form w l) ≤ length l
keys_few w [] = omega arith
keys_few w (i ∷ l) = by (is_used form w i) _ (keys_of form w l) (keys_few w l) where
  by : (b : Bool) (k : Key) (ks : List Key) → length ks ≤ length l → length (cond b (k ∷ ks) ks) ≤ suc (length l)
  by true k ks h = omega arith
  by false k ks h = omega arith

-- ---- its text
keys_length : (n : ℕ) (list : List ℕ) → length (keys_text n list) ≡ 65 * n
unfolding keys_text
keys_length zero list = refl
keys_length (suc n) list =
    let key = key_text (drop (32 * n) list) in
    omega (arith, keys_length n list, length-append (keys_text n list) (spell " " then key), length-append (spell " ") key, bytes_length (drop (32 * n) list) 32)

named_length_in : (t : Turned) (n : ℕ) (list : List ℕ) → t.count ≤ n → length (turned_text (Ok t) list) ≤ 45 + 65 * n
named_length_in t n list h =
    let keys = keys_text t.count list in
    let behind = decimal_text t.next then keys then spell "\n" in
    omega (
      arith,
      length-append (decimal_text t.count) (spell " " then behind),
      length-append (decimal_text t.next) (keys then spell "\n"),
      length-append keys (spell "\n"),
      decimal_length t.count,
      decimal_length t.next,
      keys_length t.count list,
    )

refused_length_in : (r : Refusal) (n : ℕ) (list : List ℕ) → length (turned_text (Err r) list) ≤ 45 + 65 * n
refused_length_in r n list = omega (arith, length-append (decimal_text (number_of r)) (spell "\n"), decimal_length (number_of r))

-- 8 is not asked in vain: no more rows are named than the list holds keys
room_for : (C k : ℕ) (list : List ℕ) → question8 C k list ≡ true → k ≤ holds list
unfolding question8
room_for C k list h = leb-true k (holds list) (last ((leb 1 k && leb k C)) (leb k (holds list)) h) where
  last : (a b : Bool) → (a && b) ≡ true → b ≡ true
  last true b e = e
  last false b e = absurd (subst T (sym e) tt)

tick_length : (w : Watch Part) (next k : ℕ) (list : List ℕ) → length (tick_text (turn_on form w next k list)) ≤ 45 + 65 * holds list
tick_length w next k list = one (question1 form w) where
  C : ℕ
  C = length w.rows

  keys : List Key
  keys = keys_of form w (named_by C next k)

  eight : (b : Bool) → question8 C k list ≡ b → length (tick_text (cond b (acceptance form w next k list) (refusal list R.Turn))) ≤ 45 + 65 * holds list
  eight true e = named_length_in (record { count = length keys; next = next_of C next k }) (holds list) (written keys list) (omega (arith, room_for C k list e, keys_few w (named_by C next k), named_length C (start_of C next) k))
  eight false e = refused_length_in R.Turn (holds list) list

  two : (b : Bool) → length (tick_text (cond b (cond (question8 C k list) (acceptance form w next k list) (refusal list R.Turn)) (refusal list R.NotInOrder))) ≤ 45 + 65 * holds list
  two true = eight (question8 C k list) refl
  two false = refused_length_in R.NotInOrder (holds list) list

  one : (b : Bool) → length (tick_text (cond b (cond (question2 form w) (cond (question8 C k list) (acceptance form w next k list) (refusal list R.Turn)) (refusal list R.NotInOrder)) (refusal list R.Sizes))) ≤ 45 + 65 * holds list
  one true = two (question2 form w)
  one false = refused_length_in R.Sizes (holds list) list

turn_length : (w : Watch Part) (next k room : ℕ) → length (turn_text w next k room) ≤ 4300
unfolding turn_text
turn_length w next k room =
    omega (arith, tick_length w next k (replicate (32 * served room) 0), length-replicate {A = ℕ} (32 * served room) 0, served_few room)

pub line_length : (w : Watch Part) (l : Line) → length (line_text w l) ≤ 4300
line_length w (line.Turn next k room) = turn_length w next k room
line_length w l = grind arith
