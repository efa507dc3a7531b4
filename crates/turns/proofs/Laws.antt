-- One law for each way out of the code's functions, and for each turn of its loops. Facts on numbers and lists alone.
use Rattle.std.specs.Prelude.{Option, None, Some}
use mathlib.Core.Path.{◌≡◌, refl, sym, ap, ap₂, ◌∙◌}
use mathlib.Core.Logic.{◌≢◌}
use Prim.Native.Nat.{ℕ, zero, suc, ◌+◌, ◌-◌, ◌*◌, ◌≤◌, ◌<◌}
use native.Mathlib.Omega.{arith}
use mathlib.Core.Bool.{Bool, true, false}
use mathlib.Core.List.{List, ◌++◌, map, append_assoc}
use lib.Dec.{leb}
use lib.ListN.{length, get_or, set, take, drop}
use lib.Seq.{sets, sets-eq, length-sets, drop-drop}
use borrow.Author.Tests.{lt-ltb, leb-false, ne_eqb}
use Rattle.table.specs.Rows.{NONE, row_at}
use Rattle.table.specs.Questions.{chain, onto}
use Rattle.receiver.specs.Calls.{unmade_part}
use Rattle.rows.specs.declared.Row.{Row}
use Rattle.rows.specs.Links.{blank}
use Rattle.rows.specs.Read.{row_is}
use Rattle.rows.proofs.Chains.{rows_long_lem, row_is_lem}
use Rattle.scans.specs.declared.Links.{Links}
use Rattle.glances.specs.Glances.{links_of}
use Rattle.turns.specs.Turn.{gave, following, Tick}
use Rattle.turns.specs.Passes.{mark_all, count_after, list_after, passed}

-- THE USED CHAIN MARKED: what is left of it has the same marks to set as the whole had
abbrev pub marked : Option (List ℕ) → List Bool → Option (List Bool)
marked None marks = None
marked (Some l) marks = Some (mark_all l marks)

marked_onto : (i : ℕ) (o : Option (List ℕ)) (marks : List Bool) → marked o (set marks i true) ≡ marked (onto i o) marks
marked_onto i None marks = refl
marked_onto i (Some l) marks = refl

-- a chain's rest, from row `at`, on `left` rows at most
abbrev pub rest_of : List Row → ℕ → ℕ → Option (List ℕ)
rest_of xs left at = chain unmade_part (map row_is xs) left at

module _ (xs : List Row) (n left at : ℕ) (marks : List Bool) (t : Bool) (long : n ≡ length xs) (small : n ≤ 4096) (test : t ≡ leb (length xs) at) where
  pub row_within : t ≡ false → at < n
  row_within h = omega (arith, leb-false (length xs) at (sym test ∙ h))

  not_none : at < n → at ≢ NONE
  unfolding NONE
  not_none h e = omega arith

  pub mark_goes : (links : Links) → 0 < left → t ≡ false → links ≡ links_of (get_or xs at blank) → marked (rest_of xs (left - 1) links.next) (set marks at true) ≡ marked (rest_of xs left at) marks
  mark_goes links p h e = go left p
    where
      next : links.next ≡ (row_at unmade_part (map row_is xs) at).next
      next = ap (λ (l : Links). l.next) e ∙ sym (ap {B = ℕ} (λ r. r.next) (row_is_lem xs at))

      go : (m : ℕ) → 0 < m → marked (rest_of xs (m - 1) links.next) (set marks at true) ≡ marked (rest_of xs m at) marks
      go zero q = absurd (omega arith)
      go (suc f) q =
          let less : suc f - 1 ≡ f = omega arith in
          ap₂ {C = Option (List Bool)} (λ m j. marked (rest_of xs m j) (set marks at true)) less next
          ∙ marked_onto at (rest_of xs f (row_at unmade_part (map row_is xs) at).next) marks
          ∙ sym (rw (ne_eqb at NONE (not_none (row_within h)), lt-ltb at (length (map row_is xs)) (omega (arith, rows_long_lem xs, row_within h))))

-- A KEY WRITTEN: the list's 32 bytes from a place on are lent, and come back as the key
pub key_put : (list key part : List ℕ) (at : ℕ) → length key ≡ 32 → at + 32 ≤ length list → part ≡ key → take at list ++ (part ++ drop (at + 32 - at) (drop at list)) ≡ sets list at key
key_put list key part at long room e =
    let wide : at + 32 - at ≡ length key = omega arith in
    let fits : at + length key ≤ length list = omega arith in
    rw (e, wide, drop-drop (length key) at list) (sym (sets-eq key list at fits ∙ append_assoc (take at list) key (drop (at + length key) list)))

-- THE ROWS PASSED OVER: what is left comes to what the whole does
module _ (marks : List Bool) (xs : List Row) (n left at count : ℕ) (list : List ℕ) where
  pub pass_goes : (at₁ count₁ : ℕ) (list₁ : List ℕ) → 0 < left → at₁ ≡ following n at → count₁ ≡ count_after (get_or marks at false) count → list₁ ≡ list_after (get_or marks at false) (get_or xs at blank).key count list → passed marks xs n (left - 1) at₁ count₁ list₁ ≡ passed marks xs n left at count list
  unfolding passed
  pass_goes at₁ count₁ list₁ h ea ec el = go left h
    where
      go : (f : ℕ) → 0 < f → passed marks xs n (f - 1) at₁ count₁ list₁ ≡ passed marks xs n f at count list
      go zero p = absurd (omega arith)
      go (suc f) p = let less : suc f - 1 ≡ f = omega arith in rw (less, ea, ec, el)

  pub pass_ends : (t : Tick) → left ≤ 0 → passed marks xs n left at count list ≡ t → record { answer = gave count at; list = list } ≡ t
  unfolding passed
  pass_ends t h e = let None : 0 ≡ left = omega arith in ap (λ (f : ℕ). passed marks xs n f at count list) None ∙ e

pub count_less : (used : Bool) (count : ℕ) → count_after used count ≤ count + 1
count_less true count = omega arith
count_less false count = omega arith

pub list_long : (used : Bool) (key : List ℕ) (count : ℕ) (list : List ℕ) → length (list_after used key count list) ≡ length list
list_long true key count list = length-sets list (32 * count) key
list_long false key count list = refl

pub list_stays : (used : Bool) (key : List ℕ) (count : ℕ) (list list₁ : List ℕ) → list₁ ≡ list_after used key count list → length list₁ ≡ length list
list_stays used key count list list₁ e = ap length e ∙ list_long used key count list
