-- For code that stores in place: a row written back unchanged changes nothing.
use mathlib.Core.Path.{◌≡◌, sym, ap, ap₂, ◌∙◌}
use Prim.Native.Nat.{ℕ, ◌+◌, ◌*◌, ◌≤◌, ◌<◌}
use native.Mathlib.Omega.{arith}
use native.Mathlib.Nat.{mul-le-mul_left}
use mathlib.Core.Bool.{true}
use mathlib.Core.List.{List, ◌++◌}
use lib.ListN.{length, take, drop, length-drop, take-append-drop}
use lib.Seq.{sets, sets-eq, take-add, set-get_or, length-take-le}
use Rattle.table.specs.Machine.{Key, same}
use Rattle.table.specs.Rows.{NONE, Row, Watch, Form, unmade_row, row_at}
use Rattle.table.specs.Watch.{Body, body_at, put_body}
use Rattle.table.proofs.Keys.{same_eq}

-- W cells of l from a
abbrev part : ℕ → ℕ → List ℕ → List ℕ
part W a l = take W (drop a l)

-- written back as they are
pub back_same : (W a : ℕ) (l : List ℕ) → a + W ≤ length l → sets l a (part W a l) ≡ l
back_same W a l h =
    let e : length (part W a l) ≡ W = length-take-le W (drop a l) (omega (arith, length-drop a l)) in
    let s : sets l a (part W a l) ≡ take a l ++ part W a l ++ drop (a + length (part W a l)) l = sets-eq (part W a l) l a (omega arith) in
    s ∙ ap (λ (n : ℕ). take a l ++ part W a l ++ drop (a + n) l) e ∙ ap (λ (x : List ℕ). x ++ drop (a + W) l) (sym (take-add a W l)) ∙ take-append-drop (a + W) l

module _ {P : Type 0} (F : Form P) where
  -- the call's key is the row's
  pub put_same_key : (w : Watch P) (i : ℕ) (k : Key) (s : Body P) → same k (row_at F.unmade w.rows i).key ≡ true → put_body F w i k s ≡ put_body F w i (row_at F.unmade w.rows i).key s
  put_same_key w i k s h = ap (λ (q : Key). put_body F w i q s) (same_eq k (row_at F.unmade w.rows i).key h)

  -- an accepted call that leaves the row's part and cells as they are changes nothing
  pub put_unchanged : (w : Watch P) (i : ℕ) (k : Key) → same k (row_at F.unmade w.rows i).key ≡ true → i < length w.rows → length w.cells ≡ F.width * length w.rows → put_body F w i k (body_at F w i) ≡ w
  unfolding put_body
  put_unchanged w i k h n c =
      put_same_key w i k (body_at F w i) h
      ∙ ap₂ {C = Watch P} (λ (r : List (Row P)) (l : List ℕ). record { rows = r; cells = l; ends = w.ends }) (set-get_or w.rows i (unmade_row F.unmade NONE)) (back_same F.width (F.width * i) w.cells (omega (arith, mul-le-mul_left F.width n)))
