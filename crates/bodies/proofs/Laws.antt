-- One row's cells among those of all rows: where they start and end, and what is left where they are emptied or a position is counted in them.
use mathlib.Core.Path.{◌≡◌, sym, ap, ap₂, ◌∙◌}
use Prim.Native.Nat.{ℕ, ◌+◌, ◌-◌, ◌*◌, ◌≤◌}
use native.Mathlib.Omega.{arith}
use mathlib.Core.List.{List, ◌++◌, append_assoc}
use lib.ListN.{length, take, drop, replicate, length-set, length-drop}
use lib.Seq.{sets, sets-eq, length-sets, length-take-le, drop-drop}
use Rattle.cells.specs.Cells.{empty_word}
use Rattle.heard.specs.declared.counting.Counting.{Counting}
use Rattle.heard.specs.Answers.{counting_is, half_before}
use Rattle.heard.specs.Heard.{width, half, empty_cells}
use Rattle.heard.proofs.SiteLaws.{width_is, filled}
use Rattle.table.proofs.Tests.{by_bool}

-- CELLS
pub starts_at : (i : ℕ) → 3344 * i ≡ width * i
starts_at i = ap (λ (n : ℕ). n * i) (sym width_is)

pub ends_at : (i : ℕ) → 3344 * i + 3344 ≡ width * i + width
ends_at i = ap (λ (n : ℕ). n * i + n) (sym width_is)

pub emptied : (l ys : List ℕ) (i a z : ℕ) → a ≡ width * i → z ≡ width * i + width → width * i + width ≤ length l → ys ≡ replicate (length (take (z - a) (drop a l))) empty_word
    → take a l ++ (ys ++ drop (z - a) (drop a l)) ≡ sets l (width * i) empty_cells
unfolding empty_cells
emptied l ys i a z e f r h = filled l ys a z width empty_word (omega (arith, e, f)) (omega (arith, f)) h ∙ ap (λ (b : ℕ). sets l b (replicate width empty_word)) e

-- ONE ROW'S CELLS, as a part of the slice
part_is : (l : List ℕ) (i a z : ℕ) → a ≡ width * i → z ≡ width * i + width → take (z - a) (drop a l) ≡ take width (drop (width * i) l)
part_is l i a z e f = let k : z - a ≡ width = omega (arith, f, width_is) in ap₂ {C = List ℕ} (λ n m. take n (drop m l)) k e

pub judge_fits : (m : List ℕ) (i a z : ℕ) → a ≡ width * i → z ≡ width * i + width → length m ≡ z - a → length m ≡ 3344
judge_fits m i a z e f n = omega (arith, e, f, n, width_is)

count_long : (c : Counting) (m : List ℕ) → length (counting_is c m) ≡ length m
unfolding counting_is half_before
count_long c m = length-set (half_before c m) (c.start + c.place) _ ∙ by_bool c.newer (λ p. rw p (length-sets m c.start (replicate half empty_word))) (λ p. rw p)

pub counted : (l ys : List ℕ) (i a z : ℕ) (c : Counting) → a ≡ width * i → z ≡ width * i + width → width * i + width ≤ length l → ys ≡ counting_is c (take (z - a) (drop a l))
    → take a l ++ (ys ++ drop (z - a) (drop a l)) ≡ sets l (width * i) (counting_is c (take width (drop (width * i) l)))
counted l ys i a z c e f r q =
    let m = take width (drop (width * i) l) in
    let x : ys ≡ counting_is c m = q ∙ ap (λ (n : List ℕ). counting_is c n) (part_is l i a z e f) in
    let n : length (counting_is c m) ≡ width = count_long c m ∙ length-take-le width (drop (width * i) l) (omega (arith, r, length-drop (width * i) l)) in
    let k : z - a ≡ length (counting_is c m) = omega (arith, f, n, width_is) in
    let t : sets l (width * i) (counting_is c m) ≡ take (width * i) l ++ (counting_is c m ++ drop (width * i + length (counting_is c m)) l) =
    sets-eq (counting_is c m) l (width * i) (omega (arith, n, r)) ∙ append_assoc (take (width * i) l) (counting_is c m) (drop (width * i + length (counting_is c m)) l) in
    ap₂ {C = List ℕ} (λ u v. take a l ++ (u ++ v)) x (drop_drop_at k) ∙ ap (λ (b : ℕ). take b l ++ (counting_is c m ++ drop (b + length (counting_is c m)) l)) e ∙ sym t
  where
    drop_drop_at : {j : ℕ} → z - a ≡ j → drop (z - a) (drop a l) ≡ drop (a + j) l
    drop_drop_at k = drop-drop (z - a) a l ∙ ap (λ (b : ℕ). drop (a + b) l) k
