-- Positions gathered by steps: what stands below k is the sum of all that have a step below k, so no word need be asked again for each k. Assumes nothing.
use mathlib.Core.Path.{◌≡◌, refl, sym, ap, ◌∙◌}
use mathlib.Core.Bool.{Bool, true, false, cond}
use mathlib.Core.List.{List}
use Prim.Native.Nat.{ℕ, zero, suc, ◌+◌, ◌≤◌, ◌<◌, ◌*◌}
use native.Mathlib.Numerals.{add-one}
use native.Mathlib.Omega.{arith}
use native.Mathlib.Nat.{add-zero}
use borrow.Author.Tests.{eqb-true, eqb-false, ltb-true, ltb-false, lt-ltb, le-ltb}
use lib.Dec.{ltb, eqb}
use lib.ListN.{length, get_or, set, replicate, length-set, length-replicate}
use lib.Seq.{get_or-set_same, get_or-set_other, set-get_or}
use Rattle.cells.proofs.Passes.{pass_next, pass_skip}
use Rattle.cells.specs.Cells.{count_of}
use Rattle.cells.specs.Passes.{pass, sum_of}
use Rattle.cells.proofs.Words.{count_small}
use Rattle.view.specs.View.{positions_among}
use Rattle.nearest.specs.Counted.{no_steps, gather, below, cell_step, bin_step, cell_steps}
use Rattle.nearest.proofs.Sums.{sum_next, sum_le, none_behind}
use Rattle.nearest.proofs.Steps.{cell_below, bin_below}

-- ---- what stands below k
pub below_zero : (at : List ℕ) → below at 0 ≡ 0
unfolding below pass
below_zero at = refl

pub below_suc : (at : List ℕ) (k : ℕ) → below at (suc k) ≡ below at k + get_or at k 0
unfolding below
below_suc at k = sum_next (λ (j : ℕ). true) (λ (j : ℕ). get_or at j 0) k

pub below_plus : (at : List ℕ) (k : ℕ) → below at (k + 1) ≡ below at k + get_or at k 0
below_plus at k = ap (below at) (add-one k) ∙ below_suc at k

zero_at : (n k : ℕ) → ◌≡◌ {A = ℕ} (get_or (replicate n 0) k 0) 0
zero_at zero k = refl
zero_at (suc n) zero = refl
zero_at (suc n) (suc k) = zero_at n k

below_zeros : (n k : ℕ) → below (replicate n 0) k ≡ 0
below_zeros n zero = below_zero (replicate n 0)
below_zeros n (suc k) = let e = below_suc (replicate n 0) k in let f = below_zeros n k in let g = zero_at n k in omega arith

pub no_steps_below : (k : ℕ) → below no_steps k ≡ 0
unfolding no_steps
no_steps_below k = below_zeros 161 k

pub no_steps_length : length no_steps ≡ 161
unfolding no_steps
no_steps_length = length-replicate {A = ℕ} 161 0

-- ---- one number raised by v
other : (s k : ℕ) → (s ≡ k → ⊥) → ltb s (suc k) ≡ ltb s k
other s k h = by (ltb s k) refl where
  by : (t : Bool) → ltb s k ≡ t → ltb s (suc k) ≡ ltb s k
  by true e = lt-ltb s (suc k) (omega (arith, ltb-true s k e)) ∙ sym e
  by false e = le-ltb s (suc k) (apart s k h (ltb-false s k e)) ∙ sym e where
    apart : (s k : ℕ) → (s ≡ k → ⊥) → k ≤ s → suc k ≤ s
    apart s k h l = omega arith

module _ (at : List ℕ) (s v : ℕ) (l : s < length at) where
  abbrev to : List ℕ
  to = set at s (get_or at s 0 + v)

  next : (k : ℕ) (t : Bool) → eqb s k ≡ t → below to k ≡ below at k + cond (ltb s k) v 0 → below to (suc k) ≡ below at (suc k) + cond (ltb s (suc k)) v 0
  next k true e h =
      let q : s ≡ k = eqb-true s k e in
      let f = below_suc to k in
      let g = below_suc at k in
      let old : below to k ≡ below at k + 0 = h ∙ ap (λ (b : Bool). below at k + cond b v 0) (le-ltb s k (omega arith)) in
      let new : get_or to k 0 ≡ get_or at k 0 + v = ap (λ (j : ℕ). get_or to j 0) (sym q) ∙ get_or-set_same at s (get_or at s 0 + v) 0 l ∙ ap (λ (j : ℕ). get_or at j 0 + v) q in
      rw (lt-ltb s (suc k) (omega arith)) (omega arith)
  next k false e h =
      let f = below_suc to k in
      let g = below_suc at k in
      let new : get_or to k 0 ≡ get_or at k 0 = get_or-set_other at s k (get_or at s 0 + v) 0 (λ q. eqb-false s k e (sym q)) in
      rw (other s k (eqb-false s k e)) (omega arith)

  pub raised : (k : ℕ) → below to k ≡ below at k + cond (ltb s k) v 0
  raised zero = let e = below_zero to in let f = below_zero at in rw (le-ltb s 0 (omega arith)) (omega arith)
  raised (suc k) = next k (eqb s k) refl (raised k)

-- ---- the words' positions gathered
module _ (step : ℕ → ℕ) (words start : List ℕ) (small : (i : ℕ) → step i < length start) where
  pub gathered_length : (n : ℕ) → length (pass (gather step words) start n) ≡ length start
  unfolding pass gather
  gathered_length zero = refl
  gathered_length (suc n) =
      length-set (pass (gather step words) start n) (step n) (get_or (pass (gather step words) start n) (step n) 0 + count_of (get_or words n 0)) ∙ gathered_length n

  pub gathered_below : (n k : ℕ) → below (pass (gather step words) start n) k ≡ below start k + sum_of (λ (i : ℕ). ltb (step i) k) (λ (i : ℕ). count_of (get_or words i 0)) n
  unfolding pass gather
  gathered_below zero k = omega arith
  gathered_below (suc n) k =
      let e = raised (pass (gather step words) start n) (step n) (count_of (get_or words n 0)) (let m = gathered_length n in let h = small n in omega arith) k in
      let f = gathered_below n k in
      let g = sum_next (λ (i : ℕ). ltb (step i) k) (λ (i : ℕ). count_of (get_or words i 0)) n in
      omega arith

-- a number is part of what stands below the next
pub at_le : (at : List ℕ) (k : ℕ) → get_or at k 0 ≤ below at (suc k)
at_le at k = let e = below_suc at k in omega arith

-- a turn of the code's loops
pub gather_next : (step : ℕ → ℕ) (words start at : List ℕ) (i : ℕ) → at ≡ pass (gather step words) start i
    → set at (step i) (get_or at (step i) 0 + count_of (get_or words i 0)) ≡ pass (gather step words) start (i + 1)
unfolding gather
gather_next step words start at i e = ap (gather step words i) e ∙ sym (pass_next (gather step words) start i)

-- the same place and positions, the same store
pub gather_same : (at : List ℕ) {k k' c c' : ℕ} → k ≡ k' → c ≡ c' → set at k (get_or at k 0 + c) ≡ set at k' (get_or at k' 0 + c')
gather_same at p q = cc

-- no positions change nothing
pub gather_none : (at : List ℕ) (k c : ℕ) → c ≡ 0 → at ≡ set at k (get_or at k 0 + c)
gather_none at k c e = sym (ap (λ (n : ℕ). set at k (get_or at k 0 + n)) e ∙ ap (set at k) (add-zero (get_or at k 0)) ∙ set-get_or at k 0)

-- where all positions were seen the words behind change nothing
pub all_gathered_by :
    (step : ℕ → ℕ) (words start : List ℕ) (j n : ℕ) → j ≤ n → positions_among words n ≤ positions_among words j → pass (gather step words) start n ≡ pass (gather step words) start j
unfolding gather
all_gathered_by step words start j n le h =
    pass_skip (gather step words) start j n le (λ i p q at. sym (gather_none at (step i) (count_of (get_or words i 0)) (none_behind words j n h i p q)))

-- ---- all cells gathered, and then all bins
cell_small : (i : ℕ) → cell_step i < length no_steps
cell_small i = omega (arith, cell_below i, no_steps_length)

cells_length : (grid : List ℕ) (n : ℕ) → length (pass (gather cell_step grid) no_steps n) ≡ 161
cells_length grid n = gathered_length cell_step grid no_steps cell_small n ∙ no_steps_length

bin_small : (grid : List ℕ) (j : ℕ) → bin_step j < length (cell_steps grid)
unfolding cell_steps
bin_small grid j = omega (arith, bin_below j, cells_length grid 1600)

-- what stands below k: the positions of the cells so far, and then of all cells and the bins so far
abbrev at_cells : List ℕ → ℕ → ℕ → ℕ
at_cells grid k n = sum_of (λ (i : ℕ). ltb (cell_step i) k) (λ (i : ℕ). count_of (get_or grid i 0)) n

abbrev at_bins : List ℕ → ℕ → ℕ → ℕ
at_bins bins k n = sum_of (λ (j : ℕ). ltb (bin_step j) k) (λ (j : ℕ). count_of (get_or bins j 0)) n

cells_below : (grid : List ℕ) (n k : ℕ) → below (pass (gather cell_step grid) no_steps n) k ≡ at_cells grid k n
cells_below grid n k = gathered_below cell_step grid no_steps cell_small n k ∙ (let e = no_steps_below k in omega arith)

pub bins_below : (grid bins : List ℕ) (n k : ℕ) → below (pass (gather bin_step bins) (cell_steps grid) n) k ≡ at_cells grid k 1600 + at_bins bins k n
unfolding cell_steps
bins_below grid bins n k = gathered_below bin_step bins (cell_steps grid) (bin_small grid) n k ∙ ap (λ (m : ℕ). m + at_bins bins k n) (cells_below grid 1600 k)

-- so no number there passes 255 for each word
pub cells_fit : (grid : List ℕ) (n k : ℕ) → get_or (pass (gather cell_step grid) no_steps n) k 0 ≤ 255 * n
cells_fit grid n k =
    omega (arith, at_le (pass (gather cell_step grid) no_steps n) k, cells_below grid n (suc k), sum_le (λ (i : ℕ). ltb (cell_step i) (suc k)) (λ (i : ℕ). count_of (get_or grid i 0)) (λ i. count_small (get_or grid i 0)) n)

pub bins_fit : (grid bins : List ℕ) (n k : ℕ) → below (pass (gather bin_step bins) (cell_steps grid) n) k ≤ 408000 + 255 * n
bins_fit grid bins n k =
    omega (
      arith,
      bins_below grid bins n k,
      sum_le (λ (i : ℕ). ltb (cell_step i) k) (λ (i : ℕ). count_of (get_or grid i 0)) (λ i. count_small (get_or grid i 0)) 1600,
      sum_le (λ (j : ℕ). ltb (bin_step j) k) (λ (j : ℕ). count_of (get_or bins j 0)) (λ j. count_small (get_or bins j 0)) n,
    )

pub bins_below_fit : (grid bins : List ℕ) (n k : ℕ) → get_or (pass (gather bin_step bins) (cell_steps grid) n) k 0 ≤ 408000 + 255 * n
bins_below_fit grid bins n k = omega (arith, at_le (pass (gather bin_step bins) (cell_steps grid) n) k, bins_fit grid bins n (suc k))
