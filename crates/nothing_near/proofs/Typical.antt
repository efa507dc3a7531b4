-- The typical distance in steps of 5 km: the first number of steps at which twice the positions gathered so far reach the total, since in a list in order the first
-- at which twice a running sum does so is told by sums alone (`reaching_within`). Assumes nothing.
use mathlib.Core.Path.{◌≡◌, sym, ap, ◌∙◌}
use mathlib.Core.Bool.{true, false}
use mathlib.Core.List.{List}
use Prim.Native.Nat.{ℕ, suc, ◌+◌, ◌*◌, ◌≤◌, ◌<◌}
use native.Mathlib.Omega.{arith}
use borrow.Author.Tests.{lt-ltb, le-ltb, le-leb, lt-leb}
use lib.Dec.{leb, ltb}
use lib.ListN.{get_or}
use Rattle.cells.specs.Passes.{first}
use Rattle.cells.proofs.Passes.{first_unique}
use Rattle.plane.specs.Plane.{steps}
use Rattle.near_field.proofs.Sorted.{within}
use Rattle.nearest.specs.Nothing.{Place, typical_of, positions_of, positions_in, typical_in}
use Rattle.nearest.specs.Counted.{below, step_of}
use Rattle.nothing_near.specs.Counted.{reached_at}
use Rattle.nothing_near.proofs.Weights.{where_same, reaching_within}
use Rattle.nearest.proofs.Gathered.{below_suc}
use Rattle.nothing_near.proofs.Kept.{Gathers}
use Rattle.nearest.proofs.Steps.{limit, steps_within, step_small}

-- ---- the code's search over the steps
pub found_steps : (at : List ℕ) (sum k : ℕ) → k ≤ 160 → ((j : ℕ) → j < k → reached_at at sum j ≡ false) → (k < 160 → reached_at at sum k ≡ true) → k ≡ first (reached_at at sum) 160
found_steps at sum k l before here = sym (first_unique (reached_at at sum) 160 k l before here)

pub reached_yes : (at : List ℕ) (sum passed k : ℕ) → passed ≡ below at k → sum ≤ 2 * (passed + get_or at k 0) → reached_at at sum k ≡ true
unfolding reached_at
reached_yes at sum passed k e h = le-leb sum (2 * below at (suc k)) (omega (arith, below_suc at k))

pub reached_not : (at : List ℕ) (sum passed k : ℕ) → passed ≡ below at k → 2 * (passed + get_or at k 0) < sum → reached_at at sum k ≡ false
unfolding reached_at
reached_not at sum passed k e h = lt-leb sum (2 * below at (suc k)) (omega (arith, below_suc at k))

-- ---- what the search finds is the typical distance in steps
module _ (at : List ℕ) (l : List Place) (gathers : Gathers at l) (some : 0 < positions_in l) where
  -- at most k steps is where twice the positions at up to k steps reach the total
  typical_reached : (k : ℕ) → k < 160 → ltb (steps (typical_in l) 1) (suc k) ≡ reached_at at (positions_in l) k
  unfolding typical_in positions_in reached_at step_of
  typical_reached k h =
      sym (steps_within (typical_in l) k h)
      ∙ reaching_within typical_of positions_of (limit k) l some
      ∙ ap (λ (n : ℕ). leb (positions_in l) (2 * n))
      (where_same (within typical_of (limit k)) (λ (p : Place). ltb (step_of p) (suc k)) positions_of (λ p. steps_within (typical_of p) k h) l ∙ sym (gathers (suc k)))

  pub typical_steps : steps (typical_in l) 1 ≡ first (reached_at at (positions_in l)) 160
  typical_steps =
      let t = steps (typical_in l) 1 in
      let small : t ≤ 160 = omega (arith, step_small (typical_in l)) in
      sym
      (first_unique (reached_at at (positions_in l)) 160 t small
      (λ j h. sym (typical_reached j (omega arith)) ∙ le-ltb t (suc j) (omega arith))
      (λ h. sym (typical_reached t h) ∙ lt-ltb t (suc t) (omega arith)))
