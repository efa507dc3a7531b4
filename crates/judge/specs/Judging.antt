-- A judging (01, "A judging"), in its order. Definitions only; each enum is taken apart by the clauses of one of them.
use Rattle.std.specs.Prelude.{ℕ, ◌*◌, ◌≤◌, ◌≡◌, Bool, cond, List, ltb, Float, Some, None, Option}
use Rattle.measures.specs.Steps.{off_of}
use Rattle.view.specs.View.{kept, grid_of, far_of}
use Rattle.view.specs.declared.Far.{Far}
use Rattle.sites.specs.declared.Site.{Site}
use Rattle.past_horizon.specs.Horizon.{past_horizon}
use Rattle.around.specs.Marks.{outside_of}
use Rattle.near_field.specs.Near.{near_field}
use Rattle.near_field.specs.declared.Judgment.{Judgment}
use Rattle.near_field.specs.declared.Judgment.TheVariants.{Unjudged, Wrong}
use Rattle.near_field.specs.declared.Evidence.TheVariants.{Horizon, NothingNear}
use Rattle.nearest.specs.Nothing.{places, nothing_near}

-- the nothing-near distance if outside and there is one
unfoldable pub if_outside : Bool → Option ℕ → Option ℕ
if_outside outside empty = cond outside empty None

-- 2, off: the nothing-near distance if outside and there is one, else the excess
unfoldable pub horizon_off : Option ℕ → Float → ℕ
horizon_off (Some km) excess = km
horizon_off None excess = off_of excess

-- 3: Outside and nothing near: Wrong. 4: Under 12 places: Unjudged. 5: Near field.
unfoldable pub after_horizon : Option ℕ → List ℕ → Far → Bool → Judgment
after_horizon (Some km) grid far outside = Wrong km NothingNear
after_horizon None grid far outside = cond (ltb (places grid far) 12) Unjudged (near_field grid outside)

-- 2: Wrong by Horizon, where enough is past it
unfoldable pub by_horizon : Option Float → Option ℕ → List ℕ → Far → Bool → Judgment
by_horizon (Some excess) empty grid far outside = Wrong (horizon_off empty excess) Horizon
by_horizon None empty grid far outside = after_horizon empty grid far outside

-- 2 to 5, of the merged cells
unfoldable pub judge_cells : Site → List ℕ → Far → Judgment
judge_cells site grid far =
    let outside = outside_of grid far.cells in
    by_horizon (past_horizon site far) (if_outside outside (nothing_near grid far)) grid far outside

-- of a row's cells: Merge the halves ..
unfoldable pub judge_row : Site → List ℕ → Bool → Bool → Judgment
judge_row site cells even odd = judge_cells site (grid_of cells even odd) (far_of cells even odd)

-- 1: No site, or aircraft under 15: Unjudged.
unfoldable pub judge_of : Option Site → Option ℕ → Option ℕ → List ℕ → ℕ → ℕ → Judgment
judge_of (Some site) even odd cells now aircraft = cond (ltb aircraft 15) Unjudged (judge_row site cells (kept even now) (kept odd now))
judge_of None even odd cells now aircraft = Unjudged

-- what every distance said is: a step of 5 from 5 to 800
pub record Step (off : ℕ) : Type 0 where
  pub steps : ℕ
  pub is : off ≡ 5 * steps
  pub some : 1 ≤ steps
  pub most : steps ≤ 160
