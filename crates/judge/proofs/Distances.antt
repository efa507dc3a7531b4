-- Every distance that a judging says is a step of 5 from 5 to 800: a nothing-near distance and a near field's are said in whole
-- steps, and an excess of at most 800 km too. Assumes nothing.
use Rattle.std.specs.Prelude.{Some, None, Option}
use mathlib.Core.Path.{◌≡◌, refl, subst}
use mathlib.Core.Bool.{Bool, true, false, not, ◌||◌, cond}
use mathlib.Core.List.{List}
use Prim.Native.Nat.{ℕ, ◌*◌, ◌≤◌}
use native.Mathlib.Omega.{arith}
use lib.Dec.{T, ltb, leb, eqb}
use lib.Ieee.{Float}
use Rattle.measures.specs.Steps.{distance}
use Rattle.measures.proofs.Quotient.{off_step as excess_step}
use Rattle.view.specs.View.{kept, grid_of, far_of}
use Rattle.view.specs.declared.Far.{Far}
use Rattle.sites.specs.declared.Site.{Site}
use Rattle.past_horizon.specs.Horizon.{past_horizon}
use Rattle.past_horizon.proofs.Range.{past_distance}
use Rattle.plane.specs.Plane.{square}
use Rattle.around.specs.Marks.{around_of, sectors_in, outside_of}
use Rattle.near_field.specs.Near.{no_hole, members, mean_square, best_of, found_of, best_or_none, near_field_by, near_field}
use Rattle.near_field.specs.declared.Judgment.{Judgment}
use Rattle.near_field.specs.declared.Judgment.TheVariants.{Unjudged, Fits, Wrong}
use Rattle.near_field.specs.declared.Evidence.{Evidence}
use Rattle.near_field.specs.declared.Evidence.TheVariants.{NearField}
use Rattle.nearest.specs.Nothing.{places, nothing_near}
use Rattle.plane.proofs.Squares.{said_step}
use Rattle.nearest.proofs.Said.{off_step}
use Rattle.judge.specs.Judging.{if_outside, horizon_off, after_horizon, by_horizon, judge_cells, judge_row, judge_of, Step}

-- the three parts say so of their distances
as_step : {off : ℕ} → ((k : ℕ) × (off ≡ 5 * k) × (1 ≤ k) × (k ≤ 160)) → Step off
as_step k = record { steps = k.0; is = k.1; some = k.2; most = k.3 }

-- ---- answers whose distance, if they have one, is a step
data Said : Judgment → Type 0 where
  unjudged : Said Unjudged
  fits : Said Fits
  wrong : {off : ℕ} {by : Evidence} → Step off → Said (Wrong off by)

-- a choice of two such answers
either_said : (b : Bool) {x y : Judgment} → Said x → Said y → Said (cond b x y)
either_said true p q = p
either_said false p q = q

-- ---- the near field
found_said : (scale : ℕ) (grid : List ℕ) (best : ℕ) → Said (found_of scale grid best)
unfolding found_of
found_said scale grid best =
    either_said (ltb (mean_square grid best) (square (10 * members grid best))) unjudged
    (wrong {by = NearField} (as_step (said_step (scale * mean_square grid best) (members grid best))))

best_said : (scale : ℕ) (grid : List ℕ) (best : ℕ) → Said (best_or_none scale grid best)
unfolding best_or_none
best_said scale grid best = either_said (eqb best 1600) unjudged (found_said scale grid best)

near_said : (grid : List ℕ) (out : Bool) → Said (near_field grid out)
unfolding near_field_by
near_said grid out =
    let s = sectors_in (around_of grid 40 40).marks in
    either_said (leb 5 s) fits
    (either_said (eqb s 4 || not out) unjudged (either_said (no_hole grid) unjudged (best_said 1 grid (best_of grid 1600))))

-- ---- nothing near, and the horizon
abbrev OffStep : Option ℕ → Type 0
OffStep e = (d : ℕ) → e ≡ Some d → Step d

empty_said : (grid : List ℕ) (far : Far) (out : Bool) → OffStep (if_outside out (nothing_near grid far))
unfolding if_outside
empty_said grid far true d e = as_step (off_step grid far d e)
empty_said grid far false d e = let z : ◌≡◌ {A = ℕ} 0 1 = cc in absurd (omega arith)

off_said : (e : Option ℕ) (x : Float) → OffStep e → T (distance x) → Step (horizon_off e x)
unfolding horizon_off
off_said (Some km) x s h = s km refl
off_said None x s h = as_step (excess_step x h)

-- ---- joined in the judging's order
after_said : (e : Option ℕ) (grid : List ℕ) (far : Far) (out : Bool) → OffStep e → Said (after_horizon e grid far out)
unfolding after_horizon
after_said (Some km) grid far out s = wrong (s km refl)
after_said None grid far out s = either_said (ltb (places grid far) 12) unjudged (near_said grid out)

by_said : (p : Option Float) (e : Option ℕ) (grid : List ℕ) (far : Far) (out : Bool) → ((x : Float) → p ≡ Some x → T (distance x)) → OffStep e → Said (by_horizon p e grid far out)
unfolding by_horizon
by_said (Some x) e grid far out h s = wrong (off_said e x s (h x refl))
by_said None e grid far out h s = after_said e grid far out s

cells_said : (site : Site) (grid : List ℕ) (far : Far) → Said (judge_cells site grid far)
unfolding judge_cells
cells_said site grid far =
    let out = outside_of grid far.cells in
    by_said (past_horizon site far) (if_outside out (nothing_near grid far)) grid far out (λ x h. past_distance site far x h) (empty_said grid far out)

of_said : (site : Option Site) (even odd : Option ℕ) (cells : List ℕ) (now aircraft : ℕ) → Said (judge_of site even odd cells now aircraft)
unfolding judge_of judge_row
of_said (Some s) even odd cells now aircraft =
    either_said (ltb aircraft 15) unjudged (cells_said s (grid_of cells (kept even now) (kept odd now)) (far_of cells (kept even now) (kept odd now)))
of_said None even odd cells now aircraft = unjudged

-- the distance of an answer that is a Wrong
taken : {off : ℕ} {by : Evidence} → Said (Wrong off by) → Step off
taken (wrong s) = s

pub judge_distance :
    (site : Option Site) (even odd : Option ℕ) (cells : List ℕ) (now aircraft off : ℕ) (by : Evidence)
    → judge_of site even odd cells now aircraft ≡ Wrong off by → Step off
judge_distance site even odd cells now aircraft off by e = taken (subst Said e (of_said site even odd cells now aircraft))
