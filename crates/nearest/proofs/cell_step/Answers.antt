-- The distance is the cell's from the site, and its steps are the plane's.
use Rattle.std.proofs.Common.{ℕ, ap, ◌∙◌, arith}
use Rattle.plane.specs.Plane.{steps}
use Rattle.nearest.specs.Counted.{cell_step}
use Rattle.nearest.proofs.cell_step.Goals as goal

pub returns : goal.returns
unfolding cell_step
returns c = (
  c.steps_of.ensures.0 ∙ ap (λ (d : ℕ). steps d 1) c.from_site.ensures.0,
  omega arith,
)
