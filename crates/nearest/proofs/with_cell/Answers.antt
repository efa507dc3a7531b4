-- The cell's distance from the site, positions and steps are its spot's.
use Rattle.std.proofs.Common.{refl, sym, rules}
use Rattle.nearest.specs.Counted.{cell_spot}
use Rattle.nearest.proofs.with_cell.Goals as goal

pub returns : goal.returns
unfolding cell_spot
returns c = c.nearer.ensures (cell_spot _ _) (sym c.from_site.ensures.0) refl (λ k p. search rules)
