-- The table of the nine bands is right (`edge_square`).
use Rattle.std.proofs.Common.{refl, sym, rules}
use Rattle.nearest.specs.Counted.{bin_spot}
use Rattle.nearest.proofs.Steps.{bands}
use Rattle.nearest.proofs.Two.{edge_square}
use Rattle.nearest.proofs.with_bin.Goals as goal

pub returns : goal.returns
unfolding bands bin_spot
returns c = c.nearer.ensures (bin_spot _ _) (sym (edge_square c.args.j)) refl (λ k p. search rules)
