-- The row's first cell and the columns before the cut.
use Rattle.std.proofs.Common.{arith}
use Rattle.around.specs.Counts.{cut_at}
use Rattle.around.proofs.spans.Row.cut.Goals as goal

pub returns : goal.returns
unfolding cut_at
returns c = (cc, omega arith)
