-- None has no steps (`none_two`).
use Rattle.std.proofs.Common.{sym}
use Rattle.nearest.proofs.Two.{none_two}
use Rattle.nearest.proofs.none_nearest.Goals as goal

pub returns : goal.returns
returns c = sym none_two
