-- Row i starts i widths in, and 3,344 is the width (`starts_at`).
use Rattle.bodies.proofs.Laws.{starts_at}
use Rattle.bodies.proofs.start_of.Goals as goal

pub returns : goal.returns
returns c = starts_at c.args.i
