-- Row i ends a width behind its start, and 3,344 is the width (`ends_at`).
use Rattle.bodies.proofs.Laws.{ends_at}
use Rattle.bodies.proofs.end_of.Goals as goal

pub returns : goal.returns
returns c = ends_at c.args.i
