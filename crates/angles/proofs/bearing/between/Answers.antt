-- Each quarter is `quarter_at`.
use Rattle.std.proofs.Common.{◌∙◌, arith, true, false}
use Rattle.angles.proofs.Sector.{quarter_at}
use Rattle.angles.proofs.bearing.between.Goals as goal

pub returns-in-true-true : goal.returns-in-true-true
returns-in-true-true c = (c.quarter_of.ensures.0 ∙ quarter_at true true c.args.y.size c.args.x.size c.in-true-true.is-0 c.in-true-true.is-1 c.requires.0 c.requires.1, omega arith)

pub returns-in-true-false : goal.returns-in-true-false
returns-in-true-false c = (c.quarter_of-in-true-false.ensures.0 ∙ quarter_at true false c.args.y.size c.args.x.size c.in-true-false.is-0 c.in-true-false.is-1 c.requires.0 c.requires.1, omega arith)

pub returns-in-false-true : goal.returns-in-false-true
returns-in-false-true c = (c.quarter_of-in-false-true.ensures.0 ∙ quarter_at false true c.args.y.size c.args.x.size c.in-false-true.is-0 c.in-false-true.is-1 c.requires.0 c.requires.1, omega arith)

pub returns-in-false-false : goal.returns-in-false-false
returns-in-false-false c = (c.quarter_of-in-false-false.ensures.0 ∙ quarter_at false false c.args.y.size c.args.x.size c.in-false-false.is-0 c.in-false-false.is-1 c.requires.0 c.requires.1, omega arith)
