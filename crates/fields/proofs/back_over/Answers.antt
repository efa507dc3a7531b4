-- Behind the last byte that is no space there are spaces alone; where there is none, all are.
use Rattle.std.proofs.Common.{sym, rules}
use Rattle.fields.proofs.Lines.{back_found, back_none}
use Rattle.fields.proofs.back_over.Goals as goal

pub returns-in-Some : goal.returns-in-Some
returns-in-Some c = sym (back_found c.args.part.now c.in-Some.n (search rules) (search rules) (search rules))

pub returns-in-None : goal.returns-in-None
returns-in-None c = sym (back_none c.args.part.now (search rules))
