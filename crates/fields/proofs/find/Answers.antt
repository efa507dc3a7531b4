-- The place that `first_place` answers, or the length, is `first_of`.
use Rattle.fields.proofs.Lines.{find_is}
use Rattle.fields.proofs.find.Goals as goal

pub returns : goal.returns
returns c = find_is c.args.byte c.args.s.now c.unwrap_or.ensures c.first_place.ensures.is
