-- Six zeros behind none, else a run.
use Rattle.packing.proofs.Tests.{zeros_part, verdict_none, verdict_some}
use Rattle.std.proofs.Common.{rules}
use Rattle.packing.proofs.OptionVerdictWords7.fit.Goals as goal

pub returns-then-words-eq0 : goal.returns-then-words-eq0
returns-then-words-eq0 c = search (verdict_none, zeros_part 6 1, rules)

pub returns : goal.returns
returns c = search (verdict_some, rules)
