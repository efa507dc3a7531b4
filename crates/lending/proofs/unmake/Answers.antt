-- One more row is unmade.
use Rattle.std.proofs.Common.{rules}
use Rattle.lending.proofs.Writing.{unmade_go}
use Rattle.lending.proofs.unmake.Goals as goal

pub loop-i-preserved : goal.loop-i-preserved
loop-i-preserved c = search (unmade_go, rules)
