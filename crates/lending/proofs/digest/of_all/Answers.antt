-- Number, ends, rows and cells one after the other.
use Rattle.std.proofs.Common.{rules}
use Rattle.lending.proofs.Walking.{all_mixed}
use Rattle.lending.proofs.digest.of_all.Goals as goal

pub returns : goal.returns
returns c = search (all_mixed, rules)
