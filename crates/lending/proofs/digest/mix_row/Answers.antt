-- Key, site and ids, verdict, links and clock one after the other.
use Rattle.std.proofs.Common.{rules}
use Rattle.lending.proofs.Mixing.{row_mixed}
use Rattle.lending.proofs.digest.mix_row.Goals as goal

pub returns : goal.returns
returns c = search (row_mixed, rules)
