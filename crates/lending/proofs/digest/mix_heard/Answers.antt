-- Site, generation and ids one after the other.
use Rattle.std.proofs.Common.{rules}
use Rattle.lending.proofs.Mixing.{heard_mixed}
use Rattle.lending.proofs.digest.mix_heard.Goals as goal

pub returns : goal.returns
returns c = search (heard_mixed, rules)
