-- By the tag: none, a value, or neither.
use Rattle.packing.proofs.Tests.{maybe_none, maybe_some, maybe_other}
use Rattle.std.proofs.Common.{rules}
use Rattle.packing.proofs.OptionWords2.fit.Goals as goal

pub returns-in-0 : goal.returns-in-0
returns-in-0 g c = search (maybe_none, rules)

pub returns-in-1 : goal.returns-in-1
returns-in-1 g c = search (maybe_some, rules)

pub returns-in_default : goal.returns-in_default
returns-in_default g c = search (maybe_other, rules)
