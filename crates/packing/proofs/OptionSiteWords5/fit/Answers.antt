-- By the tag: none, a site, or neither; its degrees are any two words.
use Rattle.packing.proofs.Tests.{zeros_part, site_none, site_some, site_other}
use Rattle.std.proofs.Common.{rules}
use Rattle.packing.proofs.OptionSiteWords5.fit.Goals as goal

pub returns-in-0 : goal.returns-in-0
returns-in-0 c = search (site_none, zeros_part 4 1, rules)

pub returns-in-1 : goal.returns-in-1
returns-in-1 c = search (site_some, rules)

pub returns-in_default : goal.returns-in_default
returns-in_default c = search (site_other, rules)
