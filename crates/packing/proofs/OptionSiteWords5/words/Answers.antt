-- The case's five words (`site_made`), which their types keep in range (`in_range`).
use Rattle.packing.proofs.Tests.{site_made, in_range}
use Rattle.packing.specs.Ranges.{SiteIn}
use Rattle.std.proofs.Common.{rules}
use Rattle.packing.proofs.OptionSiteWords5.words.Goals as goal

pub returns-in-Some : goal.returns-in-Some
returns-in-Some c = search (site_made, in_range SiteIn, rules)
