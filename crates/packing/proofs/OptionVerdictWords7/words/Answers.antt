-- The case's seven words (`verdict_made`), which their types keep in range (`in_range`).
use Rattle.packing.proofs.Tests.{verdict_made, in_range}
use Rattle.packing.specs.Ranges.{VerdictIn}
use Rattle.std.proofs.Common.{rules}
use Rattle.packing.proofs.OptionVerdictWords7.words.Goals as goal

pub returns-in-Some : goal.returns-in-Some
returns-in-Some c = search (verdict_made, in_range VerdictIn, rules)
