-- A word that is not 0 tells (`zeros_not`).
use Rattle.packing.proofs.Tests.{zeros_not}
use Rattle.std.proofs.Common.{rules}
use Rattle.packing.proofs.zeros.Goals as goal

pub returns-then-w-ne0 : goal.returns-then-w-ne0
returns-then-w-ne0 c = search (zeros_not, rules)
