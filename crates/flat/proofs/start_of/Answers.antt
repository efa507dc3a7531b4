-- Row i starts 25 × i words in (`starts_at`).
use Rattle.flat.proofs.Rows.{starts_at}
use Rattle.std.proofs.Common.{rules}
use Rattle.flat.proofs.start_of.Goals as goal

pub returns : goal.returns
returns c = search (starts_at, rules)
