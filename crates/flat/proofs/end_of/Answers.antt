-- Row i ends 25 words behind its start (`ends_at`).
use Rattle.flat.proofs.Rows.{ends_at}
use Rattle.std.proofs.Common.{rules}
use Rattle.flat.proofs.end_of.Goals as goal

pub returns : goal.returns
returns c = search (ends_at, rules)
