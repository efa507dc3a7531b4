-- Words that fit open as the row read from them, others as junk (`opens`, `opens_junk`).
use Rattle.flat.proofs.Opening.{opens, opens_junk}
use Rattle.std.proofs.Common.{rules}
use Rattle.flat.proofs.open.Goals as goal

pub returns-then-row_fits : goal.returns-then-row_fits
returns-then-row_fits c = search (opens, rules)

pub returns-else-row_fits : goal.returns-else-row_fits
returns-else-row_fits c = search (opens_junk, rules)
