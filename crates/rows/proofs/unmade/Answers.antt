-- A fresh row: no links, and a key of zeros.
use Rattle.std.proofs.Common.{refl}
use Rattle.table.specs.Rows.{NONE, zero_key}
use Rattle.rows.proofs.unmade.Goals as goal

pub returns : goal.returns
unfolding NONE zero_key
returns c = refl
