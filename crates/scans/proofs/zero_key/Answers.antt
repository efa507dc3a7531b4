-- Thirty-two zeros are the key of zeros.
use Rattle.std.proofs.Common.{refl}
use Rattle.table.specs.Rows.{zero_key}
use Rattle.scans.proofs.zero_key.Goals as goal

pub returns : goal.returns
unfolding zero_key
returns c = refl
