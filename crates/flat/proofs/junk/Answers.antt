-- The two compute to one row, whose degrees are 0 / 0.
use Rattle.flat.specs.Words.{junk}
use mathlib.Core.Path.{refl}
use lib.Ieee.{div, of_bits}
use Rattle.table.specs.Rows.{NONE, zero_key}
use Rattle.flat.proofs.junk.Goals as goal

pub returns : goal.returns
unfolding junk div of_bits zero_key NONE
returns c = refl
