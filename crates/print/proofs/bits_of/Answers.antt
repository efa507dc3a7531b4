-- The one NaN's bits are a number.
use Rattle.print.proofs.Printing.{nan_bits}
use Rattle.print.proofs.bits_of.Goals as goal

pub returns-then-is_nan : goal.returns-then-is_nan
returns-then-is_nan c = nan_bits c.args.x c.if-is_nan.ensures.value
