-- Above the infinity's pattern, the sign aside, every pattern is a NaN's; any other is no NaN's.
use Rattle.std.proofs.Common.{sym}
use Rattle.std.specs.Float.Ieee.{div, of_bits}
use Rattle.reals.proofs.Decimals.{no_nan_pattern, nan_pattern}
use Rattle.reals.proofs.float_of.Goals as goal

pub float_from_bits-result : goal.float_from_bits-result
float_from_bits-result c = no_nan_pattern c.args.bits c.if-bits-gt9218868437227405312.false

pub returns-then-bits-gt9218868437227405312 : goal.returns-then-bits-gt9218868437227405312
unfolding div of_bits
returns-then-bits-gt9218868437227405312 c = sym (nan_pattern c.args.bits c.if-bits-gt9218868437227405312.true)
