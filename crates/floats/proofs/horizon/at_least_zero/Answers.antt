-- `at_least_zero`: the literal 0.0 is `plus_zero`.
use Rattle.std.proofs.Common.{Bool, cond, sym, ap}
use lib.Ieee.{of_bits}
use Rattle.floats.specs.Horizon.{at_least_zero}
use Rattle.root.specs.Root.{plus_zero}
use Rattle.floats.proofs.horizon.at_least_zero.Goals as goal

pub returns-then-x : goal.returns-then-x
unfolding at_least_zero of_bits
returns-then-x c = sym (ap (λ (b : Bool). cond b c.args.x plus_zero) c.if-x.true)

pub returns-else-x : goal.returns-else-x
unfolding at_least_zero of_bits
returns-else-x c = sym (ap (λ (b : Bool). cond b c.args.x plus_zero) c.if-x.false)
