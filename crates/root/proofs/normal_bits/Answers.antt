-- `normal_bits`: a difference that wrapped is too large for the test.
use Rattle.std.proofs.Common.{T, sym, subst, arith}
use lib.Ieee.{binary64}
use lib.Ieee.Bits.{to_bits-lt, of_bits-to_bits}
use Rattle.root.proofs.normal_bits.Goals as goal

pub invariant_of-result : goal.invariant_of-result
invariant_of-result c =
    let h = to_bits-lt binary64 c.args.x (subst T (sym c.well_formed.0.1) tt) in
    let t = c.if-b-lt9214364837600034816.true in
    record { above_subnormals = omega (arith, h, t); below_infinity = omega (arith, h, t) }

pub returns-then-b-lt9214364837600034816 : goal.returns-then-b-lt9214364837600034816
returns-then-b-lt9214364837600034816 c = of_bits-to_bits binary64 c.args.x (subst T (sym c.well_formed.0.1) tt)
