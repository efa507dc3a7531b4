-- `sqrt`: each goal is a fact of `proofs/Value.antt` on the pattern of x.
use Rattle.std.proofs.Common.{◌≡◌, ℕ, ◌/◌, ◌%◌, ◌^◌, ◌<◌, ◌≤◌, true, T, sym, ap, ◌∙◌, subst, arith, rules}
use lib.Ieee.{Float, binary64, fits, lt, div, of_bits, to_bits}
use lib.Ieee.Bits.{of_bits-to_bits}
use Rattle.root.specs.Root.{root, plus_zero, nearest54}
use Rattle.root.proofs.Value.{Above, above, subnormal_pos, subnormal, infinite, root_of_zero, no_root, pattern_no_nan}
use Rattle.root.proofs.sqrt.Goals as goal

-- a pattern that is not the infinity's is below it
below_infinity : (b : ℕ) → b < 2 ^ 63 → (b / 2 ^ 52 ≡ 2047 → ⊥) → b < 0x7ff0_0000_0000_0000
below_infinity b h n = omega arith

above_subnormals : (b : ℕ) → (b / 2 ^ 52 ≡ 0 → ⊥) → 2 ^ 52 ≤ b
above_subnormals b n = omega arith

-- the pattern of an x above zero
module _ (x : Float) (held : T (fits binary64 x)) (plus : lt (of_bits binary64 0) x ≡ true) where
  is_above : lt plus_zero x ≡ true
  unfolding of_bits
  is_above = plus

  pattern : Above x (to_bits binary64 x)
  pattern = above x held is_above

  normal_high : (to_bits binary64 x / 2 ^ 52 ≡ 2047 → ⊥) → to_bits binary64 x < 0x7ff0_0000_0000_0000
  normal_high n = below_infinity (to_bits binary64 x) pattern.small n

  -- the root of what the pattern is read as
  as_read : root (of_bits binary64 (to_bits binary64 x)) ≡ root x
  as_read = ap root (of_bits-to_bits binary64 x held)

pub root_pattern-requires : goal.root_pattern-requires
root_pattern-requires c =
    let x = c.args.x in
    let f : T (fits binary64 x) = subst T (sym c.well_formed.0.1) tt in
    let p : 0 < to_bits binary64 x % 2 ^ 52 = subnormal_pos x (to_bits binary64 x) (pattern x f c.if-x.true) (is_above x f c.if-x.true) c.if-e-eq0.true in
    (omega arith, omega arith, omega (arith, p))

pub float_from_bits-result : goal.float_from_bits-result
float_from_bits-result c = pattern_no_nan c.root_pattern.result c.root_pattern.ensures.1

pub returns-then-e-eq0 : goal.returns-then-e-eq0
returns-then-e-eq0 c =
    let x = c.args.x in
    let f : T (fits binary64 x) = subst T (sym c.well_formed.0.1) tt in
    let b = to_bits binary64 x in
    c.root_pattern.ensures.0 (b % 2 ^ 52) (omega arith) ∙ sym (subnormal x b (pattern x f c.if-x.true) (is_above x f c.if-x.true) c.if-e-eq0.true)

pub returns-then-e-eq2047 : goal.returns-then-e-eq2047
returns-then-e-eq2047 c =
    let x = c.args.x in
    let f : T (fits binary64 x) = subst T (sym c.well_formed.0.1) tt in
    sym (infinite x (to_bits binary64 x) (pattern x f c.if-x.true) (is_above x f c.if-x.true) c.if-e-eq2047.true)

pub invariant_of-b : goal.invariant_of-b
invariant_of-b c = record {
  above_subnormals = above_subnormals (to_bits binary64 c.args.x) c.if-e-eq0.false;
  below_infinity = normal_high c.args.x (subst T (sym c.well_formed.0.1) tt) c.if-x.true c.if-e-eq2047.false;
}

pub root_at-requires : goal.root_at-requires
root_at-requires c =
    let n : c.unwrap_or_else.result ≡ nearest54 c.digits-p.result.n = search rules in
    n ∙ ap nearest54 c.digits-p.ensures

pub returns-then-x : goal.returns-then-x
returns-then-x c = c.root_at.ensures ∙ as_read c.args.x (subst T (sym c.well_formed.0.1) tt) c.if-x.true

pub returns-then-x-2 : goal.returns-then-x-2
unfolding of_bits
returns-then-x-2 c = sym (root_of_zero c.args.x c.if-x-2.true)

pub returns-else-x-2 : goal.returns-else-x-2
unfolding of_bits div
returns-else-x-2 c = sym (no_root c.args.x c.if-x.false c.if-x-2.false)
