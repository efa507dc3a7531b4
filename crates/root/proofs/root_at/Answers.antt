-- `root_at`: the nearest whole number, under half of the exponent, is the root's pattern.
use Rattle.std.proofs.Common.{◌≡◌, ℕ, suc, ◌+◌, ◌-◌, ◌*◌, ◌/◌, ◌%◌, ◌^◌, ◌<◌, ◌≤◌, sym, ap, ◌∙◌, subst, mul_assoc, arith, pow-add}
use lib.Ieee.{binary64, of_bits}
use Rattle.root.proofs.Value.{of_pattern, normal, pattern_no_nan}
use Rattle.root.proofs.Whole.{twice_at_most}
use Rattle.root.specs.Root.{nearest54}
use Rattle.root.proofs.Guessed.{nearest_le}
use Rattle.root.proofs.Pattern.{pattern_of}
use Rattle.root.proofs.root_at.Goals as goal

-- the exponent's field, less one
place : (b : ℕ) → 2 ^ 52 ≤ b → b / 2 ^ 52 ≡ suc (b / 2 ^ 52 - 1)
place b h = omega arith

not_last : (b : ℕ) → b < 0x7ff0_0000_0000_0000 → b / 2 ^ 52 ≡ 2047 → ⊥
not_last b h e = omega arith

shift : (m b : ℕ) → 2 ^ 52 ≤ b → m * 2 ^ (b / 2 ^ 52 + 51) ≡ m * 2 ^ (b / 2 ^ 52 - 1) * 2 ^ 52
shift m b h = ap (λ (x : ℕ). m * 2 ^ x) (split b h) ∙ ap (λ (x : ℕ). m * x) (pow-add 2 (b / 2 ^ 52 - 1) 52) ∙ sym (mul_assoc m (2 ^ (b / 2 ^ 52 - 1)) (2 ^ 52))
  where
    split : (b : ℕ) → 2 ^ 52 ≤ b → b / 2 ^ 52 + 51 ≡ b / 2 ^ 52 - 1 + 52
    split b h = omega arith

-- the half of the exponent's field
half : (e : ℕ) → (e + 1021) / 2 ≡ (e + 51) / 2 + 485
half e = omega arith

-- the nearest has 53 digits, or is the number after them
small : (b n : ℕ) → n ≡ nearest54 ((b % 2 ^ 52 + 2 ^ 52) * ((b / 2 ^ 52 + 51) % 2 + 1)) → n ≤ 2 ^ 53
small b n e = subst (λ (r : ℕ). r ≤ 2 ^ 53) (sym e) (nearest_le ((b % 2 ^ 52 + 2 ^ 52) * ((b / 2 ^ 52 + 51) % 2 + 1)) (twice_at_most (b % 2 ^ 52 + 2 ^ 52) ((b / 2 ^ 52 + 51) % 2) (omega arith) (omega arith)))

pub overflow_add-result-2 : goal.overflow_add-result-2
overflow_add-result-2 c = omega (arith, c.args.b.below_infinity, small c.args.b.bits c.args.n c.requires)

pub float_from_bits-result : goal.float_from_bits-result
float_from_bits-result c = pattern_no_nan _ (omega (arith, c.args.b.below_infinity, small c.args.b.bits c.args.n c.requires))

pub returns : goal.returns
returns c =
    let b = c.args.b.bits in
    let e = b / 2 ^ 52 in
    let t = b % 2 ^ 52 in
    let low = c.args.b.above_subnormals in
    let high = c.args.b.below_infinity in
    ap (λ (y : ℕ). of_bits binary64 (y * 2 ^ 52 + c.args.n)) (half e)
    ∙ pattern_of ((t + 2 ^ 52) * 2 ^ (e - 1)) (t + 2 ^ 52) (e + 51) c.args.n (omega arith) (omega arith) (shift (t + 2 ^ 52) b low) (omega (arith, high)) c.requires
    ∙ sym (normal (of_bits binary64 b) b (of_pattern b (omega (arith, high))) (e - 1) (place b low) (λ q. not_last b high (place b low ∙ q)))
