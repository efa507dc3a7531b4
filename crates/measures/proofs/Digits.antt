-- A float from 1 up to below 2 ^ 53: its pattern's exponent is at most 1075, so that its digits are cut and never filled up. Assumes nothing.
use Rattle.std.proofs.Common.{◌≡◌, ℕ, ◌+◌, ◌-◌, ◌*◌, ◌/◌, ◌^◌, ◌<◌, ◌≤◌, Bool, true, false, ◌||◌, T, sym, refl, subst, le_trans, le_of_eq, lt_of_lt_of_le, div-lt_iff_lt-mul, mul-one, arith, ltb→lt, pow_pos, pow_mono, pow-add}
use lib.Ieee.{Float, nan, inf, fin, binary64, up, down, size, lt, eq, le, fits, to_bits, to_unsigned}
use lib.Ieee.Fits.{down_pos}
use lib.Ieee.Digits.{size-lt, size-le}
use lib.Ieee.Positive.{num, den, den_pos, positive, own_value, between}
use Rattle.std.proofs.num.Truncating.{one, two_to}
use Rattle.root.proofs.Units.{not_too_low, in_units}
use Rattle.root.proofs.Pattern.{bits_of}
use Rattle.measures.proofs.Scaled.{under, in_range, cut}

-- at least 1 and below 2 ^ 53, so above zero
above_zero : (y : Float) → T (le one y) → T (lt y (two_to 53)) → T (positive y)
unfolding le
above_zero y a l = between one y (two_to 53) tt tt a (or_l (lt y (two_to 53)) (eq y (two_to 53)) l)
  where
    or_l : (p q : Bool) → T p → T (p || q)
    or_l true q t = tt
    or_l false q t = absurd t

small : (y : Float) → T (positive y) → T (lt y (two_to 53)) → num y < 2 ^ 53 * den y
unfolding lt
small nan p l = absurd p
small (inf s) p l = absurd p
small (fin true m e) p l = absurd p
small (fin false m e) p l = subst (λ (k : ℕ). k < 2 ^ 53 * down e) (mul-one (m * up e)) (ltb→lt (m * up e * 1) (1 * 2 ^ 53 * down e) l)

-- the digits of a pattern
digits_lt : (a : ℕ) → a / 2 ^ (size a - 53) < 2 ^ 53
digits_lt a = (div-lt_iff_lt-mul (pow_pos (size a - 53))).1 (lt_of_lt_of_le (size-lt a) (le_trans (pow_mono (reach (size a))) (le_of_eq (pow-add 2 53 (size a - 53)))))
  where
    reach : (k : ℕ) → k ≤ 53 + (k - 53)
    reach k = omega arith

at_most : (k t b : ℕ) → b ≡ (k - 53) * 2 ^ 52 + t → k ≤ 1127 → t < 2 ^ 53 → b / 2 ^ 52 ≤ 1075
at_most k t b e h l = omega arith

exponent : (y : Float) → T (fits binary64 y) → T (positive y) → num y < 2 ^ 53 * den y → to_bits binary64 y / 2 ^ 52 ≤ 1075
exponent nan f p l = absurd p
exponent (inf s) f p l = absurd p
exponent (fin true m e) f p l = absurd p
exponent (fin false m e) f p l =
    let u = in_units m e (not_too_low false m e f) in
    let a = m * 2 ^ u.0 in
    at_most (size a) (a / 2 ^ (size a - 53)) (to_bits binary64 (fin false m e)) (bits_of (fin false m e) a (refl, u.1))
    (size-le a 1127 (under a (m * up e) (2 ^ 1074) (down e) (2 ^ 53) (down_pos e) (pow_pos 1074) (sym u.1) l)) (digits_lt a)

-- what the proof of `rounded_half` cites
pub record Whole (y : Float) : Type 0 where
  pub wide : T (lt y (two_to 64))
  pub low : to_bits binary64 y / 2 ^ 52 ≤ 1075
  pub whole_lt : to_unsigned 64 y < 2 ^ 53

pub whole : (y : Float) → T (fits binary64 y) → T (le one y) → T (lt y (two_to 53)) → Whole y
whole y f a l =
    let p = above_zero y a l in
    let s : num y < 2 ^ 53 * den y = small y p l in
    let w : num y < 2 ^ 64 * den y = wider (num y) (den y) s in record {
      wide = (in_range 64 y false (num y) (den y) (den_pos y) (own_value y p) (λ t. absurd t) w).1;
      low = exponent y f p s;
      whole_lt = subst (λ (n : ℕ). n < 2 ^ 53) (sym (cut y false (num y) (den y) (den_pos y) (own_value y p) (λ t. absurd t) w)) ((div-lt_iff_lt-mul (den_pos y)).1 s);
    }
  where
    wider : (a d : ℕ) → a < 2 ^ 53 * d → a < 2 ^ 64 * d
    wider a d h = omega arith
