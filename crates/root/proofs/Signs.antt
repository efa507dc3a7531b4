-- A float beside zero: what the comparisons say of its sign and its digits. Assumes nothing.
use Rattle.std.proofs.Common.{◌≡◌, ℕ, zero, suc, ◌+◌, ◌*◌, ◌<◌, Bool, true, false, ◌&&◌, ◌||◌, T, eqb, ltb, ℤ, sym, ap, ◌∙◌, subst, zero-lt-suc, mul-pos, zero-mul, arith, eqb→eq, ltb→lt, lt→ltb}
use mathlib.Core.Bool.{beq}
use lib.Ieee.{fin, up, down, lt, eq}
use lib.Ieee.Fits.{up_pos, and_l}
use lib.Ieee.Bits.{is_true}
use Rattle.root.specs.Root.{plus_zero}

pub true_not_false : true ≡ false → ⊥
true_not_false e = subst T e tt

-- the other side of a comparison with zero
zero_side : (d : ℕ) → 0 * 1 * d ≡ 0
zero_side d = ap (λ (y : ℕ). y * d) (zero-mul 1) ∙ zero-mul d

digits_pos : (m : ℕ) (e : ℤ) → 0 < suc m * up e * 1
digits_pos m e = mul-pos (mul-pos (zero-lt-suc m) (up_pos e)) (zero-lt-suc 0)

pub plus_above : (m : ℕ) (e : ℤ) → lt plus_zero (fin false (suc m) e) ≡ true
unfolding lt
plus_above m e =
    is_true (ltb (0 * 1 * down e) (suc m * up e * 1)) (lt→ltb (0 * 1 * down e) (suc m * up e * 1) (subst (λ (y : ℕ). y < suc m * up e * 1) (sym (zero_side (down e))) (digits_pos m e)))

pub minus_below : (m : ℕ) (e : ℤ) → lt (fin true (suc m) e) plus_zero ≡ true
unfolding lt
minus_below m e =
    is_true (ltb 0 (suc m * up e * 1 + 0 * 1 * down e)) (lt→ltb 0 (suc m * up e * 1 + 0 * 1 * down e) (some (suc m * up e * 1) (0 * 1 * down e) (digits_pos m e)))
  where
    some : (a b : ℕ) → 0 < a → 0 < a + b
    some a b h = omega arith

pub plus_not_below : (m : ℕ) (e : ℤ) → lt (fin false m e) plus_zero ≡ true → ⊥
unfolding lt
plus_not_below m e l = none (m * up e * 1) (0 * 1 * down e) (zero_side (down e)) (ltb→lt (m * up e * 1) (0 * 1 * down e) (subst T (sym l) tt))
  where
    none : (a b : ℕ) → b ≡ 0 → a < b → ⊥
    none a b e h = omega arith

pub zero_equal : (s : Bool) (e : ℤ) → eq (fin s zero e) plus_zero ≡ true
unfolding eq
zero_equal s e = either s (0 * up e * 1) (0 * 1 * down e) (ap (λ (y : ℕ). y * 1) (zero-mul (up e))) (zero_side (down e))
  where
    either : (s : Bool) (a b : ℕ) → a ≡ 0 → b ≡ 0 → (eqb a b && (beq s false || eqb a 0)) ≡ true
    either true a b p q = ap (λ (y : ℕ). eqb y b && (false || eqb y 0)) p ∙ ap (λ (y : ℕ). eqb 0 y && (false || true)) q
    either false a b p q = ap (λ (y : ℕ). eqb y b && true) p ∙ ap (λ (y : ℕ). eqb 0 y && true) q

pub not_equal : (s : Bool) (m : ℕ) (e : ℤ) → eq (fin s (suc m) e) plus_zero ≡ true → ⊥
unfolding eq
not_equal s m e h =
    apart (suc m * up e * 1) (0 * 1 * down e) (digits_pos m e) (zero_side (down e))
    (eqb→eq (suc m * up e * 1) (0 * 1 * down e) (and_l (eqb (suc m * up e * 1) (0 * 1 * down e)) (beq s false || eqb (suc m * up e * 1) 0) (subst T (sym h) tt)))
  where
    apart : (a b : ℕ) → 0 < a → b ≡ 0 → a ≡ b → ⊥
    apart a b p q r = omega arith
