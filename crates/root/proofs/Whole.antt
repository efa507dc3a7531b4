-- `isqrt` is the whole part of the square root, and the only number that is. Powers of two. Assumes nothing.
use Rattle.std.proofs.Common.{◌≡◌, ℕ, zero, suc, ◌+◌, ◌*◌, ◌^◌, ◌<◌, ◌≤◌, Bool, true, false, cond, T, leb, sym, refl, ap, ◌∙◌, le_trans, le_of_eq, lt_of_lt_of_le, le_of_suc-le-suc, lt_of_le_of_lt, lt_irrefl, mul-le-mul_right, mul_comm, le_antisymm, mul-le-mul_left, lt_of_not-le, mul-one, arith, leb→le, pow_mono, pow-add, shl_lt}
use native.Mathlib.Nat.{pow-succ'}
use lib.Dec.{nleb→lt}
use lib.Ieee.{size}
use lib.Ieee.Digits.{size-lt, size-le}
use Rattle.root.specs.Root.{isqrt}
use Rattle.root.proofs.Newton.{sq_next, sq_le}

-- ---- isqrt

abbrev Whole : ℕ → ℕ → Type 0
Whole n r = (r * r ≤ n) × (n < (r + 1) * (r + 1))

grow : (n r : ℕ) (b : Bool) → (T b → (r + 1) * (r + 1) ≤ suc n) → (b ≡ false → suc n < (r + 1) * (r + 1)) → Whole n r → Whole (suc n) (cond b (r + 1) r)
grow n r true y f w = (y tt, omega (arith, w.1, sq_next r, sq_next (r + 1)))
grow n r false y f w = (omega (arith, w.0), f refl)

pub isqrt_is : (n : ℕ) → Whole n (isqrt n)
unfolding isqrt
isqrt_is zero = (omega arith, omega arith)
isqrt_is (suc n) = grow n (isqrt n) (leb ((isqrt n + 1) * (isqrt n + 1)) (suc n)) (λ t. leb→le ((isqrt n + 1) * (isqrt n + 1)) (suc n) t)
    (λ e. nleb→lt ((isqrt n + 1) * (isqrt n + 1)) (suc n) (rw e tt)) (isqrt_is n)

pub not_above : (n a b : ℕ) → a * a ≤ n → n < (b + 1) * (b + 1) → a ≤ b
not_above n a b h k = le_of_suc-le-suc (lt_of_not-le (λ (g : suc b ≤ a). lt_irrefl n (lt_of_lt_of_le k (le_trans (sq_le (b + 1) a (omega arith)) h))))

pub isqrt_unique : (n r : ℕ) → r * r ≤ n → n < (r + 1) * (r + 1) → isqrt n ≡ r
isqrt_unique n r h k = le_antisymm (not_above n (isqrt n) r (isqrt_is n).0 k) (not_above n r (isqrt n) h (isqrt_is n).1)

-- ---- powers of two

pub four_pow : (j : ℕ) → 4 ^ j ≡ 2 ^ (j + j)
four_pow zero = refl
four_pow (suc j) = pow-succ' 4 j ∙ ap (λ (x : ℕ). 4 * x) (four_pow j) ∙ mul_comm 4 (2 ^ (j + j)) ∙ sym (pow-add 2 (j + j) 2) ∙ ap (λ (x : ℕ). 2 ^ x) (omega arith)

pub bit_pow : (b : ℕ) → b < 2 → b + 1 ≡ 2 ^ b
bit_pow zero h = refl
bit_pow (suc zero) h = refl
bit_pow (suc (suc b)) h = absurd (too_big b h)
  where
    too_big : (b : ℕ) → suc (suc b) < 2 → ⊥
    too_big b h = omega arith

-- a number of 53 digits, once or twice
pub twice_at_most : (n b : ℕ) → n < 2 ^ 53 → b < 2 → n * (b + 1) < 2 ^ 54
twice_at_most n b h l = lt_of_le_of_lt (mul-le-mul_left n (at_most b l)) (below n h)
  where
    at_most : (b : ℕ) → b < 2 → b + 1 ≤ 2
    at_most b l = omega arith

    below : (n : ℕ) → n < 2 ^ 53 → n * 2 < 2 ^ 54
    below n h = omega arith

pub once_at_least : (n b : ℕ) → 2 ^ 52 ≤ n → 2 ^ 52 ≤ n * (b + 1)
once_at_least n b h = le_trans h (le_trans (le_of_eq (sym (mul-one n))) (mul-le-mul_left n (some b)))
  where
    some : (b : ℕ) → 1 ≤ b + 1
    some b = omega arith

-- a number of 53 digits with j zeros after it has 53 + j
pub size_shifted : (n j : ℕ) → 2 ^ 52 ≤ n → n < 2 ^ 53 → size (n * 2 ^ j) ≡ 53 + j
size_shifted n j lo hi =
    le_antisymm (size-le (n * 2 ^ j) (53 + j) (shl_lt 53 j hi))
    (at_least (size (n * 2 ^ j)) j (lt_of_not-le (λ (g : size (n * 2 ^ j) ≤ 52 + j). lt_irrefl (n * 2 ^ j)
    (lt_of_lt_of_le (size-lt (n * 2 ^ j)) (le_trans (pow_mono g) (le_trans (le_of_eq (pow-add 2 52 j)) (mul-le-mul_right (2 ^ j) lo)))))))
  where
    at_least : (z j : ℕ) → 52 + j < z → 53 + j ≤ z
    at_least z j h = omega arith
