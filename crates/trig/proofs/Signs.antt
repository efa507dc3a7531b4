-- Laws of a number that is held as its sign and its size: products, differences, quotients that round toward zero.
-- Assumes nothing.
use mathlib.Core.Path.{◌≡◌, refl, sym, ap, ◌∙◌}
use mathlib.Core.Bool.{Bool, true, false, not, beq, true≢false}
use Prim.Native.Nat.{ℕ, zero, suc, ◌+◌, ◌-◌, ◌*◌, ◌/◌, ◌^◌, ◌≤◌, ◌<◌}
use mathlib.Core.Logic.{⊎_elim}
use native.Mathlib.Nat.{mul-zero, zero-mul, zero-div, eq-or-lt_of_le}
use native.Mathlib.Omega.{arith}
use borrow.Author.Tests.{le-ltb, lt-ltb, ltb-true, ltb-false}
use lib.Dec.{ltb}
use Rattle.std.specs.Int.{abs_diff}
use lib.IntN.{ℤ, pos, negsuc, neg_ℤ, nat_abs, ◌-ℤ◌, ◌*ℤ◌, neg_ℤ-neg_ℤ, neg_ℤ-+ℤ, +ℤ_comm, *ℤ_comm}
use lib.Signed.{quot_z, lt_z}
use Rattle.trig.specs.Ticks.{scaled}
use Rattle.trig.specs.Value.{signed}

pub signed_plus : (n : ℕ) → signed false n ≡ pos n
unfolding signed
signed_plus n = refl

pub signed_minus : (n : ℕ) → signed true n ≡ neg_ℤ (pos n)
unfolding signed
signed_minus n = refl

pub abs_signed : (b : Bool) (n : ℕ) → nat_abs (signed b n) ≡ n
unfolding signed
abs_signed false n = refl
abs_signed true zero = refl
abs_signed true (suc n) = refl

-- ---- products and quotients
quot_neg : (k d : ℕ) → quot_z (neg_ℤ (pos k)) (pos d) ≡ neg_ℤ (pos (k / d))
quot_neg zero d = rw (zero-div d)
quot_neg (suc k) d = refl

pos_neg : (m n : ℕ) → pos m *ℤ neg_ℤ (pos n) ≡ neg_ℤ (pos (m * n))
pos_neg m zero = rw (mul-zero m)
pos_neg m (suc n) = refl

neg_pos : (m n : ℕ) → neg_ℤ (pos m) *ℤ pos n ≡ neg_ℤ (pos (m * n))
neg_pos zero n = rw (zero-mul n)
neg_pos (suc m) n = refl

neg_neg : (m n : ℕ) → neg_ℤ (pos m) *ℤ neg_ℤ (pos n) ≡ pos (m * n)
neg_neg zero zero = refl
neg_neg zero (suc n) = rw (zero-mul (suc n))
neg_neg (suc m) zero = rw (mul-zero (suc m))
neg_neg (suc m) (suc n) = refl

-- times a number that is not negative
pub quot_pos : (a : Bool) (m n d : ℕ) → quot_z (signed a m *ℤ pos n) (pos d) ≡ signed a (m * n / d)
unfolding signed
quot_pos false m n d = refl
quot_pos true m n d = rw (neg_pos m n) (quot_neg (m * n) d)

-- times a negative number
quot_minus : (a : Bool) (m n d : ℕ) → quot_z (signed a m *ℤ neg_ℤ (pos n)) (pos d) ≡ signed (not a) (m * n / d)
unfolding signed
quot_minus false m n d = rw (pos_neg m n) (quot_neg (m * n) d)
quot_minus true m n d = rw (neg_neg m n)

pub scaled_pos : (a : Bool) (m n : ℕ) → scaled (signed a m) (pos n) ≡ signed a (m * n / 2 ^ 30)
unfolding scaled
scaled_pos a m n = quot_pos a m n (2 ^ 30)

pub scaled_plus : (a : Bool) (m n : ℕ) → scaled (signed a m) (signed false n) ≡ signed a (m * n / 2 ^ 30)
scaled_plus a m n = rw (signed_plus n) (scaled_pos a m n)

pub scaled_minus : (a : Bool) (m n : ℕ) → scaled (signed a m) (signed true n) ≡ signed (not a) (m * n / 2 ^ 30)
unfolding scaled
scaled_minus a m n = rw (signed_minus n) (quot_minus a m n (2 ^ 30))

pub scaled_comm : (a b : ℤ) → scaled a b ≡ scaled b a
unfolding scaled
scaled_comm a b = rw (*ℤ_comm a b)

-- the signs multiply
pub scaled_signs : (a b : Bool) (m n : ℕ) → scaled (signed a m) (signed b n) ≡ signed (not (beq a b)) (m * n / 2 ^ 30)
scaled_signs false false m n = scaled_plus false m n
scaled_signs true false m n = scaled_plus true m n
scaled_signs false true m n = scaled_minus false m n
scaled_signs true true m n = scaled_minus true m n

-- ---- sums and differences
pub sub_le : (m n : ℕ) → n ≤ m → pos m -ℤ pos n ≡ signed false (m - n)
unfolding signed
sub_le m zero h = ap pos (omega arith)
sub_le m (suc n) h = rw (le-ltb m (suc n) h)

pub sub_lt : (m n : ℕ) → m < n → pos m -ℤ pos n ≡ signed true (n - m)
unfolding signed
sub_lt m zero h = absurd (omega arith)
sub_lt m (suc n) h = let e : suc n - m ≡ suc (suc n - suc m) = omega arith in rw (lt-ltb m (suc n) h, e)

-- of one sign
pub plus_plus : (m n : ℕ) → signed false m -ℤ signed false n ≡ pos m -ℤ pos n
unfolding signed
plus_plus m n = refl

pub minus_minus : (m n : ℕ) → signed true m -ℤ signed true n ≡ pos n -ℤ pos m
unfolding signed
minus_minus m n = rw (neg_ℤ-neg_ℤ (pos n)) (+ℤ_comm (neg_ℤ (pos m)) (pos n))

pub same_sign : (a b : Bool) → not (beq a b) ≡ false → a ≡ b
same_sign false false h = refl
same_sign true true h = refl
same_sign false true h = absurd (true≢false h)
same_sign true false h = absurd (true≢false h)

-- of two
pub two_signs : (a b : Bool) (m n : ℕ) → not (beq a b) ≡ true → signed a m -ℤ signed b n ≡ signed a (m + n)
unfolding signed
two_signs true false m n h = sym (neg_ℤ-+ℤ (pos m) (pos n))
two_signs false true m n h = rw (neg_ℤ-neg_ℤ (pos n))
two_signs false false m n h = absurd (true≢false (sym h))
two_signs true true m n h = absurd (true≢false (sym h))

-- of one sign: it turns where the second is the larger, and zero may have either
by_order : (b t : Bool) (m n : ℕ) → ltb m n ≡ t → signed (not (beq t b)) (abs_diff m n) ≡ signed b m -ℤ signed b n
by_order false true m n h = let l : m < n = ltb-true m n h in ap (signed true) (omega arith) ∙ sym (plus_plus m n ∙ sub_lt m n l)
by_order false false m n h = let l : n ≤ m = ltb-false m n h in ap (signed false) (omega arith) ∙ sym (plus_plus m n ∙ sub_le m n l)
by_order true true m n h = let l : m < n = ltb-true m n h in ap (signed false) (omega arith) ∙ sym (minus_minus m n ∙ sub_le n m (omega arith))
by_order true false m n h =
    ⊎_elim
    (λ e. ap (signed true) (omega (arith, e)) ∙ signed_minus 0 ∙ sym (minus_minus m n ∙ sub_le n m (omega (arith, e)) ∙ ap (signed false) (omega (arith, e)) ∙ signed_plus 0))
    (λ l. ap (signed true) (omega (arith, l)) ∙ sym (minus_minus m n ∙ sub_lt n m l))
    (eq-or-lt_of_le (ltb-false m n h))

pub one_sign : (b : Bool) (m n : ℕ) → signed (not (beq (ltb m n) b)) (abs_diff m n) ≡ signed b m -ℤ signed b n
one_sign b m n = by_order b (ltb m n) m n refl

-- ---- the sign of an integer, and its size
pub signed_of : (x : ℤ) → signed (lt_z x (pos 0)) (nat_abs x) ≡ x
unfolding signed
signed_of (pos n) = rw (le-ltb n 0 (omega arith))
signed_of (negsuc n) = refl
