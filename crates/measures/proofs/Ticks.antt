-- Degrees in ticks: 2 ^ 25 times their size is exact, half of it rounded is the ticks, and it is small. Assumes nothing.
use Rattle.std.proofs.Common.{◌≡◌, ℕ, zero, suc, ◌+◌, ◌*◌, ◌/◌, ◌^◌, ◌<◌, ◌≤◌, Bool, true, false, cond, T, ℤ, pos, neg_ℤ, nat_abs, sym, refl, ap, ◌∙◌, le_trans, le_of_eq, le_of_suc-le-suc, mul-le-mul_right, zero-lt-suc, suc-mul, div-lt_iff_lt-mul, mul-pos, zero-mul, mul_right_comm, mul_left_comm, arith, le→leb, leb→le}
use native.Mathlib.Nat.{div-eq_of_lt}
use lib.Ieee.{Float, nan, inf, fin, binary64, up, down, mul, neg, lt, fits, to_unsigned}
use lib.Ieee.Fits.{down_pos, neg-fits}
use lib.Ieee.Exact.{HasValue}
use lib.Ieee.Positive.{num, den, den_pos}
use Rattle.measures.specs.Degrees.{nearest_up, within, tick_of}
use Rattle.root.specs.Root.{plus_zero}
use Rattle.root.proofs.Signs.{true_not_false, minus_below, plus_not_below}
use Rattle.measures.proofs.Scaled.{scaled, in_range, cut, halved}

abbrev pub two25 : Float
two25 = fin false 1 (pos 25)

-- 2 ^ 25 times the size of x is the float w, but for the sign of a zero, and half of it rounded is x's ticks but for the sign, b
pub record Ticks (x w : Float) (b : Bool) : Type 0 where
  pub sign : Bool
  pub value : HasValue w sign (num x * 2 ^ 25) (den x)
  pub zero_size : T sign → num x * 2 ^ 25 < 1 * den x
  pub bound : num x ≤ 180 * den x
  pub is : tick_of x ≡ cond b (neg_ℤ (pos (nearest_up (num x * 2 ^ 24) (den x)))) (pos (nearest_up (num x * 2 ^ 24) (den x)))

times : (a d : ℕ) → a ≤ 180 * d → a * 2 ^ 25 ≤ 2 ^ 60 * d
times a d h = omega arith

nothing : (e : ℤ) (t : ℕ) → 0 * up e * 2 ^ t ≡ 0
nothing e t = ap (λ (y : ℕ). y * 2 ^ t) (zero-mul (up e)) ∙ zero-mul (2 ^ t)

nearest_zero : (a d : ℕ) → 0 < d → a ≡ 0 → nearest_up a d ≡ 0
nearest_zero a d D e = ap (λ (y : ℕ). nearest_up y d) e ∙ div-eq_of_lt (less d D)
  where
    less : (d : ℕ) → 0 < d → 2 * 0 + d < 2 * d
    less d h = omega arith

-- degrees, by the sign that the program tests
pub ticks_of_lem : (x : Float) → T (fits binary64 x) → T (within 180 x) → (b : Bool) → lt x plus_zero ≡ b → Ticks x (mul binary64 (cond b (neg x) x) two25) b
unfolding within tick_of neg
ticks_of_lem nan f h b l = absurd h
ticks_of_lem (inf s) f h b l = absurd h
ticks_of_lem (fin false m e) f h true l = absurd (plus_not_below m e l)
ticks_of_lem (fin false m e) f h false l =
    let a : m * up e ≤ 180 * down e = leb→le (m * up e) (180 * down e) h in
    record { sign = false; value = scaled false m e 25 f (times (m * up e) (down e) a); zero_size = λ t. absurd t; bound = a; is = refl }
ticks_of_lem (fin true m e) f h true l =
    let a : m * up e ≤ 180 * down e = leb→le (m * up e) (180 * down e) h in
    record { sign = false; value = scaled false m e 25 (neg-fits binary64 (fin true m e) f) (times (m * up e) (down e) a); zero_size = λ t. absurd t; bound = a; is = refl }
ticks_of_lem (fin true (suc m) e) f h false l = absurd (true_not_false (sym (minus_below m e) ∙ l))
ticks_of_lem (fin true zero e) f h false l =
    let a : 0 * up e ≤ 180 * down e = leb→le (0 * up e) (180 * down e) h in
    let z : nearest_up (0 * up e * 2 ^ 24) (down e) ≡ 0 = nearest_zero (0 * up e * 2 ^ 24) (down e) (down_pos e) (nothing e 24) in record {
      sign = true;
      value = scaled true 0 e 25 f (times (0 * up e) (down e) a);
      zero_size = λ t. less (0 * up e * 2 ^ 25) (down e) (down_pos e) (nothing e 25);
      bound = a;
      is = ap (λ (n : ℕ). neg_ℤ (pos n)) z ∙ sym (ap pos z);
    }
  where
    less : (a d : ℕ) → 0 < d → a ≡ 0 → a < 1 * d
    less a d D e = omega arith

-- ---- the ticks, as a number of 64 bits with a sign

module _ (x w : Float) (b : Bool) (t : Ticks x w b) where
  pub in_reach : T (lt (fin true 1 (pos 0)) w) × T (lt w (fin false 1 (pos 53)))
  in_reach = in_range 53 w t.sign (num x * 2 ^ 25) (den x) (den_pos x) t.value t.zero_size (less (num x) (den x) (den_pos x) t.bound)
    where
      less : (a d : ℕ) → 0 < d → a ≤ 180 * d → a * 2 ^ 25 < 2 ^ 53 * d
      less a d D h = omega arith

  pub half_is : (to_unsigned 64 w + 1) / 2 ≡ nearest_up (num x * 2 ^ 24) (den x)
  half_is =
      ap (λ (n : ℕ). (n + 1) / 2)
      (cut w t.sign (num x * 2 ^ 25) (den x) (den_pos x) t.value t.zero_size (less (num x) (den x) (den_pos x) t.bound) ∙ ap (λ (a : ℕ). a / den x) (twice (num x)))
      ∙ halved (num x * 2 ^ 24) (den x) (den_pos x)
    where
      twice : (a : ℕ) → a * 2 ^ 25 ≡ a * 2 ^ 24 * 2
      twice a = omega arith

      less : (a d : ℕ) → 0 < d → a ≤ 180 * d → a * 2 ^ 25 < 2 ^ 64 * d
      less a d D h = omega arith

  pub ticks_lt : nearest_up (num x * 2 ^ 24) (den x) < 2 ^ 40
  ticks_lt = (div-lt_iff_lt-mul (mul-pos (zero-lt-suc 1) (den_pos x))).1 (less (num x) (den x) (den_pos x) t.bound)
    where
      less : (a d : ℕ) → 0 < d → a ≤ 180 * d → 2 * (a * 2 ^ 24) + d < 2 ^ 40 * (2 * d)
      less a d D h = omega arith

-- ---- what callers ask: a wider range, and how large the ticks are

-- what is within d is within more
pub within_mono : (d k : ℕ) (x : Float) → d ≤ k → T (within d x) → T (within k x)
unfolding within
within_mono d k nan h t = t
within_mono d k (inf s) h t = t
within_mono d k (fin s m e) h t = le→leb (m * up e) (k * down e) (le_trans (leb→le (m * up e) (d * down e) t) (mul-le-mul_right (down e) h))

size_signed : (s : Bool) (n : ℕ) → nat_abs (cond s (neg_ℤ (pos n)) (pos n)) ≡ n
size_signed true zero = refl
size_signed true (suc n) = refl
size_signed false n = refl

-- a value of at most d rounds to at most d
nearest_le : (a d c : ℕ) → 0 < c → a ≤ d * c → nearest_up a c ≤ d
nearest_le a d c C h = le_of_suc-le-suc ((div-lt_iff_lt-mul (mul-pos (zero-lt-suc 1) C)).1 (less a (d * c) c C h (twice d c)))
  where
    twice : (d c : ℕ) → suc d * (2 * c) ≡ 2 * (d * c) + 2 * c
    twice d c = suc-mul d (2 * c) ∙ ap (λ (x : ℕ). x + 2 * c) (mul_left_comm d 2 c)

    less : (a x c : ℕ) → 0 < c → a ≤ x → {y : ℕ} → y ≡ 2 * x + 2 * c → 2 * a + c < y
    less a x c C h e = omega arith

-- degrees within d are at most d * 2 ^ 24 ticks
pub tick_bound : (d : ℕ) (x : Float) → T (within d x) → nat_abs (tick_of x) ≤ d * 2 ^ 24
unfolding within tick_of
tick_bound d nan t = absurd t
tick_bound d (inf s) t = absurd t
tick_bound d (fin s m e) t =
    le_trans (le_of_eq (size_signed s (nearest_up (m * up e * 2 ^ 24) (down e))))
    (nearest_le (m * up e * 2 ^ 24) (d * 2 ^ 24) (down e) (down_pos e) (le_trans (mul-le-mul_right (2 ^ 24) (leb→le (m * up e) (d * down e) t)) (le_of_eq (mul_right_comm d (down e) (2 ^ 24)))))
