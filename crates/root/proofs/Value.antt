-- The float that is read from a bit pattern, and its root. Assumes nothing.
use Rattle.std.proofs.Common.{◌≡◌, ℕ, zero, suc, ◌+◌, ◌*◌, ◌/◌, ◌%◌, ◌^◌, ◌<◌, ◌≤◌, Bool, true, false, cond, not, T, eqb, ltb, leb, sym, refl, ap, ◌∙◌, subst, lt_irrefl, mod-eq_of_lt, zero-lt-suc, add_comm, mul-pos, zero-mul, mul-one, mul-div_cancel, arith, eqb→eq, ltb→lt, leb→le, pow_pos}
use lib.Dec.{nleb→lt, not_T, eqb-suc-zero}
use lib.Ieee.{Float, nan, inf, fin, binary64, up, down, odd, fits, of_fields, to_bits, of_bits, nan_bits, lt, eq}
use lib.Ieee.Fits.{down_pos}
use lib.Ieee.Bits.{of_bits-to_bits, is_false, nan_bits_above}
use lib.Ieee.Exact.{HasValue, odd_sign}
use Rattle.root.specs.Root.{root, root_units, plus_zero}
use Rattle.root.proofs.Signs.{true_not_false, plus_above, zero_equal, not_equal}

-- ---- the root of a value above zero, by its size in units

pub root_value : (v : Float) (a : ℕ) → HasValue v false a (2 ^ 1074) → 0 < a → root v ≡ root_units a
unfolding root
root_value nan a h p = absurd h
root_value (inf s) a h p = absurd h
root_value (fin s zero e) a h p = absurd (lt_irrefl 0 (subst (λ (x : ℕ). 0 < x) (sym h.1 ∙ ap (λ (x : ℕ). x * 2 ^ 1074) (zero-mul (up e)) ∙ zero-mul (2 ^ 1074)) (mul-pos p (down_pos e))))
root_value (fin true (suc m) e) a h p = absurd (true_not_false h.0)
root_value (fin false (suc m) e) a h p = ap root_units (ap (λ (x : ℕ). x / down e) h.1 ∙ mul-div_cancel a (down_pos e))

-- ---- what is read from the bits of a value above zero

of_bits_is : (b : ℕ) → of_bits binary64 b ≡ of_fields binary64 (leb (2 ^ 63) b) (b % 2 ^ 63 / 2 ^ 52) (b % 2 ^ 52)
unfolding of_bits
of_bits_is b = refl

odd_below : (q k : ℕ) → lt plus_zero (odd 53 true q k 1074) ≡ false
unfolding odd lt
odd_below zero k = refl
odd_below (suc q) k = refl

below_by : (a b : Bool) (q k : ℕ) → lt plus_zero (cond a (cond b (inf true) nan) (odd 53 true q k 1074)) ≡ false
unfolding lt
below_by true true q k = refl
below_by true false q k = refl
below_by false b q k = odd_below q k

negative_below : (x t : ℕ) → lt plus_zero (of_fields binary64 true x t) ≡ false
unfolding of_fields
negative_below zero t = odd_below t 0
negative_below (suc x) t = below_by (eqb (suc x) 2047) (eqb t 0) (2 ^ 52 + t) x

pub record Above (x : Float) (b : ℕ) : Type 0 where
  pub read : x ≡ of_fields binary64 false (b / 2 ^ 52) (b % 2 ^ 52)
  pub small : b < 2 ^ 63

plain_read : (x : Float) (b : ℕ) → x ≡ of_fields binary64 false (b % 2 ^ 63 / 2 ^ 52) (b % 2 ^ 52) → b < 2 ^ 63 → Above x b
plain_read x b r l = record { read = r ∙ ap (λ (y : ℕ). of_fields binary64 false (y / 2 ^ 52) (b % 2 ^ 52)) (mod-eq_of_lt l); small = l }

-- what a pattern with no sign is read as
pub of_pattern : (b : ℕ) → b < 2 ^ 63 → Above (of_bits binary64 b) b
of_pattern b l = plain_read (of_bits binary64 b) b (of_bits_is b ∙ ap (λ (s : Bool). of_fields binary64 s (b % 2 ^ 63 / 2 ^ 52) (b % 2 ^ 52)) (no_sign b l)) l
  where
    apart : (b : ℕ) → b < 2 ^ 63 → 2 ^ 63 ≤ b → ⊥
    apart b l h = omega arith

    no_sign : (b : ℕ) → b < 2 ^ 63 → leb (2 ^ 63) b ≡ false
    no_sign b l = is_false (leb (2 ^ 63) b) (not_T (leb (2 ^ 63) b) (λ (u : T (leb (2 ^ 63) b)). apart b l (leb→le (2 ^ 63) b u)))

above_by : (x : Float) (b : ℕ) (s : Bool) → leb (2 ^ 63) b ≡ s → x ≡ of_fields binary64 s (b % 2 ^ 63 / 2 ^ 52) (b % 2 ^ 52) → lt plus_zero x ≡ true → Above x b
above_by x b true e r h = absurd (true_not_false (sym h ∙ ap (lt plus_zero) r ∙ negative_below (b % 2 ^ 63 / 2 ^ 52) (b % 2 ^ 52)))
above_by x b false e r h = plain_read x b r (nleb→lt (2 ^ 63) b (subst (λ (s : Bool). T (not s)) (sym e) tt))

pub above : (x : Float) → T (fits binary64 x) → lt plus_zero x ≡ true → Above x (to_bits binary64 x)
above x f h = above_by x (to_bits binary64 x) (leb (2 ^ 63) (to_bits binary64 x)) refl (sym (of_bits-to_bits binary64 x f) ∙ of_bits_is (to_bits binary64 x)) h

-- ---- the three kinds of pattern

zero_not_above : lt plus_zero (of_fields binary64 false 0 0) ≡ false
unfolding lt of_fields odd
zero_not_above = refl

low_at : (t : ℕ) → HasValue (of_fields binary64 false 0 t) false (t * 2 ^ 0) (2 ^ 1074)
unfolding of_fields
low_at t = odd_sign 53 false t 0 1074

low_pos : (x : Float) (t : ℕ) → x ≡ of_fields binary64 false 0 t → lt plus_zero x ≡ true → 0 < t
low_pos x zero r h = absurd (true_not_false (sym h ∙ ap (lt plus_zero) r ∙ zero_not_above))
low_pos x (suc t) r h = zero-lt-suc t

-- an exponent's field of all ones is an infinity, since a NaN is not above zero
infinite_by : (x : Float) (t : ℕ) → x ≡ of_fields binary64 false 2047 t → lt plus_zero x ≡ true → root x ≡ x
unfolding of_fields root lt
infinite_by x zero r h = ap root r ∙ sym r
infinite_by x (suc t) r h = absurd (true_not_false (sym h ∙ ap (lt plus_zero) (r ∙ ap (λ (c : Bool). cond c (inf false) nan) (eqb-suc-zero t))))

mid_at : (t g : ℕ) → (suc g ≡ 2047 → ⊥) → HasValue (of_fields binary64 false (suc g) t) false ((t + 2 ^ 52) * 2 ^ g) (2 ^ 1074)
unfolding of_fields
mid_at t g n =
    subst (λ (c : Bool). HasValue (cond c (cond (eqb t 0) (inf false) nan) (odd 53 false (2 ^ 52 + t) g 1074)) false ((t + 2 ^ 52) * 2 ^ g) (2 ^ 1074)) (sym (is_false (eqb (suc g) 2047) (not_T (eqb (suc g) 2047) (λ (u : T (eqb (suc g) 2047)). n (eqb→eq (suc g) 2047 u)))))
    (subst (λ (q : ℕ). HasValue (odd 53 false (2 ^ 52 + t) g 1074) false (q * 2 ^ g) (2 ^ 1074)) (add_comm (2 ^ 52) t) (odd_sign 53 false (2 ^ 52 + t) g 1074))

module _ (x : Float) (b : ℕ) (a : Above x b) where
  read_at : (e : ℕ) → b / 2 ^ 52 ≡ e → x ≡ of_fields binary64 false e (b % 2 ^ 52)
  read_at e q = a.read ∙ ap (λ (y : ℕ). of_fields binary64 false y (b % 2 ^ 52)) q

  pub subnormal_pos : lt plus_zero x ≡ true → b / 2 ^ 52 ≡ 0 → 0 < b % 2 ^ 52
  subnormal_pos h q = low_pos x (b % 2 ^ 52) (read_at 0 q) h

  pub subnormal : lt plus_zero x ≡ true → b / 2 ^ 52 ≡ 0 → root x ≡ root_units (b % 2 ^ 52)
  subnormal h q =
      root_value x (b % 2 ^ 52) (subst (λ (n : ℕ). HasValue x false n (2 ^ 1074)) (mul-one (b % 2 ^ 52)) (subst (λ (v : Float). HasValue v false (b % 2 ^ 52 * 2 ^ 0) (2 ^ 1074)) (sym (read_at 0 q)) (low_at (b % 2 ^ 52))))
      (subnormal_pos h q)

  pub infinite : lt plus_zero x ≡ true → b / 2 ^ 52 ≡ 2047 → root x ≡ x
  infinite h q = infinite_by x (b % 2 ^ 52) (read_at 2047 q) h

  pub normal : (g : ℕ) → b / 2 ^ 52 ≡ suc g → (suc g ≡ 2047 → ⊥) → root x ≡ root_units ((b % 2 ^ 52 + 2 ^ 52) * 2 ^ g)
  normal g q n =
      root_value x ((b % 2 ^ 52 + 2 ^ 52) * 2 ^ g) (subst (λ (v : Float). HasValue v false ((b % 2 ^ 52 + 2 ^ 52) * 2 ^ g) (2 ^ 1074)) (sym (read_at (suc g) q)) (mid_at (b % 2 ^ 52) g n))
      (mul-pos (omega arith) (pow_pos g))

-- ---- what is not above zero

pub root_of_zero : (x : Float) → eq x plus_zero ≡ true → root x ≡ x
unfolding root eq
root_of_zero nan h = absurd (true_not_false (sym h))
root_of_zero (inf s) h = absurd (true_not_false (sym h))
root_of_zero (fin s zero e) h = refl
root_of_zero (fin s (suc m) e) h = absurd (not_equal s m e h)

pub no_root : (x : Float) → lt plus_zero x ≡ false → eq x plus_zero ≡ false → root x ≡ nan
unfolding root lt
no_root nan h k = refl
no_root (inf true) h k = refl
no_root (inf false) h k = absurd (true_not_false h)
no_root (fin s zero e) h k = absurd (true_not_false (sym (zero_equal s e) ∙ k))
no_root (fin true (suc m) e) h k = refl
no_root (fin false (suc m) e) h k = absurd (true_not_false (sym (plus_above m e) ∙ h))

-- ---- a pattern below the infinity's is no NaN's

pub pattern_no_nan : (n : ℕ) → n < 0x7ff0_0000_0000_0000 → T (not (nan_bits binary64 n))
pattern_no_nan n h =
    subst (λ (b : Bool). T (not b)) (sym (nan_bits_above binary64 n))
    (not_T (ltb 0x7ff0_0000_0000_0000 (n % 2 ^ 63)) (λ (u : T (ltb 0x7ff0_0000_0000_0000 (n % 2 ^ 63))). apart n h (ltb→lt 0x7ff0_0000_0000_0000 (n % 2 ^ 63) u)))
  where
    apart : (n : ℕ) → n < 0x7ff0_0000_0000_0000 → 0x7ff0_0000_0000_0000 < n % 2 ^ 63 → ⊥
    apart n h k = omega arith
