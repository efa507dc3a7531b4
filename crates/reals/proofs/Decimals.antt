-- Floats by their bits and as decimals: a quotient of two whole numbers that are floats exactly is the nearest float to the fraction.
use Rattle.std.proofs.Common.{◌≡◌, ℕ, zero, suc, ◌+◌, ◌-◌, ◌*◌, ◌%◌, ◌^◌, ◌<◌, ◌≤◌, Bool, true, false, cond, not, T, ltb, List, [], length, take, drop, pos, sym, refl, ap, ◌∙◌, subst, mul_assoc, mul_comm, mul-pos, zero-mul, mul-one, arith, drop_of_length-le, le-ltb, lt-ltb, ne_eqb, le-leb, Some, None, Option}
use native.Mathlib.Nat.{pow-le-pow_right}
use borrow.Author.Tests.{lt-leb}
use lib.Ieee.{Float, nan, inf, fin, Format, binary64, low, emax, prec, up, down, odd, units, round, neg, div, of_int, of_bits, is_nan, nan_bits}
use Rattle.fields.specs.Text.{first_of, first_in}
use Rattle.fields.proofs.Lines.{first_some, first_none}
use Rattle.numbers.specs.Numbers.{number_on}
use Rattle.reals.specs.Reals.{over_tens, then_on, point_of}
use lib.Ieee.Exact.{HasValue}
use lib.Ieee.Back.{round_whole}
use lib.Ieee.Bits.{nan_bits_is, nan_bits_above}
use lib.Ieee.Scale.{round_same}
use lib.Ieee.Fits.{round_is, down_pos}

-- ---- a quotient
module _ (X Y E D a b : ℕ) (x : X * 1 ≡ a * E) (y : Y * 1 ≡ b * D) where
  cross : X * D * b ≡ a * (Y * E)
  cross =
      let x' : X ≡ a * E = sym (mul-one X) ∙ x in
      let y' : Y ≡ b * D = sym (mul-one Y) ∙ y in
      rw (x', y') (mul_assoc (a * E) D b ∙ mul_assoc a E (D * b) ∙ ap (λ (z : ℕ). a * z) (mul_comm E (D * b) ∙ ap (λ (z : ℕ). z * E) (mul_comm D b)))

over_value : (x y : Float) (a b : ℕ) → 0 < b → HasValue x false a 1 → HasValue y false b 1 → div binary64 x y ≡ round binary64 false a b
unfolding div
over_value nan y a b p h k = absurd h
over_value (inf s) y a b p h k = absurd h
over_value (fin s m e) nan a b p h k = absurd k
over_value (fin s m e) (inf t) a b p h k = absurd k
over_value (fin true m e) (fin t n d) a b p h k = absurd (subst T h.0 tt)
over_value (fin false m e) (fin true n d) a b p h k = absurd (subst T k.0 tt)
over_value (fin false m e) (fin false n d) a b p h k =
    let D = down d in
    let E = down e in
    let Y : 0 < n * up d = subst (λ (z : ℕ). 0 < z) (sym (sym (mul-one (n * up d)) ∙ k.1)) (mul-pos p (down_pos d)) in
    let z : n ≡ 0 → ⊥ = λ q. not_zero (up d) (subst (λ (i : ℕ). 0 < i * up d) q Y) in
    rw (ne_eqb n 0 z)
    (round_same binary64 false (m * up e * D) (n * up d * E) a b (mul-pos Y (down_pos e)) p (cross (m * up e) (n * up d) E D a b h.1 k.1))
  where
    not_zero : (u : ℕ) → 0 < 0 * u → ⊥
    not_zero u l = omega (arith, zero-mul u)

pub over_wholes : (m p : ℕ) → m ≤ 2 ^ 53 → 0 < p → p ≤ 2 ^ 53 → div binary64 (of_int binary64 (pos m)) (of_int binary64 (pos p)) ≡ round binary64 false m p
unfolding of_int
over_wholes m p h q k = over_value (round binary64 false m 1) (round binary64 false p 1) m p q (round_whole binary64 false m h) (round_whole binary64 false p k)

-- ---- a minus sign
neg_odd : (d q k l : ℕ) → neg (odd d false q k l) ≡ odd d true q k l
unfolding neg odd
neg_odd d zero k l = refl
neg_odd d (suc q) k l = refl

neg_units : (f : Format) (q k : ℕ) → neg (units f false q k) ≡ units f true q k
unfolding neg units
neg_units f q k = by (ltb (q * 2 ^ k) (2 ^ (low f + suc (emax f)))) where
  by : (b : Bool) → neg (cond b (odd (suc (prec f)) false q k (low f)) (inf false)) ≡ cond b (odd (suc (prec f)) true q k (low f)) (inf true)
  by true = neg_odd (suc (prec f)) q k (low f)
  by false = refl

pub neg_round : (a c : ℕ) → neg (round binary64 false a c) ≡ round binary64 true a c
neg_round a c = ap neg (round_is binary64 false a c) ∙ neg_units binary64 _ _ ∙ sym (round_is binary64 true a c)

-- ---- bits
pub no_nan_pattern : (n : ℕ) → n % 2 ^ 63 ≤ 0x7ff0_0000_0000_0000 → T (not (nan_bits binary64 n))
no_nan_pattern n h =
    subst (λ (b : Bool). T (not b)) (sym (nan_bits_above binary64 n ∙ le-ltb 0x7ff0_0000_0000_0000 (n % 2 ^ 63) h)) tt

only_nan : (x : Float) → is_nan x ≡ true → x ≡ nan
unfolding is_nan
only_nan nan h = refl
only_nan (inf s) h = absurd (subst T (sym h) tt)
only_nan (fin s m e) h = absurd (subst T (sym h) tt)

pub nan_pattern : (n : ℕ) → 0x7ff0_0000_0000_0000 < n % 2 ^ 63 → of_bits binary64 n ≡ nan
nan_pattern n h = only_nan (of_bits binary64 n) (sym (nan_bits_is binary64 n) ∙ nan_bits_above binary64 n ∙ lt-ltb 0x7ff0_0000_0000_0000 (n % 2 ^ 63) h)

-- ---- the code's quotient
pub quotient : (m k p : ℕ) (x y : Float) → k ≤ 15 → m ≤ 10 ^ 15 - 1 → x ≡ of_int binary64 (pos m) → y ≡ of_int binary64 (pos p) → p ≡ 10 ^ k
    → div binary64 x y ≡ round binary64 false m (10 ^ k)
quotient m k p x y h l ex ey ep =
    let t : 10 ^ k ≤ 10 ^ 15 = pow-le-pow_right {n = 10} (omega arith) h in
    let u : 10 ^ 0 ≤ 10 ^ k = pow-le-pow_right {n = 10} (omega arith) {i = 0} {j = k} (omega arith) in
    rw (ex, ey, ep) (over_wholes m (10 ^ k) (omega arith) (omega arith) (omega arith))

-- ---- the ways out of reading a number with a point
pub point_long : (minus : Bool) (s : List ℕ) → 16 < length s → point_of minus s ≡ None
unfolding point_of
point_long minus s h = rw (lt-leb (length s - 1) 15 (omega arith))

point_step : (minus : Bool) (s : List ℕ) (p : ℕ) → length s ≤ 16 → p ≡ first_of 46 s → (n : Option ℕ) → number_on 10 (10 ^ 15 - 1) 0 (take p s) ≡ n
    → point_of minus s ≡ over_tens minus (length s - (p + 1)) (then_on n (drop (p + 1) s))
unfolding point_of
point_step minus s p short at n e =
    rw (le-leb (length s - 1) 15 (omega arith), ← at) (ap (λ (x : Option ℕ). over_tens minus (length s - (p + 1)) (then_on x (drop (p + 1) s))) e)

nothing : (n : Option ℕ) → then_on n [] ≡ None
unfolding number_on
nothing (Some w) = refl
nothing None = refl

pub point_none : (minus : Bool) (s : List ℕ) → length s ≤ 16 → None ≡ first_in 46 s → point_of minus s ≡ None
point_none minus s short h =
    let p = first_of 46 s in
    let e = first_none 46 s h in
    point_step minus s p short refl (number_on 10 (10 ^ 15 - 1) 0 (take p s)) refl
    ∙ ap (λ (t : List ℕ). over_tens minus (length s - (p + 1)) (then_on (number_on 10 (10 ^ 15 - 1) 0 (take p s)) t)) (drop_of_length-le s {i = p + 1} (omega (arith, e)))
    ∙ ap (over_tens minus (length s - (p + 1))) (nothing (number_on 10 (10 ^ 15 - 1) 0 (take p s)))

module _ (minus : Bool) (s : List ℕ) (p : ℕ) (short : length s ≤ 16) (here : Some p ≡ first_in 46 s) where
  pub point_front : number_on 10 (10 ^ 15 - 1) 0 (take p s) ≡ None → point_of minus s ≡ None
  point_front e = point_step minus s p short (first_some 46 s p here).0 None e

  pub point_on : (w : ℕ) (n : Option ℕ) → number_on 10 (10 ^ 15 - 1) 0 (take p s) ≡ Some w → number_on 10 (10 ^ 15 - 1) w (drop (p + 1) s) ≡ n
      → point_of minus s ≡ over_tens minus (length s - (p + 1)) n
  point_on w n e g = point_step minus s p short (first_some 46 s p here).0 (Some w) e ∙ ap (over_tens minus (length s - (p + 1))) g
