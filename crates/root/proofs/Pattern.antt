-- The root in units of the smallest value, and its bit pattern. Assumes nothing.
use Rattle.std.proofs.Common.{◌≡◌, ℕ, ◌+◌, ◌-◌, ◌*◌, ◌/◌, ◌%◌, ◌^◌, ◌<◌, ◌≤◌, Bool, false, cond, T, ltb, ◌⊎◌, sym, ap, ◌∙◌, subst, inl, inr, le_trans, le_of_eq, lt_of_lt_of_le, lt_of_le_of_lt, lt_irrefl, mul-le-mul_right, mod-lt, zero-lt-suc, mul_assoc, mul_comm, eq-or-lt_of_le, lt_of_not-le, zero-add, mul-div_cancel, add-one, arith, lt→ltb, pow_pos, pow-add}
use native.Mathlib.Nat.{pow-succ'}
use lib.Pow.{pow-lt}
use lib.Ieee.{Float, nan, inf, fin, binary64, up, down, size, odd, units, fits, to_bits, of_bits}
use lib.Ieee.Fits.{odd-fits, down_pos}
use lib.Ieee.Bits.{of_bits-to_bits, is_true}
use lib.Ieee.Exact.{HasValue, units_val}
use Rattle.root.specs.Root.{isqrt, nearest54, root_units}
use Rattle.root.proofs.Newton.{sq_le, root_lt}
use Rattle.root.proofs.Whole.{isqrt_is, isqrt_unique, four_pow, bit_pow, twice_at_most, once_at_least, size_shifted}

-- ---- the bits of a value of 53 digits with j zeros after them, in units of the smallest value

pub bits_of : (v : Float) (a : ℕ) → HasValue v false a (2 ^ 1074) → to_bits binary64 v ≡ (size a - 53) * 2 ^ 52 + a / 2 ^ (size a - 53)
unfolding to_bits
bits_of nan a h = absurd h
bits_of (inf s) a h = absurd h
bits_of (fin s m e) a h =
    ap (λ (b : Bool). cond b (2 ^ 63) 0 + (size (m * up e * 2 ^ 1074 / down e) - 53) * 2 ^ 52 + m * up e * 2 ^ 1074 / down e / 2 ^ (size (m * up e * 2 ^ 1074 / down e) - 53)) h.0
    ∙ ap (λ (n : ℕ). 0 + (size n - 53) * 2 ^ 52 + n / 2 ^ (size n - 53)) (ap (λ (x : ℕ). x / down e) h.1 ∙ mul-div_cancel a (down_pos e))
    ∙ ap (λ (n : ℕ). n + a / 2 ^ (size a - 53)) (zero-add ((size a - 53) * 2 ^ 52))

bits_at : (v : Float) (n j : ℕ) → 2 ^ 52 ≤ n → n < 2 ^ 53 → HasValue v false (n * 2 ^ j) (2 ^ 1074) → to_bits binary64 v ≡ j * 2 ^ 52 + n
bits_at v n j lo hi h =
    let z : size (n * 2 ^ j) - 53 ≡ j = ap (λ (x : ℕ). x - 53) (size_shifted n j lo hi) ∙ omega arith in
    bits_of v (n * 2 ^ j) h ∙ ap (λ (x : ℕ). x * 2 ^ 52 + n * 2 ^ j / 2 ^ x) z ∙ ap (λ (x : ℕ). j * 2 ^ 52 + x) (mul-div_cancel n (pow_pos j))

-- ---- q * 2 ^ k smallest values, for a q from 2 ^ 52 to 2 ^ 53, have the pattern k * 2 ^ 52 + q

pub units_fits : (q k : ℕ) → q ≤ 2 ^ 53 → q * 2 ^ k < 2 ^ 2098 → T (fits binary64 (units binary64 false q k))
unfolding units
units_fits q k h l =
    subst (λ (b : Bool). T (fits binary64 (cond b (odd 54 false q k 1074) (inf false)))) (sym (is_true (ltb (q * 2 ^ k) (2 ^ 2098)) (lt→ltb (q * 2 ^ k) (2 ^ 2098) l)))
    (odd-fits binary64 54 false q k (omega arith) h l)

pub pattern : (q k : ℕ) → 2 ^ 52 ≤ q → q ≤ 2 ^ 53 → k ≤ 2043 → units binary64 false q k ≡ of_bits binary64 (k * 2 ^ 52 + q)
pattern q k lo hi kh =
    sym (of_bits-to_bits binary64 v (units_fits q k hi fine)) ∙ ap (λ (b : ℕ). of_bits binary64 b) (go (eq-or-lt_of_le hi))
  where
    v : Float
    v = units binary64 false q k

    fine : q * 2 ^ k < 2 ^ 2098
    fine = lt_of_le_of_lt (mul-le-mul_right (2 ^ k) hi) (lt_of_le_of_lt (le_of_eq (sym (pow-add 2 53 k))) (pow-lt (over k kh)))
      where
        over : (k : ℕ) → k ≤ 2043 → 53 + k < 2098
        over k h = omega arith

    go : (q ≡ 2 ^ 53) ⊎ (q < 2 ^ 53) → to_bits binary64 v ≡ k * 2 ^ 52 + q
    go (inr l) = bits_at v q k lo l (units_val binary64 false q k fine)
    go (inl e) =
        let up_one : q * 2 ^ k ≡ 2 ^ 52 * 2 ^ (k + 1) = ap (λ (x : ℕ). x * 2 ^ k) e ∙ mul_assoc (2 ^ 52) 2 (2 ^ k) ∙ ap (λ (x : ℕ). 2 ^ 52 * x) (sym (pow-succ' 2 k) ∙ ap (λ (x : ℕ). 2 ^ x) (sym (add-one k))) in
        bits_at v (2 ^ 52) (k + 1) (omega arith) (omega arith) (subst (λ (x : ℕ). HasValue v false x (2 ^ 1074)) up_one (units_val binary64 false q k fine)) ∙ omega arith

-- ---- the root of u smallest values, from the whole root that the program finds

module _ (u n k r : ℕ) (lo : 2 ^ 52 ≤ n) (hi : n < 2 ^ 53) (same : n * 2 ^ k ≡ u * 2 ^ 52)
    (below : r * r ≤ n * (k % 2 + 1) * 2 ^ 54) (above : n * (k % 2 + 1) * 2 ^ 54 < (r + 1) * (r + 1)) where
  scaled : u * 2 ^ 1074 ≡ n * 2 ^ (k + 1022)
  scaled = ap (λ (x : ℕ). u * x) (pow-add 2 52 1022) ∙ sym (mul_assoc u (2 ^ 52) (2 ^ 1022)) ∙ ap (λ (x : ℕ). x * 2 ^ 1022) (sym same) ∙ mul_assoc n (2 ^ k) (2 ^ 1022) ∙ ap (λ (x : ℕ). n * x) (sym (pow-add 2 k 1022))

  dropped : (size (n * 2 ^ (k + 1022)) + 1) / 2 - 53 ≡ k / 2 + 485
  dropped = ap (λ (x : ℕ). (x + 1) / 2 - 53) (size_shifted n (k + 1022) lo hi) ∙ omega arith

  exponents : k % 2 + (54 + (k / 2 + 485 + (k / 2 + 485))) ≡ k + 1022 + 2
  exponents = omega arith

  pub exact : 4 * (n * 2 ^ (k + 1022)) ≡ n * (k % 2 + 1) * 2 ^ 54 * 4 ^ (k / 2 + 485)
  exact =
      let j = k / 2 + 485 in
      mul_comm 4 (n * 2 ^ (k + 1022)) ∙ mul_assoc n (2 ^ (k + 1022)) 4 ∙ ap (λ (x : ℕ). n * x) (sym (pow-add 2 (k + 1022) 2) ∙ ap (λ (x : ℕ). 2 ^ x) (sym exponents) ∙ pow-add 2 (k % 2) (54 + (j + j)) ∙ ap (λ (x : ℕ). x * 2 ^ (54 + (j + j))) (sym (bit_pow (k % 2) (mod-lt k (zero-lt-suc 1)))))
      ∙ sym (mul_assoc n (k % 2 + 1) (2 ^ (54 + (j + j)))) ∙ ap (λ (x : ℕ). n * (k % 2 + 1) * x) (pow-add 2 54 (j + j) ∙ ap (λ (x : ℕ). 2 ^ 54 * x) (sym (four_pow j))) ∙ sym (mul_assoc (n * (k % 2 + 1)) (2 ^ 54) (4 ^ j))

  kept : 4 * (n * 2 ^ (k + 1022)) / 4 ^ (k / 2 + 485) ≡ n * (k % 2 + 1) * 2 ^ 54
  kept =
      let j = k / 2 + 485 in
      ap (λ (x : ℕ). x / 4 ^ j) exact ∙ mul-div_cancel (n * (k % 2 + 1) * 2 ^ 54) (subst (λ (x : ℕ). 0 < x) (sym (four_pow j)) (pow_pos (j + j)))

  -- four times the square of the root in units
  pub four_times : 4 * (u * 2 ^ 1074) ≡ n * (k % 2 + 1) * 2 ^ 54 * 4 ^ (k / 2 + 485)
  four_times = ap (λ (x : ℕ). 4 * x) scaled ∙ exact

  pub root_is : root_units u ≡ units binary64 false ((r + 1) / 2) (k / 2 + 485)
  unfolding root_units
  root_is =
      ap (λ (x : ℕ). units binary64 false ((isqrt (4 * x / 4 ^ ((size x + 1) / 2 - 53)) + 1) / 2) ((size x + 1) / 2 - 53)) scaled
      ∙ ap (λ (x : ℕ). units binary64 false ((isqrt (4 * (n * 2 ^ (k + 1022)) / 4 ^ x) + 1) / 2) x) dropped
      ∙ ap (λ (x : ℕ). units binary64 false ((isqrt x + 1) / 2) (k / 2 + 485)) kept
      ∙ ap (λ (x : ℕ). units binary64 false ((x + 1) / 2) (k / 2 + 485)) (isqrt_unique (n * (k % 2 + 1) * 2 ^ 54) r below above)

  -- the root has 54 digits
  p_low : 2 ^ 106 ≤ n * (k % 2 + 1) * 2 ^ 54
  p_low = mul-le-mul_right (2 ^ 54) (once_at_least n (k % 2) lo)

  pub r_low : 2 ^ 53 ≤ r
  r_low = at_least r (lt_of_not-le (λ (g : r + 1 ≤ 2 ^ 53). lt_irrefl (n * (k % 2 + 1) * 2 ^ 54) (lt_of_lt_of_le above (le_trans (sq_le (r + 1) (2 ^ 53) g) p_low))))
    where
      at_least : (r : ℕ) → 2 ^ 53 < r + 1 → 2 ^ 53 ≤ r
      at_least r h = omega arith

  pattern_is : k ≤ 2097 → r < 2 ^ 54 → of_bits binary64 ((k / 2 + 485) * 2 ^ 52 + (r + 1) / 2) ≡ root_units u
  pattern_is kh rh = sym (root_is ∙ pattern ((r + 1) / 2) (k / 2 + 485) (omega (arith, r_low)) (omega arith) (omega arith))

-- the pattern that the program makes, from the nearest whole number c that it finds
pub pattern_of : (u n k c : ℕ) → 2 ^ 52 ≤ n → n < 2 ^ 53 → n * 2 ^ k ≡ u * 2 ^ 52 → k ≤ 2097 → c ≡ nearest54 (n * (k % 2 + 1)) → of_bits binary64 ((k / 2 + 485) * 2 ^ 52 + c) ≡ root_units u
pattern_of u n k c lo hi same kh e =
    let p = n * (k % 2 + 1) in
    let w = isqrt_is (p * 2 ^ 54) in
    ap (λ (x : ℕ). of_bits binary64 ((k / 2 + 485) * 2 ^ 52 + x)) e
    ∙ pattern_is u n k (isqrt (p * 2 ^ 54)) lo hi same w.0 w.1 kh (root_lt p (isqrt (p * 2 ^ 54)) (twice_at_most n (k % 2) hi (mod-lt k (zero-lt-suc 1))) w.0)
