-- `root x` is nearer to √x than every other value of the format, and the only one that is. Assumes nothing.
use Rattle.std.proofs.Common.{◌≡◌, ℕ, zero, suc, ◌+◌, ◌-◌, ◌*◌, ◌/◌, ◌%◌, ◌^◌, ◌<◌, ◌≤◌, false, T, ◌⊎◌, sym, refl, ap, ◌∙◌, subst, inl, inr, le_trans, le_of_eq, lt_of_lt_of_le, le_of_suc-le-suc, lt_of_le_of_lt, le_of_lt, lt_irrefl, mul-le-mul_right, zero-lt-suc, mul_assoc, mul_comm, add-mul, add_comm, lt_of_mul-lt-mul_right, eq-or-lt_of_le, mul-le-mul_left, mul-lt-mul_of_pos_right, lt_of_not-le, zero-mul, arith, pow_pos, pow_mono, pow-add, shl_lt}
use native.Mathlib.Nat.{mul-mul-mul_comm}
use native.Mathlib.Decide.{dec_le}
use lib.Pow.{pow-lt}
use lib.Ieee.{Float, binary64, size, units, fits, of_bits}
use lib.Ieee.Digits.{size-lt, size-le, size_reaches}
use lib.Ieee.Bits.{of_bits-to_bits}
use lib.Ieee.Exact.{HasValue, units_val}
use Rattle.root.specs.Root.{root, root_units, isqrt, units_of, plain, NearestRoot}
use Rattle.root.proofs.Newton.{sq_next, sq_even, sq_le, root_lt}
use Rattle.root.proofs.Whole.{isqrt_is, four_pow, twice_at_most}
use Rattle.root.proofs.Pattern.{bits_of, units_fits, root_is, r_low, four_times}
use Rattle.root.proofs.Value.{root_value}
use Rattle.root.proofs.Units.{Shape, shape_of, multiple, own_units, units_of_lem}

-- ---- a number of at most 53 digits, brought to 53 digits

pub record Normal (u : ℕ) : Type 0 where
  pub n : ℕ
  pub k : ℕ
  pub lo : 2 ^ 52 ≤ n
  pub hi : n < 2 ^ 53
  pub same : n * 2 ^ k ≡ u * 2 ^ 52
  pub places : k ≤ 2097

pos_size : (m : ℕ) → 0 < m → 0 < size m
pos_size m h = lt_of_not-le (λ (g : size m ≤ 0). lt_irrefl m (lt_of_lt_of_le (size-lt m) (le_trans (pow_mono g) h)))

first_of : (n u : ℕ) → 0 < n * u → 0 < n
first_of zero u h = absurd (lt_irrefl 0 (lt_of_lt_of_le h (le_of_eq (zero-mul u))))
first_of (suc n) u h = zero-lt-suc n

normal : (u : ℕ) → 0 < u → Shape u → Normal u
normal u p t =
    let m = t.m in
    let j = t.j in
    let z = size m in
    let mp : 0 < m = first_of m (2 ^ j) (lt_of_lt_of_le p (le_of_eq t.is)) in
    let zp : 0 < z = pos_size m mp in
    let zl : z ≤ 53 = size-le m 53 t.small in
    let a = 53 - z in
    let k = j + (52 - a) in
    let low : 2 ^ 52 ≤ m * 2 ^ a =
    le_trans (le_of_eq (ap (λ (x : ℕ). 2 ^ x) (low_places z zp zl) ∙ pow-add 2 (z - 1) a)) (mul-le-mul_right (2 ^ a) (size_reaches m (z - 1) (pred z zp))) in
    let same : m * 2 ^ a * 2 ^ k ≡ u * 2 ^ 52 =
    mul_assoc m (2 ^ a) (2 ^ k) ∙ ap (λ (x : ℕ). m * x) (sym (pow-add 2 a k) ∙ ap (λ (x : ℕ). 2 ^ x) (places_are z j zp zl) ∙ pow-add 2 j 52) ∙ sym (mul_assoc m (2 ^ j) (2 ^ 52)) ∙ ap (λ (x : ℕ). x * 2 ^ 52) (sym t.is) in
    record {
      n = m * 2 ^ a;
      k = k;
      lo = low;
      hi = lt_of_lt_of_le (shl_lt z a (size-lt m)) (pow_mono (all_places z zl));
      same = same;
      places = le_of_suc-le-suc (lt_of_not-le (λ (g : 2098 ≤ k). lt_irrefl (u * 2 ^ 52)
          (lt_of_lt_of_le (mul-lt-mul_of_pos_right t.low (pow_pos 52)) (le_trans (le_of_eq (mul_comm (2 ^ 2098) (2 ^ 52))) (le_trans (mul-le-mul_left (2 ^ 52) (pow_mono g)) (le_trans (mul-le-mul_right (2 ^ k) low) (le_of_eq same)))))));
    }
  where
    low_places : (z : ℕ) → 0 < z → z ≤ 53 → 52 ≡ z - 1 + (53 - z)
    low_places z h l = omega arith

    pred : (z : ℕ) → 0 < z → z - 1 < z
    pred z h = omega arith

    all_places : (z : ℕ) → z ≤ 53 → z + (53 - z) ≤ 53
    all_places z h = omega arith

    places_are : (z j : ℕ) → 0 < z → z ≤ 53 → 53 - z + (j + (52 - (53 - z))) ≡ j + 52
    places_are z j h l = omega arith

-- ---- squares of multiples of 2 ^ k

sq_scale : (c k : ℕ) → c * 2 ^ k * (c * 2 ^ k) ≡ c * c * 4 ^ k
sq_scale c k = mul-mul-mul_comm c (2 ^ k) c (2 ^ k) ∙ ap (λ (x : ℕ). c * c * x) (sym (pow-add 2 k k) ∙ sym (four_pow k))

sq_strict : (a b : ℕ) → a < b → a * a < b * b
sq_strict a b h = lt_of_le_of_lt (mul-le-mul_left a (le_of_lt h)) (mul-lt-mul_of_pos_right h (lt_of_le_of_lt (zero_le_any a) h))
  where
    zero_le_any : (a : ℕ) → 0 ≤ a
    zero_le_any a = omega arith

four_pos : (k : ℕ) → 0 < 4 ^ k
four_pos k = subst (λ (x : ℕ). 0 < x) (sym (four_pow k)) (pow_pos (k + k))

-- w is even, s is its whole root, q is s halved, rounded up: s is 2 ^ 53 at least
module _ (v s q k Y : ℕ) (lower : s * s ≤ v * 2 ^ 54) (upper : v * 2 ^ 54 < (s + 1) * (s + 1)) (q_is : q ≡ (s + 1) / 2) (large : 2 ^ 53 ≤ s) where
  farther_above : (c : ℕ) → Y ≡ c * 2 ^ k → q * 2 ^ k < Y → v * 2 ^ 54 * 4 ^ k < (q * 2 ^ k + Y) * (q * 2 ^ k + Y)
  farther_above c e h =
      let g : q < c = lt_of_mul-lt-mul_right (2 ^ k) (lt_of_lt_of_le h (le_of_eq e)) in
      let sum : (q + c) * 2 ^ k ≡ q * 2 ^ k + Y = add-mul q c (2 ^ k) ∙ ap (λ (x : ℕ). q * 2 ^ k + x) (sym e) in
      lt_of_lt_of_le (mul-lt-mul_of_pos_right upper (four_pos k))
      (le_trans (mul-le-mul_right (4 ^ k) (sq_le (s + 1) (q + c) (omega arith)))
      (le_of_eq (sym (sq_scale (q + c) k) ∙ ap (λ (x : ℕ). x * x) sum)))

  -- an odd square is not the even number
  odd_less : (p : ℕ) → s ≡ p * 2 + 1 → s * s < v * 2 ^ 54
  odd_less p e = omega (arith, lower, ap (λ (x : ℕ). x * x) e, sq_next (p * 2), sq_even p)

  middle_less : (2 * q - 1) * (2 * q - 1) < v * 2 ^ 54
  middle_less = go (eq-or-lt_of_le at_most)
    where
      at_most : 2 * q - 1 ≤ s
      at_most = omega arith

      go : (2 * q - 1 ≡ s) ⊎ (2 * q - 1 < s) → (2 * q - 1) * (2 * q - 1) < v * 2 ^ 54
      go (inl e) = subst (λ (x : ℕ). x * x < v * 2 ^ 54) (sym e) (odd_less (q - 1) (omega arith))
      go (inr l) = lt_of_lt_of_le (sq_strict (2 * q - 1) s l) lower

  farther_below : (c : ℕ) → Y ≡ c * 2 ^ k → Y < q * 2 ^ k → (q * 2 ^ k + Y) * (q * 2 ^ k + Y) < v * 2 ^ 54 * 4 ^ k
  farther_below c e h =
      let g : c < q = lt_of_mul-lt-mul_right (2 ^ k) (lt_of_le_of_lt (le_of_eq (sym e)) h) in
      let sum : (q + c) * 2 ^ k ≡ q * 2 ^ k + Y = add-mul q c (2 ^ k) ∙ ap (λ (x : ℕ). q * 2 ^ k + x) (sym e) in
      lt_of_le_of_lt (le_of_eq (ap (λ (x : ℕ). x * x) (sym sum) ∙ sq_scale (q + c) k))
      (lt_of_le_of_lt (mul-le-mul_right (4 ^ k) (sq_le (q + c) (2 * q - 1) (omega arith))) (mul-lt-mul_of_pos_right middle_less (four_pos k)))

  -- below 2 ^ 52 * 2 ^ k the values lie closer, and all are farther
  farther_low : Y < 2 ^ 52 * 2 ^ k → (q * 2 ^ k + Y) * (q * 2 ^ k + Y) < v * 2 ^ 54 * 4 ^ k
  farther_low h =
      let sum : q * 2 ^ k + Y < (q + 2 ^ 52) * 2 ^ k = lt_of_lt_of_le (add_less (q * 2 ^ k) Y (2 ^ 52 * 2 ^ k) h) (le_of_eq (sym (add-mul q (2 ^ 52) (2 ^ k)))) in
      lt_of_lt_of_le (sq_strict (q * 2 ^ k + Y) ((q + 2 ^ 52) * 2 ^ k) sum)
      (le_trans (le_of_eq (sq_scale (q + 2 ^ 52) k)) (mul-le-mul_right (4 ^ k) (le_trans (sq_le (q + 2 ^ 52) s (omega arith)) lower)))
    where
      add_less : (a b c : ℕ) → b < c → a + b < a + c
      add_less a b c h = omega arith

-- ---- the theorem

-- What is known of the root r of u units: it is q * 2 ^ k units, and four times the square of √u is v * 2 ^ 54 * 4 ^ k.
record Found (u : ℕ) (r : Float) : Type 0 where
  pub v : ℕ
  pub s : ℕ
  pub k : ℕ
  pub lower : s * s ≤ v * 2 ^ 54
  pub upper : v * 2 ^ 54 < (s + 1) * (s + 1)
  pub large : 2 ^ 53 ≤ s
  pub four : 4 * (u * 2 ^ 1074) ≡ v * 2 ^ 54 * 4 ^ k
  pub held : T (fits binary64 r)
  pub value : HasValue r false ((s + 1) / 2 * 2 ^ k) (2 ^ 1074)

found : (u : ℕ) → Normal u → Found u (root_units u)
found u t =
    let n = t.n in
    let k = t.k in
    let v = n * (k % 2 + 1) in
    let s = isqrt (v * 2 ^ 54) in
    let w = isqrt_is (v * 2 ^ 54) in
    let K = k / 2 + 485 in
    let q = (s + 1) / 2 in
    let small : s < 2 ^ 54 = root_lt v s (twice_at_most n (k % 2) t.hi (omega arith)) w.0 in
    let top : q ≤ 2 ^ 53 = omega arith in
    let fine : q * 2 ^ K < 2 ^ 2098 =
    lt_of_le_of_lt (mul-le-mul_right (2 ^ K) top) (lt_of_le_of_lt (le_of_eq (sym (pow-add 2 53 K))) (pow-lt {i = 53 + K} {j = 2098} (over k t.places))) in
    let is : root_units u ≡ units binary64 false q K = root_is u n k s t.lo t.hi t.same w.0 w.1 in
    record {
      v = v;
      s = s;
      k = K;
      lower = w.0;
      upper = w.1;
      large = r_low u n k s t.lo t.hi t.same w.0 w.1;
      four = four_times u n k s t.lo t.hi t.same w.0 w.1;
      held = subst (λ (r : Float). T (fits binary64 r)) (sym is) (units_fits q K top fine);
      value = subst (λ (r : Float). HasValue r false (q * 2 ^ K) (2 ^ 1074)) (sym is) (units_val binary64 false q K fine);
    }
  where
    over : (k : ℕ) → k ≤ 2097 → 53 + (k / 2 + 485) < 2098
    over k h = omega arith

middles : (x r : Float) → Found (units_of x) r → NearestRoot x r
middles x r t =
    let v = t.v in
    let s = t.s in
    let k = t.k in
    let q = (s + 1) / 2 in
    let R = units_of_lem r (q * 2 ^ k) t.value in
    let low_end : 2 ^ 52 * 2 ^ k ≤ q * 2 ^ k = mul-le-mul_right (2 ^ k) (half s t.large) in
    record {
      held = t.held;
      finite = R.1;
      above = λ y f p h.
          let Y = units_of y in
          let l : q * 2 ^ k < Y = subst (λ (z : ℕ). z < Y) R.0 h in
          let c = multiple Y k (shape_of y f p) (le_trans low_end (le_of_lt l)) in
          subst (λ (z : ℕ). 4 * (units_of x * 2 ^ 1074) < (z + Y) * (z + Y)) (sym R.0)
          (lt_of_le_of_lt (le_of_eq t.four) (farther_above v s q k Y t.lower t.upper refl t.large c.0 c.1 l));
      below = λ y f p h.
          let Y = units_of y in
          let l : Y < q * 2 ^ k = subst (λ (z : ℕ). Y < z) R.0 h in
          subst (λ (z : ℕ). (z + Y) * (z + Y) < 4 * (units_of x * 2 ^ 1074)) (sym R.0)
          (lt_of_lt_of_le (either v s q k Y t.lower t.upper refl t.large (shape_of y f p) l (dec_le (2 ^ 52 * 2 ^ k) Y)) (le_of_eq (sym t.four)));
    }
  where
    half : (s : ℕ) → 2 ^ 53 ≤ s → 2 ^ 52 ≤ (s + 1) / 2
    half s h = omega arith

    either : (v s q k Y : ℕ) → s * s ≤ v * 2 ^ 54 → v * 2 ^ 54 < (s + 1) * (s + 1) → q ≡ (s + 1) / 2 → 2 ^ 53 ≤ s → Shape Y → Y < q * 2 ^ k → Dec (2 ^ 52 * 2 ^ k ≤ Y)
        → (q * 2 ^ k + Y) * (q * 2 ^ k + Y) < v * 2 ^ 54 * 4 ^ k
    either v s q k Y a b e g sh l (yes h) = let c = multiple Y k sh h in farther_below v s q k Y a b e g c.0 c.1 l
    either v s q k Y a b e g sh l (no h) = farther_low v s q k Y a b e g (lt_of_not-le h)

-- the root of a value above zero is nearer to √x than every other value of the format that is not negative
pub root_is_nearest : (x : Float) → T (fits binary64 x) → T (plain x) → 0 < units_of x → NearestRoot x (root x)
root_is_nearest x f pl p =
    subst (λ (r : Float). NearestRoot x r) (sym (root_value x (units_of x) (own_units x f pl) p)) (middles x (root_units (units_of x)) (found (units_of x) (normal (units_of x) p (shape_of x f pl))))

-- ---- and it is the only one

same_units : (a b : ℕ) → (a < b → ⊥) → (b < a → ⊥) → a ≡ b
same_units a b h k = omega arith

-- a value is known by its units
pub by_units : (r t : Float) → T (fits binary64 r) → T (plain r) → T (fits binary64 t) → T (plain t) → units_of r ≡ units_of t → r ≡ t
by_units r t fr pr ft pt e =
    sym (of_bits-to_bits binary64 r fr)
    ∙ ap (λ (b : ℕ). of_bits binary64 b) (bits_of r (units_of r) (own_units r fr pr) ∙ ap (λ (a : ℕ). (size a - 53) * 2 ^ 52 + a / 2 ^ (size a - 53)) e ∙ sym (bits_of t (units_of t) (own_units t ft pt)))
    ∙ of_bits-to_bits binary64 t ft

pub nearest_unique : (x r t : Float) → NearestRoot x r → NearestRoot x t → r ≡ t
nearest_unique x r t a b =
    by_units r t a.held a.finite b.held b.finite (same_units (units_of r) (units_of t) (λ l. clash x r t a b l) (λ l. clash x t r b a l))
  where
    clash : (x r t : Float) → NearestRoot x r → NearestRoot x t → units_of r < units_of t → ⊥
    clash x r t a b l =
        let up_side = a.above t b.held b.finite l in
        let down_side = b.below r a.held a.finite l in
        lt_irrefl (4 * (units_of x * 2 ^ 1074)) (lt_of_lt_of_le up_side (le_trans (le_of_eq (ap (λ (z : ℕ). z * z) (add_comm (units_of r) (units_of t)))) (le_of_lt down_side)))
