-- A guess at the root, tested in whole numbers and set right by one. Assumes nothing.
use Rattle.std.proofs.Common.{◌≡◌, ℕ, zero, suc, ◌+◌, ◌-◌, ◌*◌, ◌/◌, ◌^◌, ◌<◌, ◌≤◌, Bool, true, false, not, T, ltb, leb, sym, ap, ◌∙◌, add-zero, mul-le-mul, arith, ltb→lt, leb→le, nltb→le}
use lib.Dec.{nleb→lt}
use mir.Val.{bool_byte}
use Rattle.root.specs.Root.{isqrt, nearest54}
use Rattle.root.proofs.Newton.{sq_next, sq_even, sq_sum, root_lt}
use Rattle.root.proofs.Whole.{isqrt_is, isqrt_unique, not_above}

-- ---- r is the whole number nearest to √(p * 2 ^ 52) where r * r - r < p * 2 ^ 52 ≤ r * r + r

pub nearest_is : (p r : ℕ) → r * r < p * 2 ^ 52 + r → p * 2 ^ 52 ≤ r * r + r → nearest54 p ≡ r
nearest_is p r h k =
    let i = isqrt (p * 2 ^ 54) in
    let w = isqrt_is (p * 2 ^ 54) in
    let some : 0 < r = positive p r h k in
    let most : i ≤ 2 * r = not_above (p * 2 ^ 54) i (2 * r) w.0 (omega (arith, k, sq_next (2 * r), even r)) in
    let least : 2 * r - 1 ≤ i = not_above (p * 2 ^ 54) (2 * r - 1) i (omega (arith, h, odd r some)) w.1 in
    omega (arith, most, least, some)
  where
    even : (r : ℕ) → 2 * r * (2 * r) ≡ 4 * (r * r)
    even r = ap (λ (x : ℕ). x * x) (omega arith) ∙ sq_even r

    odd : (r : ℕ) → 0 < r → (2 * r - 1) * (2 * r - 1) + 4 * r ≡ 4 * (r * r) + 1
    odd r h = omega (arith, ap (λ (x : ℕ). x * x) (back r h), sq_next (2 * r - 1), even r)
      where
        back : (r : ℕ) → 0 < r → 2 * r - 1 + 1 ≡ 2 * r
        back r h = omega arith

    positive : (p r : ℕ) → r * r < p * 2 ^ 52 + r → p * 2 ^ 52 ≤ r * r + r → 0 < r
    positive p zero h k = absurd (none p h k)
      where
        none : (p : ℕ) → 0 < p * 2 ^ 52 + 0 → p * 2 ^ 52 ≤ 0 → ⊥
        none p h k = omega arith
    positive p (suc r) h k = omega arith

-- from the whole root of p * 2 ^ 54
pub nearest_of_lem : (p r : ℕ) → r * r ≤ p * 2 ^ 54 → p * 2 ^ 54 < (r + 1) * (r + 1) → (r + 1) / 2 ≡ nearest54 p
nearest_of_lem p r h k = ap (λ (i : ℕ). (i + 1) / 2) (sym (isqrt_unique (p * 2 ^ 54) r h k))

-- 53 digits, or the number after them
pub nearest_le : (p : ℕ) → p < 2 ^ 54 → nearest54 p ≤ 2 ^ 53
nearest_le p h = omega (arith, root_lt p (isqrt (p * 2 ^ 54)) h (isqrt_is (p * 2 ^ 54)).0)

-- ---- the guess q = s * 2 ^ 26 + t: d = p * 2 ^ 52 - q * q is (w - 2 * s) * 2 ^ 26 - t * t

less_none : (n : ℕ) → n - 0 ≡ n
less_none n = omega arith

module _ (p q s t left w : ℕ) (digits : q ≡ s * 2 ^ 26 + t) (large : 2 ^ 26 ≤ s) (low : t < 2 ^ 26) (first : p ≡ left + s * s)
    (second : w + s * t * 2 ≡ left * 2 ^ 26 + s * 2) (near : w < s * 5) where
  square : q * q ≡ s * s * 2 ^ 52 + s * t * 2 ^ 27 + t * t
  square = ap (λ (x : ℕ). x * x) digits ∙ sq_sum (2 ^ 26) s t ∙ omega arith

  t_square : t * t ≤ (2 ^ 26 - 1) * (2 ^ 26 - 1)
  t_square = mul-le-mul (at_most t low) (at_most t low)
    where
      at_most : (t : ℕ) → t < 2 ^ 26 → t ≤ 2 ^ 26 - 1
      at_most t h = omega arith

  rest : p * 2 ^ 52 + s * 2 * 2 ^ 26 + t * t ≡ q * q + w * 2 ^ 26
  rest = omega (arith, square, first, second)

  -- d > q: one more
  more : t * t + q + q * 2 < w * 2 ^ 26 + t * 2 → nearest54 p ≡ q + 1
  more h = nearest_is p (q + 1) (omega (arith, rest, digits, sq_next q)) (omega (arith, rest, digits, sq_next q, near))

  -- d ≤ -q: one less
  less : w * 2 ^ 26 + t * 2 ≤ t * t + q → nearest54 p ≡ q - 1
  less h =
      let back : q - 1 + 1 ≡ q = omega (arith, digits, large) in
      let before : (q - 1) * (q - 1) + 2 * (q - 1) + 1 ≡ q * q = sym (sq_next (q - 1)) ∙ ap (λ (x : ℕ). x * x) back in
      nearest_is p (q - 1) (omega (arith, rest, digits, before, large, t_square)) (omega (arith, rest, digits, before, back))

  level : w * 2 ^ 26 + t * 2 ≤ t * t + q + q * 2 → t * t + q < w * 2 ^ 26 + t * 2 → nearest54 p ≡ q
  level h k = nearest_is p q (omega (arith, rest, digits)) (omega (arith, rest, digits))

  -- what the program makes of the guess
  pub set_right : let a = w * 2 ^ 26 + t * 2 in let b = t * t + q in q + bool_byte (ltb (b + q * 2) a) - bool_byte (leb a b) ≡ nearest54 p
  set_right =
      let a = w * 2 ^ 26 + t * 2 in
      let b = t * t + q in
      go (ltb (b + q * 2) a) (leb a b) (ltb→lt (b + q * 2) a) (λ n. nltb→le (b + q * 2) a n) (leb→le a b) (λ n. nleb→lt a b n)
    where
      go : (u l : Bool) → (T u → t * t + q + q * 2 < w * 2 ^ 26 + t * 2) → (T (not u) → w * 2 ^ 26 + t * 2 ≤ t * t + q + q * 2)
          → (T l → w * 2 ^ 26 + t * 2 ≤ t * t + q) → (T (not l) → t * t + q < w * 2 ^ 26 + t * 2) → q + bool_byte u - bool_byte l ≡ nearest54 p
      go true true f g h k = absurd (both (t * t + q) (w * 2 ^ 26 + t * 2) q (f tt) (h tt))
        where
          both : (b a q : ℕ) → b + q * 2 < a → a ≤ b → ⊥
          both b a q f h = omega arith
      go true false f g h k = less_none (q + 1) ∙ sym (more (f tt))
      go false true f g h k = ap (λ (x : ℕ). x - 1) (add-zero q) ∙ sym (less (h tt))
      go false false f g h k = less_none (q + 0) ∙ add-zero q ∙ sym (level (g tt) (k tt))
