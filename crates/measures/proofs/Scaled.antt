-- A float times a power of two, exactly; and a value cut or rounded to a whole number. Assumes nothing.
use Rattle.std.proofs.Common.{◌≡◌, ℕ, ◌+◌, ◌-◌, ◌*◌, ◌/◌, ◌^◌, ◌<◌, ◌≤◌, min, Bool, true, false, T, ℤ, pos, sym, refl, ap, ◌∙◌, subst, le_trans, le_of_eq, lt_of_lt_of_le, lt_of_le_of_lt, le_of_lt, mul-le-mul_right, mul_assoc, mul_comm, div-lt_iff_lt-mul, lt_of_mul-lt-mul_right, mul-lt-mul_of_pos_right, mul-pos, one-mul, mul-one, mul_right_comm, le_of_mul-le-mul_right, arith, ltb→lt, lt→ltb, pow_pos, pow-add}
use native.Mathlib.Nat.{add-div_right, div-div-eq-div-mul, div-eq_of_lt}
use lib.Pow.{pow-lt}
use lib.Ieee.{Float, nan, inf, fin, binary64, unlike, up, down, round, mul, lt, fits, to_unsigned}
use lib.Ieee.Fits.{down_pos}
use lib.Ieee.Nearest.{div_same}
use lib.Ieee.Exact.{HasValue, round_exact}
use lib.Ieee.Positive.{num, den}
use Rattle.measures.specs.Degrees.{nearest_up}
use Rattle.measures.specs.Steps.{half_away, countable}
use Rattle.root.proofs.Units.{digits, not_too_low, in_units}

-- ---- 2 ^ t times a value, exactly, as long as it is at most 2 ^ 60

-- a product with a positive float keeps the sign
kept : (s : Bool) → unlike s false ≡ s
kept true = refl
kept false = refl

pub scaled : (s : Bool) (m : ℕ) (e : ℤ) (t : ℕ) → T (fits binary64 (fin s m e)) → m * up e * 2 ^ t ≤ 2 ^ 60 * down e → HasValue (mul binary64 (fin s m e) (fin false 1 (pos t))) s (m * up e * 2 ^ t) (down e)
unfolding mul
scaled s m e t f small =
    let u = in_units m e (not_too_low s m e f) in
    let j = u.0 in
    let d = down e in
    let same : m * up e * 2 ^ t * 2 ^ 1074 ≡ m * 2 ^ (j + t) * d =
    mul_right_comm (m * up e) (2 ^ t) (2 ^ 1074) ∙ ap (λ (x : ℕ). x * 2 ^ t) u.1 ∙ mul_right_comm (m * 2 ^ j) d (2 ^ t) ∙ ap (λ (x : ℕ). x * d) (mul_assoc m (2 ^ j) (2 ^ t) ∙ ap (λ (x : ℕ). m * x) (sym (pow-add 2 j t))) in
    let at_most : m * 2 ^ (j + t) ≤ 2 ^ 60 * 2 ^ 1074 =
    le_of_mul-le-mul_right {k = d} (le_trans (le_of_eq (sym same)) (le_trans (mul-le-mul_right (2 ^ 1074) small) (le_of_eq (mul_right_comm (2 ^ 60) d (2 ^ 1074))))) (down_pos e) in
    let is : mul binary64 (fin s m e) (fin false 1 (pos t)) ≡ round binary64 s (m * up e * 2 ^ t) d =
    ap (λ (b : Bool). round binary64 b (m * up e * (1 * 2 ^ t)) (d * 1)) (kept s)
    ∙ ap (λ (n : ℕ). round binary64 s (m * up e * n) (d * 1)) (one-mul (2 ^ t))
    ∙ ap (λ (n : ℕ). round binary64 s (m * up e * 2 ^ t) n) (mul-one d) in
    subst (λ (r : Float). HasValue r s (m * up e * 2 ^ t) d) (sym is)
    (round_exact binary64 s (m * up e * 2 ^ t) d m (j + t) (down_pos e) (digits s m e f) (lt_of_le_of_lt at_most (pow-lt {i = 1134} {j = 2098} (omega arith))) same)

-- ---- a value below a bound, and cut to a whole number; a negative one is above -1

pub under : (x a d c b : ℕ) → 0 < c → 0 < d → x * c ≡ a * d → a < b * c → x < b * d
under x a d c b C D e h = lt_of_mul-lt-mul_right c (lt_of_le_of_lt (le_of_eq e) (lt_of_lt_of_le (mul-lt-mul_of_pos_right h D) (le_of_eq (mul_right_comm b c d))))

below : (x b d : ℕ) → x < b * d → x * 1 < 1 * b * d
below x b d h = subst (λ (k : ℕ). x * 1 < k * d) (sym (one-mul b)) (subst (λ (k : ℕ). k < b * d) (sym (mul-one x)) h)

pub in_range : (w : ℕ) (z : Float) (s : Bool) (a c : ℕ) → 0 < c → HasValue z s a c → (T s → a < 1 * c) → a < 2 ^ w * c → T (lt (fin true 1 (pos 0)) z) × T (lt z (fin false 1 (pos w)))
unfolding lt
in_range w nan s a c C h n k = absurd h
in_range w (inf t) s a c C h n k = absurd h
in_range w (fin true m e) s a c C h n k = (
  lt→ltb (m * up e * 1) (1 * 1 * down e) (below (m * up e) 1 (down e) (under (m * up e) a (down e) c 1 C (down_pos e) h.1 (n (subst T h.0 tt)))),
  lt→ltb 0 (m * up e * 1 + 1 * 2 ^ w * down e) (some (m * up e * 1) (1 * 2 ^ w * down e) (mul-pos (mul-pos (pow_pos 0) (pow_pos w)) (down_pos e))),
)
  where
    some : (a b : ℕ) → 0 < b → 0 < a + b
    some a b h = omega arith
in_range w (fin false m e) s a c C h n k = (
  lt→ltb 0 (1 * 1 * down e + m * up e * 1) (some (1 * 1 * down e) (m * up e * 1) (mul-pos (pow_pos 0) (down_pos e))),
  lt→ltb (m * up e * 1) (1 * 2 ^ w * down e) (below (m * up e) (2 ^ w) (down e) (under (m * up e) a (down e) c (2 ^ w) C (down_pos e) h.1 k)),
)
  where
    some : (a b : ℕ) → 0 < a → 0 < a + b
    some a b h = omega arith

uncapped : (a c : ℕ) → a < c → min a (c - 1) ≡ a
uncapped a c h = omega arith

pub cut : (z : Float) (s : Bool) (a c : ℕ) → 0 < c → HasValue z s a c → (T s → a < 1 * c) → a < 2 ^ 64 * c → to_unsigned 64 z ≡ a / c
unfolding to_unsigned
cut nan s a c C h n k = absurd h
cut (inf t) s a c C h n k = absurd h
cut (fin true m e) s a c C h n k = sym (div-eq_of_lt (subst (λ (b : ℕ). a < b) (one-mul c) (n (subst T h.0 tt))))
cut (fin false m e) s a c C h n k =
    let q : m * up e / down e ≡ a / c = div_same (m * up e) (down e) a c (down_pos e) C h.1 in
    ap (λ (x : ℕ). min x (2 ^ 64 - 1)) q ∙ uncapped (a / c) (2 ^ 64) ((div-lt_iff_lt-mul C).1 k)

-- ---- rounded half up

-- the half of twice as much, cut, and one
pub halved : (a c : ℕ) → 0 < c → (a * 2 / c + 1) / 2 ≡ nearest_up a c
halved a c C = ap (λ (x : ℕ). (x / c + 1) / 2) (mul_comm a 2) ∙ ap (λ (x : ℕ). x / 2) (sym (add-div_right (2 * a) C)) ∙ div-div-eq-div-mul (2 * a + c) c 2 ∙ ap (λ (x : ℕ). (2 * a + c) / x) (mul_comm c 2)

-- ---- twice a countable value

pub record Twice (y : Float) : Type 0 where
  pub value : HasValue (mul binary64 y (fin false 1 (pos 1))) false (num y * 2) (den y)
  pub bound : num y < 2 ^ 52 * den y
  pub whole : half_away y ≡ nearest_up (num y) (den y)

pub twice : (y : Float) → T (fits binary64 y) → T (countable y) → Twice y
unfolding countable half_away
twice nan f h = absurd h
twice (inf s) f h = absurd h
twice (fin true m e) f h = absurd h
twice (fin false m e) f h =
    let b : m * up e < 2 ^ 52 * down e = ltb→lt (m * up e) (2 ^ 52 * down e) h in
    record { value = scaled false m e 1 f (le_trans (mul-le-mul_right 2 (le_of_lt b)) (more (down e))); bound = b; whole = refl }
  where
    more : (d : ℕ) → 2 ^ 52 * d * 2 ≤ 2 ^ 60 * d
    more d = omega arith
