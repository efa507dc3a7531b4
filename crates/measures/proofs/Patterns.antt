-- A range test on the bits of a float: of the patterns of one sign the order is that of the numbers, and those of the infinity and the NaNs come behind all
-- numbers. A pattern's number is (2 ^ 52 + t) * 2 ^ e of the format's smallest values where its fields are suc e and t, and t of them where the first is 0.
-- Assumes nothing.
use Rattle.std.proofs.Common.{◌≡◌, ℕ, zero, suc, ◌+◌, ◌-◌, ◌*◌, ◌/◌, ◌%◌, ◌^◌, ◌<◌, ◌≤◌, Bool, true, false, cond, not, T, eqb, ltb, leb, ◌⊎◌, sym, refl, ap, ◌∙◌, subst, inl, inr, le_trans, le_of_eq, lt_of_lt_of_le, le_of_lt, lt_irrefl, mul-le-mul_right, mod-lt, eq-or-lt_of_le, mul-le-mul_left, mul_right_comm, le_of_mul-le-mul_right, arith, le→leb, eqb→eq, ltb→lt, leb→le, nltb→le, pow_pos, pow_mono}
use native.Mathlib.Nat.{pow-succ'}
use borrow.Author.Tests.{lt-leb}
use lib.Ieee.{Float, nan, inf, fin, binary64, up, down, odd, of_fields, of_bits}
use lib.Ieee.Fits.{down_pos}
use lib.Ieee.Exact.{HasValue, odd_sign}
use Rattle.measures.specs.Degrees.{within}

-- two tests that pass together
same_test : (a b c d : ℕ) → (a ≤ b → c ≤ d) → (c ≤ d → a ≤ b) → leb a b ≡ leb c d
same_test a b c d there back = go (leb a b) (leb c d) (λ t. le→leb c d (there (leb→le a b t))) (λ t. le→leb a b (back (leb→le c d t)))
  where
    go : (x y : Bool) → (T x → T y) → (T y → T x) → x ≡ y
    go true true p q = refl
    go true false p q = absurd (p tt)
    go false true p q = absurd (q tt)
    go false false p q = refl

-- a value of a / c is within d where a is at most d of c
value_within : (d : ℕ) (x : Float) (s : Bool) (a c : ℕ) → 0 < c → HasValue x s a c → within d x ≡ leb a (d * c)
unfolding within
value_within d nan s a c C h = absurd h
value_within d (inf t) s a c C h = absurd h
value_within d (fin t m e) s a c C h =
    same_test (m * up e) (d * down e) a (d * c)
    (λ l. le_of_mul-le-mul_right (subst (λ (z : ℕ). z ≤ d * c * down e) h.1 (subst (λ (z : ℕ). m * up e * c ≤ z) (mul_right_comm d (down e) c) (mul-le-mul_right c l))) (down_pos e))
    (λ l. le_of_mul-le-mul_right (subst (λ (z : ℕ). m * up e * c ≤ z) (mul_right_comm d c (down e)) (subst (λ (z : ℕ). z ≤ d * c * down e) (sym h.1) (mul-le-mul_right (down e) l))) C)

-- ---- the order of patterns, by their fields

abbrev hidden : ℕ
hidden = 2 ^ 52

-- a number of the next exponent is larger, whatever the digits
larger : (t p F q : ℕ) → t < hidden → 0 < p → 2 * p ≤ q → (hidden + t) * p < (hidden + F) * q
larger t p F q A P l =
    let a : (hidden + t) * p ≤ (2 * hidden - 1) * p = mul-le-mul_right p (omega arith) in
    let b : hidden * q ≤ (hidden + F) * q = mul-le-mul_right q (omega arith) in
    omega arith

twice : (e E : ℕ) → e < E → 2 * 2 ^ e ≤ 2 ^ E
twice e E h = le_trans (le_of_eq (sym (pow-succ' 2 e))) (pow_mono h)

order : (t F e E : ℕ) → t < hidden → F < hidden → leb ((hidden + t) * 2 ^ e) ((hidden + F) * 2 ^ E) ≡ leb (suc e * hidden + t) (suc E * hidden + F)
order t F e E A G = elim (either (ltb e E) (ltb→lt e E) (nltb→le e E)) [ inl l ↦ below l | inr g ↦ elim (eq-or-lt_of_le g) [ inl s ↦ level s | inr l ↦ above l ] ]
  where
    either : (b : Bool) → (T b → e < E) → (T (not b) → E ≤ e) → (e < E) ⊎ (E ≤ e)
    either true y n = inl (y tt)
    either false y n = inr (n tt)

    below : e < E → leb ((hidden + t) * 2 ^ e) ((hidden + F) * 2 ^ E) ≡ leb (suc e * hidden + t) (suc E * hidden + F)
    below l =
        same_test ((hidden + t) * 2 ^ e) ((hidden + F) * 2 ^ E) (suc e * hidden + t) (suc E * hidden + F)
        (λ _. omega arith)
        (λ _. le_of_lt (larger t (2 ^ e) F (2 ^ E) A (pow_pos e) (twice e E l)))

    level : E ≡ e → leb ((hidden + t) * 2 ^ e) ((hidden + F) * 2 ^ E) ≡ leb (suc e * hidden + t) (suc E * hidden + F)
    level s = subst (λ (z : ℕ). leb ((hidden + t) * 2 ^ e) ((hidden + F) * 2 ^ z) ≡ leb (suc e * hidden + t) (suc z * hidden + F)) (sym s)
        (same_test ((hidden + t) * 2 ^ e) ((hidden + F) * 2 ^ e) (suc e * hidden + t) (suc e * hidden + F)
        (λ l. digits (le_of_mul-le-mul_right l (pow_pos e)))
        (λ l. mul-le-mul_right (2 ^ e) (back l)))
      where
        digits : hidden + t ≤ hidden + F → suc e * hidden + t ≤ suc e * hidden + F
        digits l = omega arith

        back : suc e * hidden + t ≤ suc e * hidden + F → hidden + t ≤ hidden + F
        back l = omega arith

    above : E < e → leb ((hidden + t) * 2 ^ e) ((hidden + F) * 2 ^ E) ≡ leb (suc e * hidden + t) (suc E * hidden + F)
    above l =
        same_test ((hidden + t) * 2 ^ e) ((hidden + F) * 2 ^ E) (suc e * hidden + t) (suc E * hidden + F)
        (λ k. absurd (lt_irrefl _ (lt_of_lt_of_le (larger F (2 ^ E) t (2 ^ e) G (pow_pos E) (twice E e l)) k)))
        (λ k. absurd (far k))
      where
        far : suc e * hidden + t ≤ suc E * hidden + F → ⊥
        far k = omega arith

-- ---- the range test

-- d is the number whose fields are suc E and F
abbrev Pattern : ℕ → ℕ → ℕ → Type 0
Pattern d E F = (E < 2046) × ((F < hidden) × (d * 2 ^ 1074 ≡ (hidden + F) * 2 ^ E))

fields_within : (d E F : ℕ) (s : Bool) (x t : ℕ) → Pattern d E F → t < hidden → within d (of_fields binary64 s x t) ≡ leb (x * hidden + t) (suc E * hidden + F)
unfolding of_fields within
fields_within d E F s zero t (B, (G, D)) A =
    value_within d (odd 53 s t 0 1074) s (t * 2 ^ 0) (2 ^ 1074) (pow_pos 1074) (odd_sign 53 s t 0 1074)
    ∙ same_test (t * 2 ^ 0) (d * 2 ^ 1074) (zero * hidden + t) (suc E * hidden + F) (λ _. omega arith) (λ _. subst (λ (z : ℕ). t * 2 ^ 0 ≤ z) (sym D) small)
  where
    small : t * 2 ^ 0 ≤ (hidden + F) * 2 ^ E
    small = let a : (hidden + F) * 1 ≤ (hidden + F) * 2 ^ E = mul-le-mul_left (hidden + F) (pow_pos E) in omega arith
fields_within d E F s (suc e) t (B, (G, D)) A = go (eqb (suc e) 2047) (eqb→eq (suc e) 2047) (eqb t 0)
  where
    past : suc e ≡ 2047 → leb (suc e * hidden + t) (suc E * hidden + F) ≡ false
    past q = lt-leb (suc e * hidden + t) (suc E * hidden + F) (subst (λ (z : ℕ). suc E * hidden + F < z * hidden + t) (sym q) (omega arith))

    go : (b : Bool) → (T b → suc e ≡ 2047) → (z : Bool) → within d (cond b (cond z (inf s) nan) (odd 53 s (hidden + t) e 1074)) ≡ leb (suc e * hidden + t) (suc E * hidden + F)
    go true q true = sym (past (q tt))
    go true q false = sym (past (q tt))
    go false q z =
        value_within d (odd 53 s (hidden + t) e 1074) s ((hidden + t) * 2 ^ e) (2 ^ 1074) (pow_pos 1074) (odd_sign 53 s (hidden + t) e 1074)
        ∙ ap (λ (z : ℕ). leb ((hidden + t) * 2 ^ e) z) D
        ∙ order t F e E A G

-- of the pattern w the first field is that of w % 2 ^ 63
pub bits_within : (d E F w : ℕ) → Pattern d E F → within d (of_bits binary64 w) ≡ leb (w % 2 ^ 63) (suc E * hidden + F)
unfolding of_bits
bits_within d E F w p =
    fields_within d E F (leb (2 ^ 63) w) (w % 2 ^ 63 / hidden) (w % hidden) p (mod-lt w (pow_pos 52))
    ∙ ap (λ (v : ℕ). leb v (suc E * hidden + F)) (sym joined)
  where
    joined : w % 2 ^ 63 ≡ w % 2 ^ 63 / hidden * hidden + w % hidden
    joined = omega arith
