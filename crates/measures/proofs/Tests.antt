-- The two comparisons of a range test, together. Assumes nothing.
use Rattle.std.proofs.Common.{◌≡◌, ℕ, ◌+◌, ◌*◌, ◌^◌, ◌<◌, ◌≤◌, Bool, true, false, not, ◌&&◌, ◌||◌, T, eqb, ltb, leb, pos, sym, refl, ap, ◌∙◌, le_of_eq, le_of_lt, mul-pos, mul-one, arith, le→leb, eqb→eq, ltb→lt, lt→ltb, leb→le, nltb→le}
use lib.Ieee.{Float, nan, inf, fin, up, down, lt, eq, le}
use lib.Ieee.Fits.{down_pos, eq→eqb}
use Rattle.measures.specs.Degrees.{within}

-- below or level is at most
pub at_most : (v d : ℕ) → (ltb v d || (eqb v d && true)) ≡ leb v d
at_most v d = go (ltb v d) (eqb v d) (leb v d) (ltb→lt v d) (λ n. nltb→le v d n) (eqb→eq v d) (λ e. eq→eqb e) (leb→le v d) (le→leb v d)
  where
    go : (l e b : Bool) → (T l → v < d) → (T (not l) → d ≤ v) → (T e → v ≡ d) → (v ≡ d → T e) → (T b → v ≤ d) → (v ≤ d → T b) → (l || (e && true)) ≡ b
    go true e true l1 l2 e1 e2 b1 b2 = refl
    go true e false l1 l2 e1 e2 b1 b2 = absurd (b2 (le_of_lt (l1 tt)))
    go false true true l1 l2 e1 e2 b1 b2 = refl
    go false true false l1 l2 e1 e2 b1 b2 = absurd (b2 (le_of_eq (e1 tt)))
    go false false true l1 l2 e1 e2 b1 b2 = absurd (e2 (same v d (l2 tt) (b1 tt)))
      where
        same : (v d : ℕ) → d ≤ v → v ≤ d → v ≡ d
        same v d h k = omega arith
    go false false false l1 l2 e1 e2 b1 b2 = refl

or_yes : (a b : Bool) → T a → (a || b) ≡ true
or_yes true b t = refl
or_yes false b t = absurd t

pair : {a b c d : Bool} → a ≡ c → b ≡ d → (a && b) ≡ (c && d)
pair {a} {b} {c} {d} p q = ap (λ (x : Bool). x && b) p ∙ ap (λ (x : Bool). c && x) q

and_true : (a : Bool) → (a && true) ≡ a
and_true true = refl
and_true false = refl

-- -d ≤ x ≤ d, for a d = n * 2 ^ k above 0
pub range : (n k : ℕ) (x : Float) → 0 < n * 2 ^ k → (le (fin true n (pos k)) x && le x (fin false n (pos k))) ≡ within (n * 2 ^ k) x
unfolding le lt eq within
range n k nan h = refl
range n k (inf true) h = refl
range n k (inf false) h = refl
range n k (fin false m e) h =
    pair (or_yes (ltb 0 (n * 2 ^ k * down e + m * up e * 1)) (eqb (n * 2 ^ k * down e) (m * up e * 1) && (false || eqb (n * 2 ^ k * down e) 0)) (lt→ltb 0 (n * 2 ^ k * down e + m * up e * 1) (some (n * 2 ^ k * down e) (m * up e * 1) (mul-pos h (down_pos e)))))
    (at_most (m * up e * 1) (n * 2 ^ k * down e))
    ∙ ap (λ (v : ℕ). leb v (n * 2 ^ k * down e)) (mul-one (m * up e))
  where
    some : (a b : ℕ) → 0 < a → 0 < a + b
    some a b h = omega arith
range n k (fin true m e) h =
    pair (ap (λ (b : Bool). ltb (m * up e * 1) (n * 2 ^ k * down e) || (b && true)) (flip (n * 2 ^ k * down e) (m * up e * 1)) ∙ at_most (m * up e * 1) (n * 2 ^ k * down e))
    (or_yes (ltb 0 (m * up e * 1 + n * 2 ^ k * down e)) (eqb (m * up e * 1) (n * 2 ^ k * down e) && (false || eqb (m * up e * 1) 0)) (lt→ltb 0 (m * up e * 1 + n * 2 ^ k * down e) (some (m * up e * 1) (n * 2 ^ k * down e) (mul-pos h (down_pos e)))))
    ∙ and_true (leb (m * up e * 1) (n * 2 ^ k * down e))
    ∙ ap (λ (v : ℕ). leb v (n * 2 ^ k * down e)) (mul-one (m * up e))
  where
    some : (a b : ℕ) → 0 < b → 0 < a + b
    some a b h = omega arith

    flip : (a b : ℕ) → eqb a b ≡ eqb b a
    flip a b = go (eqb a b) (eqb b a) (eqb→eq a b) (λ e. eq→eqb e) (eqb→eq b a) (λ e. eq→eqb e)
      where
        go : (x y : Bool) → (T x → a ≡ b) → (a ≡ b → T x) → (T y → b ≡ a) → (b ≡ a → T y) → x ≡ y
        go true true p q r s = refl
        go true false p q r s = absurd (s (sym (p tt)))
        go false true p q r s = absurd (q (sym (r tt)))
        go false false p q r s = refl

-- the same from the first test's answer, which the program has
pub range_by : (n k : ℕ) (x : Float) (b : Bool) → 0 < n * 2 ^ k → le (fin true n (pos k)) x ≡ b → (b && le x (fin false n (pos k))) ≡ within (n * 2 ^ k) x
range_by n k x b h e = ap (λ (t : Bool). t && le x (fin false n (pos k))) (sym e) ∙ range n k x h
