-- A distance of at most 800, divided by 5 in f64: the quotient is at most 160, since rounding keeps the order. Assumes nothing.
use Rattle.std.proofs.Common.{◌≡◌, ℕ, zero, suc, ◌+◌, ◌*◌, ◌^◌, ◌<◌, ◌≤◌, max, Bool, true, false, cond, not, T, ltb, pos, sym, refl, subst, zero-lt-suc, div-lt_iff_lt-mul, mul-pos, mul-one, arith, lt→ltb, leb→le}
use lib.Ieee.{Float, nan, inf, fin, binary64, up, down, odd, units, round, div, lt, eq, le}
use lib.Ieee.Fits.{down_pos, round_is}
use lib.Ieee.Order.{round_mono}
use Rattle.measures.specs.Degrees.{nearest_up}
use Rattle.measures.specs.Steps.{half_away, countable, distance, five, off_of}
use Rattle.measures.proofs.Tests.{at_most}

-- no NaN, and no minus sign
abbrev pub plus : Float → Bool
plus nan = false
plus (inf s) = not s
plus (fin s m e) = not s

odd_plus : (d q k l : ℕ) → T (plus (odd d false q k l))
unfolding odd
odd_plus d zero k l = tt
odd_plus d (suc q) k l = tt

-- what is rounded with no minus sign has none
pub units_plus : (q k : ℕ) → T (plus (units binary64 false q k))
unfolding units
units_plus q k = go (ltb (q * 2 ^ k) (2 ^ 2098))
  where
    go : (b : Bool) → T (plus (cond b (odd 54 false q k 1074) (inf false)))
    go true = odd_plus 54 q k 1074
    go false = tt

pub round_plus : (a c : ℕ) → T (plus (round binary64 false a c))
round_plus a c = subst (λ (v : Float). T (plus v)) (sym (round_is binary64 false a c)) (units_plus _ _)

-- 160
abbrev most : Float
most = fin false 5 (pos 5)

most_is : round binary64 false 160 1 ≡ most
unfolding round
most_is = refl

-- a quotient that `half_up` takes, and what it gives at most
pub record Small (q : Float) : Type 0 where
  pub counts : T (countable q)
  pub bound : half_away q ≤ 160

-- with no minus sign and at most 160
small : (q : Float) → T (plus q) → T (le q most) → Small q
unfolding le lt eq countable half_away
small nan p h = absurd p
small (inf true) p h = absurd p
small (inf false) p h = absurd h
small (fin true m e) p h = absurd p
small (fin false m e) p h =
    let l : m * up e * 1 ≤ 5 * 2 ^ 5 * down e = leb→le (m * up e * 1) (5 * 2 ^ 5 * down e) (subst T (at_most (m * up e * 1) (5 * 2 ^ 5 * down e)) h) in
    let b : m * up e ≤ 160 * down e = subst (λ (y : ℕ). y ≤ 160 * down e) (mul-one (m * up e)) l in
    record { counts = lt→ltb (m * up e) (2 ^ 52 * down e) (less (m * up e) (down e) (down_pos e) b); bound = at_last (nearest_up (m * up e) (down e)) ((div-lt_iff_lt-mul (mul-pos (zero-lt-suc 1) (down_pos e))).1 (under (m * up e) (down e) (down_pos e) b)) }
  where
    less : (a d : ℕ) → 0 < d → a ≤ 160 * d → a < 2 ^ 52 * d
    less a d D h = omega arith

    under : (a d : ℕ) → 0 < d → a ≤ 160 * d → 2 * a + d < 161 * (2 * d)
    under a d D h = omega arith

    at_last : (n : ℕ) → n < 161 → n ≤ 160
    at_last n h = omega arith

-- a fifth of a distance
pub quotient : (x : Float) → T (distance x) → Small (div binary64 x five)
unfolding distance div
quotient nan h = absurd h
quotient (inf s) h = absurd h
quotient (fin true m e) h = absurd h
quotient (fin false m e) h =
    small (round binary64 false (m * up e * 1) (5 * 1 * down e)) (round_plus (m * up e * 1) (5 * 1 * down e))
    (subst (λ (v : Float). T (le (round binary64 false (m * up e * 1) (5 * 1 * down e)) v)) most_is
    (round_mono binary64 (m * up e * 1) (5 * 1 * down e) 160 1 (mul-pos (zero-lt-suc 4) (down_pos e)) (zero-lt-suc 0) (cross (m * up e) (down e) (leb→le (m * up e) (800 * down e) h))))
  where
    cross : (a d : ℕ) → a ≤ 800 * d → a * 1 * 1 ≤ 160 * (5 * 1 * d)
    cross a d h = omega arith

-- off is a step of 5 from 5 to 800
pub off_step : (x : Float) → T (distance x) → (k : ℕ) × (off_of x ≡ 5 * k) × (1 ≤ k) × (k ≤ 160)
unfolding off_of
off_step x h = let n = half_away (div binary64 x five) in (max 1 n, refl, some n, few n (quotient x h).bound)
  where
    some : (n : ℕ) → 1 ≤ max 1 n
    some n = omega arith

    few : (n : ℕ) → n ≤ 160 → max 1 n ≤ 160
    few n h = omega arith
