-- The allowance is no NaN and not negative, so the excess of an edge of at most 800 is from 0 to 800. Assumes nothing.
use Rattle.std.specs.Prelude.{Some, None}
use mathlib.Core.Path.{◌≡◌, refl, sym, subst}
use mathlib.Core.Bool.{Bool, true, false, cond}
use Prim.Native.Nat.{ℕ, zero, suc, ◌+◌, ◌-◌, ◌*◌, ◌/◌, ◌^◌, ◌≤◌, ◌<◌}
use native.Mathlib.Nat.{le_trans, le_of_eq, mul-le-mul_right, mul_assoc, mul-one, mul-pos, sub-le, zero-lt-suc}
use native.Mathlib.Omega.{arith}
use lib.Dec.{T, ltb, eqb, leb→le, le→leb, ltb→lt, not_T}
use lib.IntN.{ℤ, pos}
use lib.Ieee.{Float, nan, inf, fin, binary64, up, down, size, round, sum, add, sub, neg, mul, lt, eq, le}
use lib.Ieee.Fits.{down_pos}
use lib.Ieee.Bits.{is_false}
use lib.Ieee.Order.{round_mono}
use Rattle.root.specs.Root.{root, root_units, isqrt, plus_zero}
use Rattle.floats.specs.Horizon.{at_least_zero, horizon, allowance, four_twelve, eleven_tenths, twenty, past_of}
use Rattle.measures.specs.Steps.{distance}
use Rattle.root.proofs.Signs.{true_not_false}
use Rattle.measures.proofs.Tests.{at_most}
use Rattle.measures.proofs.Quotient.{plus, units_plus, round_plus}

-- ---- `plus` goes through the root, the sum and the product

root_units_plus : (u : ℕ) → T (plus (root_units u))
unfolding root_units
root_units_plus u =
    let n = u * 2 ^ 1074 in
    let k = (size n + 1) / 2 - 53 in
    units_plus ((isqrt (4 * n / 4 ^ k) + 1) / 2) k

root_plus : (x : Float) → T (plus x) → T (plus (root x))
unfolding root
root_plus nan p = absurd p
root_plus (inf true) p = absurd p
root_plus (inf false) p = tt
root_plus (fin s zero e) p = p
root_plus (fin true (suc m) e) p = absurd p
root_plus (fin false (suc m) e) p = root_units_plus (suc m * up e * 2 ^ 1074 / down e)

-- x where the test is true, else +0
pub above_plus : (x : Float) (b : Bool) → lt plus_zero x ≡ b → T (plus (cond b x plus_zero))
unfolding lt
above_plus x false h = tt
above_plus nan true h = absurd (true_not_false (sym h))
above_plus (inf true) true h = absurd (true_not_false (sym h))
above_plus (inf false) true h = tt
above_plus (fin true m e) true h = absurd (true_not_false (sym h))
above_plus (fin false m e) true h = tt

raised_plus : (x : Float) → T (plus (at_least_zero x))
unfolding at_least_zero
raised_plus x = above_plus x (lt plus_zero x) refl

add_plus : (x y : Float) → T (plus x) → T (plus y) → T (plus (add binary64 x y))
unfolding add sum
add_plus nan y p q = absurd p
add_plus (inf true) y p q = absurd p
add_plus (inf false) nan p q = absurd q
add_plus (inf false) (inf true) p q = absurd q
add_plus (inf false) (inf false) p q = tt
add_plus (inf false) (fin t n d) p q = tt
add_plus (fin s m e) nan p q = absurd q
add_plus (fin s m e) (inf true) p q = absurd q
add_plus (fin s m e) (inf false) p q = tt
add_plus (fin true m e) (fin t n d) p q = absurd p
add_plus (fin false m e) (fin true n d) p q = absurd q
add_plus (fin false m e) (fin false n d) p q = round_plus (m * up e * down d + n * up d * down e) (down e * down d)

mul_plus : (m : ℕ) (e : ℤ) (y : Float) → eqb m 0 ≡ false → T (plus y) → T (plus (mul binary64 (fin false m e) y))
unfolding mul
mul_plus m e nan h q = absurd q
mul_plus m e (inf true) h q = absurd q
mul_plus m e (inf false) h q = subst (λ (b : Bool). T (plus (cond b nan (inf false)))) (sym h) tt
mul_plus m e (fin true n d) h q = absurd q
mul_plus m e (fin false n d) h q = round_plus (m * up e * (n * up d)) (down e * down d)

horizon_plus : (a b : Float) → T (plus (horizon a b))
unfolding horizon four_twelve
horizon_plus a b = mul_plus _ _ (add binary64 (root (at_least_zero a)) (root (at_least_zero b))) refl (add_plus (root (at_least_zero a)) (root (at_least_zero b)) (root_plus (at_least_zero a) (raised_plus a)) (root_plus (at_least_zero b) (raised_plus b)))

pub allowance_plus : (a b : Float) → T (plus (allowance a b))
unfolding allowance eleven_tenths twenty
allowance_plus a b = add_plus (mul binary64 eleven_tenths (horizon a b)) twenty (mul_plus _ _ (horizon a b) refl (horizon_plus a b)) tt

-- ---- from 0 to 800

-- 800
abbrev pub most : Float
most = fin false 25 (pos 5)

pub most_is : round binary64 false 800 1 ≡ most
unfolding round
most_is = refl

-- at most 800 and with no minus sign is a distance
pub bounded : (q : Float) → T (plus q) → T (le q most) → T (distance q)
unfolding le lt eq distance
bounded nan p h = absurd p
bounded (inf true) p h = absurd p
bounded (inf false) p h = absurd h
bounded (fin true m e) p h = absurd p
bounded (fin false m e) p h =
    le→leb (m * up e) (800 * down e) (subst (λ (y : ℕ). y ≤ 800 * down e) (mul-one (m * up e)) (leb→le (m * up e * 1) (25 * 2 ^ 5 * down e) (subst T (at_most (m * up e * 1) (25 * 2 ^ 5 * down e)) h)))

not_less : (a b : ℕ) → b < a → ltb a b ≡ false
not_less a b h = is_false (ltb a b) (not_T (ltb a b) (λ (t : T (ltb a b)). no_both a b h (ltb→lt a b t)))
  where
    no_both : (a b : ℕ) → b < a → a < b → ⊥
    no_both a b h k = omega arith

-- the difference of a distance and what is below it is a distance
pub excess : (x y : Float) → T (distance x) → T (plus y) → lt y x ≡ true → T (distance (sub binary64 x y))
unfolding distance lt sub add neg sum
excess nan y p q h = absurd p
excess (inf s) y p q h = absurd p
excess (fin true m e) y p q h = absurd p
excess (fin false m e) nan p q h = absurd q
excess (fin false m e) (inf true) p q h = absurd q
excess (fin false m e) (inf false) p q h = absurd (true_not_false (sym h))
excess (fin false m e) (fin true n d) p q h = absurd q
excess (fin false m e) (fin false n d) p q h =
    let a = m * up e * down d in
    let b = n * up d * down e in
    let c = down e * down d in
    let l : b < a = ltb→lt b a (subst T (sym h) tt) in
    let top : m * up e ≤ 800 * down e = leb→le (m * up e) (800 * down e) p in
    let cross : (a - b) * 1 ≤ 800 * c = le_trans (le_of_eq (mul-one (a - b))) (le_trans (sub-le a b) (le_trans (mul-le-mul_right (down d) top) (le_of_eq (mul_assoc 800 (down e) (down d))))) in
    subst (λ (t : Bool). T (distance (cond t (round binary64 true (b - a) c) (round binary64 false (a - b) c)))) (sym (not_less a b l))
    (bounded (round binary64 false (a - b) c) (round_plus (a - b) c)
    (subst (λ (v : Float). T (le (round binary64 false (a - b) c) v)) most_is (round_mono binary64 (a - b) c 800 1 (mul-pos (down_pos e) (down_pos d)) (zero-lt-suc 0) cross)))

-- where the answer is an excess, it is the difference, and the edge is past
pub by_is : (b : Bool) (e km : Float) → cond b (Some e) None ≡ Some km → (b ≡ true) × (e ≡ km)
by_is true e km h = (refl, cc)
by_is false e km h = let z : ◌≡◌ {A = ℕ} 0 1 = cc in absurd (none z)
  where
    none : ◌≡◌ {A = ℕ} 0 1 → ⊥
    none h = omega arith

-- an excess of a distance is a distance, so it meets what `off_km` asks for
pub in_range : (edge a b km : Float) → T (distance edge) → past_of edge a b ≡ Some km → T (distance km)
unfolding past_of
in_range edge a b km p h =
    let k = by_is (lt (allowance a b) edge) (sub binary64 edge (allowance a b)) km h in
    subst (λ (x : Float). T (distance x)) k.1 (excess edge (allowance a b) p (allowance_plus a b) k.0)
