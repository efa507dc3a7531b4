-- A finite value of the format in units of 2 ^ -1074. Assumes nothing.
use Rattle.std.proofs.Common.{◌≡◌, ℕ, zero, suc, ◌+◌, ◌-◌, ◌*◌, ◌/◌, ◌%◌, ◌^◌, ◌<◌, ◌≤◌, Bool, true, false, ◌&&◌, T, eqb, ltb, leb, ℤ, pos, negsuc, sym, refl, ap, ◌∙◌, subst, le_trans, le_of_eq, lt_of_lt_of_le, le_of_suc-le-suc, lt_of_le_of_lt, lt_irrefl, mul-le-mul_right, mul_assoc, lt_of_mul-lt-mul_right, mul-le-mul_left, mul-lt-mul_of_pos_right, mul-pos, one-mul, lt_of_not-le, zero-mul, mul-one, mul_right_comm, mul-div_cancel, eqb→eq, ltb→lt, lt→ltb, leb→le, pow_pos, pow_mono, pow-add}
use native.Mathlib.Nat.{pow-succ'}
use lib.Pow.{pow-lt}
use lib.Ieee.{Float, nan, inf, fin, binary64, up, down, fits, lt}
use lib.Ieee.Digits.{back}
use lib.Ieee.Fits.{and_l, and_r, up_pos, down_pos}
use lib.Ieee.Exact.{HasValue}
use Rattle.root.specs.Root.{units_of, plain}

-- ---- what fitting says

pow_le_back : (a l : ℕ) → 2 ^ a ≤ 2 ^ l → a ≤ l
pow_le_back a l h = le_of_suc-le-suc (lt_of_not-le (λ (g : suc l ≤ a). lt_irrefl (2 ^ l) (lt_of_lt_of_le (pow-lt g) h)))

pub digits : (s : Bool) (m : ℕ) (e : ℤ) → T (fits binary64 (fin s m e)) → m < 2 ^ 53
unfolding fits
digits s zero e h = pow_pos 53
digits s (suc m) e h =
    let A = eqb (suc m % 2) 1 in
    let B = ltb (suc m) (2 ^ 53) in
    let C = leb (down e) (2 ^ 1074) in
    let D = ltb (suc m * up e) (2 ^ 1024 * down e) in
    ltb→lt (suc m) (2 ^ 53) (and_r A B (and_l (A && B) C (and_l (A && B && C) D h)))

pub not_too_low : (s : Bool) (m : ℕ) (e : ℤ) → T (fits binary64 (fin s m e)) → down e ≤ 2 ^ 1074
unfolding fits
not_too_low s zero e h =
    le_trans (le_trans (le_of_eq (sym (one-mul (down e)))) (mul-le-mul_right (down e) (up_pos e))) (le_trans (le_of_eq (eqb→eq (up e * down e) 1 h)) (pow_pos 1074))
not_too_low s (suc m) e h =
    let A = eqb (suc m % 2) 1 in
    let B = ltb (suc m) (2 ^ 53) in
    let C = leb (down e) (2 ^ 1074) in
    let D = ltb (suc m * up e) (2 ^ 1024 * down e) in
    leb→le (down e) (2 ^ 1074) (and_r (A && B) C (and_l (A && B && C) D h))

-- in units of 2 ^ -1074
pub in_units : (m : ℕ) (e : ℤ) → down e ≤ 2 ^ 1074 → (j : ℕ) × (m * up e * 2 ^ 1074 ≡ m * 2 ^ j * down e)
in_units m (pos a) h = (a + 1074, mul_assoc m (2 ^ a) (2 ^ 1074) ∙ ap (λ (x : ℕ). m * x) (sym (pow-add 2 a 1074)) ∙ sym (mul-one (m * 2 ^ (a + 1074))))
in_units m (negsuc a) h =
    let l : suc a ≤ 1074 = pow_le_back (suc a) 1074 h in (
      1074 - suc a,
      ap (λ (x : ℕ). x * 2 ^ 1074) (mul-one m) ∙ ap (λ (x : ℕ). m * x) (ap (λ (x : ℕ). 2 ^ x) (sym (back 1074 (suc a) l)) ∙ pow-add 2 (1074 - suc a) (suc a)) ∙ sym (mul_assoc m (2 ^ (1074 - suc a)) (2 ^ suc a)),
    )

pub below_top : (s : Bool) (m : ℕ) (e : ℤ) → T (fits binary64 (fin s m e)) → m * up e < 2 ^ 1024 * down e
unfolding fits
below_top s zero e h = lt_of_le_of_lt (le_of_eq (zero-mul (up e))) (lt_of_lt_of_le (down_pos e) (le_trans (le_of_eq (sym (one-mul (down e)))) (mul-le-mul_right (down e) (pow_pos 1024))))
below_top s (suc m) e h =
    let A = eqb (suc m % 2) 1 in
    let B = ltb (suc m) (2 ^ 53) in
    let C = leb (down e) (2 ^ 1074) in
    let D = ltb (suc m * up e) (2 ^ 1024 * down e) in
    ltb→lt (suc m * up e) (2 ^ 1024 * down e) (and_r (A && B && C) D h)

-- m with j zeros after it
pub record Shape (u : ℕ) : Type 0 where
  pub m : ℕ
  pub j : ℕ
  pub small : m < 2 ^ 53
  pub is : u ≡ m * 2 ^ j
  pub low : u < 2 ^ 2098

pub shape : (s : Bool) (m : ℕ) (e : ℤ) → T (fits binary64 (fin s m e)) → Shape (units_of (fin s m e))
shape s m e h =
    let u = in_units m e (not_too_low s m e h) in
    let eq : m * up e * 2 ^ 1074 / down e ≡ m * 2 ^ u.0 = ap (λ (x : ℕ). x / down e) u.1 ∙ mul-div_cancel (m * 2 ^ u.0) (down_pos e) in
    record {
      m = m;
      j = u.0;
      small = digits s m e h;
      is = eq;
      low = subst (λ (x : ℕ). x < 2 ^ 2098) (sym eq)
          (lt_of_mul-lt-mul_right (down e) (subst (λ (x : ℕ). x < 2 ^ 2098 * down e) u.1
          (lt_of_lt_of_le (mul-lt-mul_of_pos_right (below_top s m e h) (pow_pos 1074)) (le_of_eq (mul_right_comm (2 ^ 1024) (down e) (2 ^ 1074) ∙ ap (λ (x : ℕ). x * down e) (sym (pow-add 2 1024 1074)))))));
    }

pub shape_of : (y : Float) → T (fits binary64 y) → T (plain y) → Shape (units_of y)
shape_of nan f p = absurd p
shape_of (inf s) f p = absurd p
shape_of (fin s m e) f p = shape s m e f

-- from 2 ^ 52 * 2 ^ k on, every value is a multiple of 2 ^ k
pub multiple : (u k : ℕ) → Shape u → 2 ^ 52 * 2 ^ k ≤ u → (c : ℕ) × (u ≡ c * 2 ^ k)
multiple u k t h =
    let m = t.m in
    let j = t.j in
    let no_less : k ≤ j = le_of_suc-le-suc (lt_of_not-le (λ (g : suc j ≤ k). lt_irrefl u
    (lt_of_lt_of_le (lt_of_le_of_lt (le_of_eq t.is) (mul-lt-mul_of_pos_right t.small (pow_pos j)))
    (le_trans (le_of_eq (mul_assoc (2 ^ 52) 2 (2 ^ j) ∙ ap (λ (x : ℕ). 2 ^ 52 * x) (sym (pow-succ' 2 j)))) (le_trans (mul-le-mul_left (2 ^ 52) (pow_mono g)) h))))) in (
      m * 2 ^ (j - k),
      t.is ∙ ap (λ (x : ℕ). m * 2 ^ x) (sym (back j k no_less)) ∙ ap (λ (x : ℕ). m * x) (pow-add 2 (j - k) k) ∙ sym (mul_assoc m (2 ^ (j - k)) (2 ^ k)),
    )

-- the value by its units
pub own_units : (y : Float) → T (fits binary64 y) → T (plain y) → HasValue y false (units_of y) (2 ^ 1074)
own_units nan f p = absurd p
own_units (inf s) f p = absurd p
own_units (fin true m e) f p = absurd p
own_units (fin false m e) f p =
    let u = in_units m e (not_too_low false m e f) in
    (refl, u.1 ∙ ap (λ (x : ℕ). x * down e) (sym (ap (λ (x : ℕ). x / down e) u.1 ∙ mul-div_cancel (m * 2 ^ u.0) (down_pos e))))

pub units_of_lem : (y : Float) (a : ℕ) → HasValue y false a (2 ^ 1074) → (units_of y ≡ a) × T (plain y)
units_of_lem nan a h = absurd h
units_of_lem (inf s) a h = absurd h
units_of_lem (fin true m e) a h = absurd (subst T h.0 tt)
units_of_lem (fin false m e) a h = (ap (λ (x : ℕ). x / down e) h.1 ∙ mul-div_cancel a (down_pos e), tt)

-- ---- the order of two values that are not negative is that of their units, so that `omega` can work on it

pub lt_units : (x y : Float) → T (fits binary64 x) → T (plain x) → T (fits binary64 y) → T (plain y) → lt x y ≡ ltb (units_of x) (units_of y)
unfolding lt
lt_units x y fx px fy py = go x y px py (units_of x) (units_of y) (own_units x fx px) (own_units y fy py)
  where
    cross : (x y a b d e l : ℕ) → 0 < d → 0 < e → 0 < l → x * l ≡ a * d → y * l ≡ b * e → x * e < y * d → a < b
    cross x y a b d e l D E L p q h =
        lt_of_mul-lt-mul_right (d * e)
        (lt_of_le_of_lt (le_of_eq (sym (mul_assoc a d e) ∙ ap (λ (z : ℕ). z * e) (sym p) ∙ mul_right_comm x l e))
        (lt_of_lt_of_le (mul-lt-mul_of_pos_right h L) (le_of_eq (mul_right_comm y d l ∙ ap (λ (z : ℕ). z * d) q ∙ mul_right_comm b e d ∙ mul_assoc b d e))))

    back_cross : (x y a b d e l : ℕ) → 0 < d → 0 < e → 0 < l → x * l ≡ a * d → y * l ≡ b * e → a < b → x * e < y * d
    back_cross x y a b d e l D E L p q h =
        lt_of_mul-lt-mul_right l
        (lt_of_le_of_lt (le_of_eq (mul_right_comm x e l ∙ ap (λ (z : ℕ). z * e) p ∙ mul_assoc a d e))
        (lt_of_lt_of_le (mul-lt-mul_of_pos_right h (mul-pos D E)) (le_of_eq (sym (mul_assoc b d e) ∙ mul_right_comm b d e ∙ ap (λ (z : ℕ). z * d) (sym q) ∙ mul_right_comm y l d))))

    same : (a b c d : ℕ) → (a < b → c < d) → (c < d → a < b) → ltb a b ≡ ltb c d
    same a b c d f g = both (ltb a b) (ltb c d) (λ t. lt→ltb c d (f (ltb→lt a b t))) (λ t. lt→ltb a b (g (ltb→lt c d t)))
      where
        both : (p q : Bool) → (T p → T q) → (T q → T p) → p ≡ q
        both true true f g = refl
        both true false f g = absurd (f tt)
        both false true f g = absurd (g tt)
        both false false f g = refl

    go : (x y : Float) → T (plain x) → T (plain y) → (a b : ℕ) → HasValue x false a (2 ^ 1074) → HasValue y false b (2 ^ 1074) → lt x y ≡ ltb a b
    go nan y p q a b h k = absurd p
    go (inf s) y p q a b h k = absurd p
    go (fin s m e) nan p q a b h k = absurd q
    go (fin s m e) (inf t) p q a b h k = absurd q
    go (fin true m e) (fin t n d) p q a b h k = absurd p
    go (fin false m e) (fin true n d) p q a b h k = absurd q
    go (fin false m e) (fin false n d) p q a b h k =
        same (m * up e * down d) (n * up d * down e) a b (cross (m * up e) (n * up d) a b (down e) (down d) (2 ^ 1074) (down_pos e) (down_pos d) (pow_pos 1074) h.1 k.1)
        (back_cross (m * up e) (n * up d) a b (down e) (down d) (2 ^ 1074) (down_pos e) (down_pos d) (pow_pos 1074) h.1 k.1)
