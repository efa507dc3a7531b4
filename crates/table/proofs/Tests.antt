-- Tests: what a Bool that is true or false says, and cases of it. Facts about tests are equations (`b ≡ true`), so that `rw` takes them.
use mathlib.Core.Path.{◌≡◌, refl, sym, subst}
use mathlib.Core.Logic.{◌≢◌}
use Prim.Native.Nat.{ℕ, ◌≤◌, ◌<◌}
use native.Mathlib.Omega.{arith}
use mathlib.Core.Bool.{Bool, true, false, not, ◌&&◌, ◌||◌}
use lib.Dec.{T, eqb, eqb→eq, eqb_refl, leb, leb→le, le→leb, ltb, ltb→lt, lt→ltb, nltb→le}

-- cases of a test, with the equation
pub by_bool : {P : Type 0} (b : Bool) → (b ≡ true → P) → (b ≡ false → P) → P
by_bool true f g = f refl
by_bool false f g = g refl

pub T_true : (b : Bool) → T b → b ≡ true
T_true true t = refl
T_true false t = absurd t

pub true_T : {b : Bool} → b ≡ true → T b
true_T e = rw e tt

pub clash : {P : Type 0} {b : Bool} → b ≡ true → b ≡ false → P
clash {b = true} p q = absurd (subst T q tt)
clash {b = false} p q = absurd (subst T (sym p) tt)

-- AND, OR
pub and_1 : (a b : Bool) → (a && b) ≡ true → a ≡ true
and_1 true b e = refl
and_1 false b e = e

pub and_2 : (a b : Bool) → (a && b) ≡ true → b ≡ true
and_2 true b e = e
and_2 false b e = clash e refl

pub and_both : (a b : Bool) → a ≡ true → b ≡ true → (a && b) ≡ true
and_both a b p q = rw (p, q)

pub and_false : (b : Bool) → (b && false) ≡ false
and_false true = refl
and_false false = refl

pub or_cases : {P : Type 0} (a b : Bool) → (a || b) ≡ true → (a ≡ true → P) → (b ≡ true → P) → P
or_cases true b e f g = f refl
or_cases false b e f g = g e

pub or_1 : (a b : Bool) → a ≡ true → (a || b) ≡ true
or_1 a b e = rw e

pub or_2 : (a b : Bool) → b ≡ true → (a || b) ≡ true
or_2 true b e = refl
or_2 false b e = e

pub none_1 : (a b : Bool) → (a || b) ≡ false → a ≡ false
none_1 true b e = e
none_1 false b e = refl

pub none_2 : (a b : Bool) → (a || b) ≡ false → b ≡ false
none_2 true b e = clash refl e
none_2 false b e = e

-- two tests that hold together are one
pub same_test : (a b : Bool) → (a ≡ true → b ≡ true) → (b ≡ true → a ≡ true) → a ≡ b
same_test true b f g = sym (f refl)
same_test false true f g = g refl
same_test false false f g = refl

-- NUMBERS
pub eqb_yes : (m n : ℕ) → m ≡ n → eqb m n ≡ true
eqb_yes m n e = rw e (T_true (eqb n n) (eqb_refl n))

pub eqb_true : (m n : ℕ) → eqb m n ≡ true → m ≡ n
eqb_true m n p = eqb→eq m n (true_T p)

pub eqb_no : (m n : ℕ) → m ≢ n → eqb m n ≡ false
eqb_no m n h = by_bool (eqb m n) (λ p. absurd (h (eqb_true m n p))) (λ p. p)

pub eqb_false : (m n : ℕ) → eqb m n ≡ false → m ≢ n
eqb_false m n p e = clash (eqb_yes m n e) p

pub ltb_yes : (m n : ℕ) → m < n → ltb m n ≡ true
ltb_yes m n h = T_true (ltb m n) (lt→ltb m n h)

pub ltb_true : (m n : ℕ) → ltb m n ≡ true → m < n
ltb_true m n p = ltb→lt m n (true_T p)

pub ltb_false : (m n : ℕ) → ltb m n ≡ false → n ≤ m
ltb_false m n p = nltb→le m n (subst (λ (b : Bool). T (not b)) (sym p) tt)

pub ltb_no : (m n : ℕ) → n ≤ m → ltb m n ≡ false
ltb_no m n h = by_bool (ltb m n) (λ p. absurd (omega (arith, ltb_true m n p))) (λ p. p)

pub leb_yes : (m n : ℕ) → m ≤ n → leb m n ≡ true
leb_yes m n h = T_true (leb m n) (le→leb m n h)

pub leb_true : (m n : ℕ) → leb m n ≡ true → m ≤ n
leb_true m n p = leb→le m n (true_T p)
