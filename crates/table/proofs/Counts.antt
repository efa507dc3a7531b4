-- Row numbers below C: those that differ are at most C, those that take in each are at least C; the test `among`, and the test `in_one`.
use mathlib.Core.Path.{◌≡◌, refl, sym, ap, subst}
use mathlib.Core.Logic.{◌≢◌}
use Prim.Native.Nat.{ℕ, zero, suc, ◌≤◌, ◌<◌}
use native.Mathlib.Omega.{arith}
use mathlib.Core.Bool.{Bool, true, false, not, cond, ◌||◌}
use mathlib.Core.List.{List, [], ◌∷◌, ◌++◌}
use lib.Dec.{eqb}
use lib.ListN.{length}
use Rattle.table.specs.Questions.{among, in_one, each_in_one}
use Rattle.table.proofs.Tests.{by_bool, clash, and_1, and_2, or_cases, or_1, or_2, none_1, none_2, eqb_yes, eqb_no, eqb_true, eqb_false}
use Rattle.table.proofs.Numbers.{Apart, Distinct, AllApart}

-- NUMBERS below C that differ are no more than C
abbrev pub Below : ℕ → List ℕ → Type 0
Below C [] = Unit {0}
Below C (i ∷ l) = (i < C) × Below C l

abbrev del : ℕ → List ℕ → List ℕ
del c [] = []
del c (i ∷ l) = cond (eqb c i) l (i ∷ del c l)

del_apart : (j c : ℕ) (l : List ℕ) → Apart j l → Apart j (del c l)
del_apart j c [] a = tt
del_apart j c (i ∷ l) a = by_bool (eqb c i) (λ p. rw p a.1) (λ p. rw p (a.0, del_apart j c l a.1))

del_distinct : (c : ℕ) (l : List ℕ) → Distinct l → Distinct (del c l)
del_distinct c [] d = tt
del_distinct c (i ∷ l) d = by_bool (eqb c i) (λ p. rw p d.1) (λ p. rw p (del_apart i c l d.0, del_distinct c l d.1))

-- apart from c and below c + 1 is below c
below_down : (c : ℕ) (l : List ℕ) → Apart c l → Below (suc c) l → Below c l
below_down c [] a b = tt
below_down c (i ∷ l) a b = (omega (arith, a.0, b.0), below_down c l a.1 b.1)

del_below : (c : ℕ) (l : List ℕ) → Distinct l → Below (suc c) l → Below c (del c l)
del_below c [] d b = tt
del_below c (i ∷ l) d b =
    by_bool (eqb c i)
    (λ p. rw p (below_down c l (subst (λ (x : ℕ). Apart x l) (sym (eqb_true c i p)) d.0) b.1))
    (λ p. rw p (omega (arith, eqb_false c i p, b.0), del_below c l d.1 b.1))

del_length : (c : ℕ) (l : List ℕ) → length l ≤ suc (length (del c l))
del_length c [] = omega arith
del_length c (i ∷ l) = by_bool (eqb c i) (λ p. rw p (omega arith)) (λ p. rw p (omega (arith, del_length c l)))

pub numbers_le : (C : ℕ) (l : List ℕ) → Distinct l → Below C l → length l ≤ C
numbers_le zero [] d b = omega arith
numbers_le zero (i ∷ l) d b = omega (arith, b.0)
numbers_le (suc C) l d b = omega (arith, numbers_le C (del C l) (del_distinct C l d) (del_below C l d b), del_length C l)

-- AMONG a list, or apart from it
pub apart_among : (i : ℕ) (l : List ℕ) → Apart i l → among i l ≡ false
apart_among i [] a = refl
apart_among i (j ∷ l) a = rw (eqb_no i j a.0) (apart_among i l a.1)

pub among_apart : (i : ℕ) (l : List ℕ) → among i l ≡ false → Apart i l
among_apart i [] e = tt
among_apart i (j ∷ l) e = (eqb_false i j (none_1 (eqb i j) (among i l) e), among_apart i l (none_2 (eqb i j) (among i l) e))

-- lists are apart where each number among the one is apart from the other
pub all_apart_by : (l m : List ℕ) → ((i : ℕ) → among i l ≡ true → Apart i m) → AllApart l m
all_apart_by [] m h = tt
all_apart_by (j ∷ l) m h = (h j (or_1 (eqb j j) (among j l) (eqb_yes j j refl)), all_apart_by l m (λ i e. h i (or_2 (eqb i j) (among i l) e)))

pub apart_all : (i : ℕ) (l m : List ℕ) → AllApart l m → among i l ≡ true → Apart i m
apart_all i [] m a e = clash e refl
apart_all i (j ∷ l) m a e =
    or_cases (eqb i j) (among i l) e (λ p. subst (λ (x : ℕ). Apart x m) (sym (eqb_true i j p)) a.0) (λ p. apart_all i l m a.1 p)

pub among_below : (C i : ℕ) (l : List ℕ) → Below C l → among i l ≡ true → i < C
among_below C i [] b e = clash e refl
among_below C i (j ∷ l) b e = or_cases (eqb i j) (among i l) e (λ p. subst (λ (x : ℕ). x < C) (sym (eqb_true i j p)) b.0) (λ p. among_below C i l b.1 p)

pub among_append : (i : ℕ) (l m : List ℕ) → among i (l ++ m) ≡ (among i l || among i m)
among_append i [] m = refl
among_append i (j ∷ l) m = rw (among_append i l m) (assoc (eqb i j) (among i l) (among i m))
  where
    assoc : (a b c : Bool) → (a || (b || c)) ≡ ((a || b) || c)
    assoc true b c = refl
    assoc false b c = refl

-- a list that each number below C is among is at least C long
del_shorter : (c : ℕ) (l : List ℕ) → among c l ≡ true → length l ≡ suc (length (del c l))
del_shorter c [] e = clash e refl
del_shorter c (j ∷ l) e = by_bool (eqb c j) (λ p. rw p) (λ p. rw p (ap suc (del_shorter c l (rw p at e))))

del_among : (i c : ℕ) (l : List ℕ) → i ≢ c → among i l ≡ true → among i (del c l) ≡ true
del_among i c [] n e = e
del_among i c (j ∷ l) n e =
    by_bool (eqb c j)
    (λ p. rw p (or_cases (eqb i j) (among i l) e (λ q. absurd (omega (arith, n, eqb_true i j q, eqb_true c j p))) (λ q. q)))
    (λ p. rw p (or_cases (eqb i j) (among i l) e (λ q. or_1 (eqb i j) (among i (del c l)) q) (λ q. or_2 (eqb i j) (among i (del c l)) (del_among i c l n q))))

pub numbers_ge : (C : ℕ) (l : List ℕ) → ((i : ℕ) → i < C → among i l ≡ true) → C ≤ length l
numbers_ge zero l h = omega arith
numbers_ge (suc C) l h =
    omega (arith, del_shorter C l (h C (omega arith)), numbers_ge C (del C l) (λ i n. del_among i C l (omega arith) (h i (omega arith))))

-- IN EXACTLY ONE of two lists
pub in_one_lem : (l m : List ℕ) (n : ℕ) → each_in_one l m n ≡ true → (i : ℕ) → i < n → in_one l m i ≡ true
in_one_lem l m zero h i b = absurd (omega arith)
in_one_lem l m (suc n) h i b =
    by_bool (eqb i n)
    (λ p. subst (λ (x : ℕ). in_one l m x ≡ true) (sym (eqb_true i n p)) (and_1 (in_one l m n) (each_in_one l m n) h))
    (λ p. in_one_lem l m n (and_2 (in_one l m n) (each_in_one l m n) h) i (omega (arith, eqb_false i n p)))

pub one_in : (l m : List ℕ) (n : ℕ) → ((i : ℕ) → i < n → in_one l m i ≡ true) → each_in_one l m n ≡ true
one_in l m zero h = refl
one_in l m (suc n) h = rw (h n (omega arith)) (one_in l m n (λ i b. h i (omega arith)))

-- in one and not in the other
pub one_other : (a b : Bool) → cond a (not b) b ≡ true → a ≡ true → b ≡ false
one_other true true e p = sym e
one_other true false e p = refl
one_other false b e p = clash p refl

pub one_either : (a b : Bool) → cond a (not b) b ≡ true → (a || b) ≡ true
one_either true b e = refl
one_either false b e = e
