-- Lists of row numbers: apart from a number, apart from each other, no number twice.
use mathlib.Core.Path.{◌≡◌, refl, sym}
use mathlib.Core.Logic.{◌≢◌}
use Prim.Native.Nat.{ℕ, ◌≤◌, ◌<◌}
use native.Mathlib.Omega.{arith}
use mathlib.Core.List.{List, [], ◌∷◌, ◌++◌}
use Rattle.table.specs.Rows.{NONE}
use Rattle.table.specs.Questions.{last_of}

-- the first of a list; n where it is empty
abbrev pub first : List ℕ → ℕ → ℕ
first [] n = n
first (i ∷ l) n = i

abbrev pub Apart : ℕ → List ℕ → Type 0
Apart i [] = Unit {0}
Apart i (j ∷ l) = (i ≢ j) × Apart i l

abbrev pub Distinct : List ℕ → Type 0
Distinct [] = Unit {0}
Distinct (i ∷ l) = Apart i l × Distinct l

abbrev pub AllApart : List ℕ → List ℕ → Type 0
AllApart [] m = Unit {0}
AllApart (i ∷ l) m = Apart i m × AllApart l m

pub apart_append : (i : ℕ) (l m : List ℕ) → Apart i (l ++ m) → Apart i l × Apart i m
apart_append i [] m a = (tt, a)
apart_append i (j ∷ l) m a = let r = apart_append i l m a.1 in ((a.0, r.0), r.1)

pub append_apart : (i : ℕ) (l m : List ℕ) → Apart i l → Apart i m → Apart i (l ++ m)
append_apart i [] m a b = b
append_apart i (j ∷ l) m a b = (a.0, append_apart i l m a.1 b)

pub distinct_append : (l m : List ℕ) → Distinct (l ++ m) → Distinct l × Distinct m × AllApart l m
distinct_append [] m d = (tt, d, tt)
distinct_append (i ∷ l) m d =
    let r = distinct_append l m d.1 in
    let a = apart_append i l m d.0 in
    ((a.0, r.0), r.1, (a.1, r.2))

pub append_distinct : (l m : List ℕ) → Distinct l → Distinct m → AllApart l m → Distinct (l ++ m)
append_distinct [] m d e a = e
append_distinct (i ∷ l) m d e a = (append_apart i l m d.0 a.0, append_distinct l m d.1 e a.1)

pub apart_last : (i j : ℕ) (l : List ℕ) → Apart i (j ∷ l) → i ≢ last_of j l
apart_last i j [] a = a.0
apart_last i j (k ∷ l) a = apart_last i k l a.1

-- the last of a list is apart from what all of it is apart from
pub last_apart : (i : ℕ) (l m : List ℕ) → AllApart (i ∷ l) m → Apart (last_of i l) m
last_apart i [] m a = a.0
last_apart i (j ∷ l) m a = last_apart j l m a.1

-- apartness the other way round
pub apart_flip : (l : List ℕ) (j : ℕ) (m : List ℕ) → AllApart l (j ∷ m) → Apart j l × AllApart l m
apart_flip [] j m a = (tt, tt)
apart_flip (i ∷ l) j m a = let r = apart_flip l j m a.1 in ((λ e. a.0.0 (sym e), r.0), (a.0.1, r.1))

pub flip_apart : (l : List ℕ) (j : ℕ) (m : List ℕ) → Apart j l → AllApart l m → AllApart l (j ∷ m)
flip_apart [] j m a b = tt
flip_apart (i ∷ l) j m a b = ((λ e. a.0 (sym e), b.0), flip_apart l j m a.1 b.1)

pub last_append : (p : ℕ) (l : List ℕ) (j : ℕ) (m : List ℕ) → last_of p (l ++ j ∷ m) ≡ last_of j m
last_append p [] j m = refl
last_append p (i ∷ l) j m = last_append i l j m

-- what is left apart, and apart from i, when i goes
pub distinct_drop : (l : List ℕ) (i : ℕ) (m : List ℕ) → Distinct (l ++ i ∷ m) → Distinct (l ++ m) × Apart i (l ++ m)
distinct_drop l i m d =
    let a = distinct_append l (i ∷ m) d in
    let b = apart_flip l i m a.2 in
    (append_distinct l m a.0 a.1.1 b.1, append_apart i l m b.0 a.1.0)

-- a row's number is not none
pub below_none : {m n : ℕ} → m < n → n ≤ NONE → m ≢ NONE
below_none h l = omega arith
