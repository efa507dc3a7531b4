-- 01, A judging, 2: excess number (len div 2) is taken "from 0, ascending". Floats in ascending order. Definitions only.
use Rattle.std.specs.Prelude.{ℕ, ◌+◌, ◌≤◌, Bool, cond, List, [], ◌∷◌, T, Float}
use Rattle.std.specs.Float.{binary64}
use Rattle.std.specs.Float.Ieee.{fits, lt}
use Rattle.root.specs.Root.{units_of, plain}

-- x put into a list: going up, the smaller of the two stays, and the larger goes on
unfoldable pub insert : Float → List Float → List Float
insert x [] = x ∷ []
insert x (y ∷ l) = cond (lt x y) x y ∷ insert (cond (lt x y) y x) l

-- the same numbers, ascending
unfoldable pub sorted : List Float → List Float
sorted [] = []
sorted (x ∷ l) = insert x (sorted l)

-- ---- what `insert` does, which `proofs/Order.antt` proves: the list stays ascending, and it has x and what it had

-- finite, not negative, and held by the format
abbrev pub Good : Float → Type 0
Good x = T (fits binary64 x) × T (plain x)

abbrev pub AllGood : List Float → Type 0
AllGood [] = Unit
AllGood (x ∷ l) = Good x × AllGood l

-- x is at most each of l
abbrev pub AtMost : Float → List Float → Type 0
AtMost x [] = Unit
AtMost x (y ∷ l) = (units_of x ≤ units_of y) × AtMost x l

abbrev pub Ascending : List Float → Type 0
Ascending [] = Unit
Ascending (x ∷ l) = AtMost x l × Ascending l

-- how many of l pass a test
abbrev pub count : (Float → Bool) → List Float → ℕ
count p [] = 0
count p (x ∷ l) = cond (p x) 1 0 + count p l
