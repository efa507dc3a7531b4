-- Lists in ascending order: of any elements by a number that each has, and of numbers themselves. Definitions only.
use Rattle.std.specs.Prelude.{ℕ, Bool, cond, List, [], ◌∷◌, leb, get_or}
use Rattle.cells.specs.Passes.{pass}

module _ {A : Type 0} (key : A → ℕ) where
  -- a put before the first that is not less
  unfoldable pub insert : A → List A → List A
  insert a [] = a ∷ []
  insert a (b ∷ l) = cond (leb (key a) (key b)) (a ∷ b ∷ l) (b ∷ insert a l)

  -- ascending by key; equal ones keep their order
  unfoldable pub ascending : List A → List A
  ascending [] = []
  ascending (a ∷ l) = insert a (ascending l)

-- numbers in ascending order
abbrev pub sorted : List ℕ → List ℕ
sorted xs = ascending (λ (x : ℕ). x) xs

-- element number k of a list, from 0
abbrev pub nth : ℕ → List ℕ → ℕ
nth k xs = get_or xs k 0

-- f of those of the first n that have p
unfoldable pub those : (ℕ → Bool) → (ℕ → ℕ) → ℕ → List ℕ
those p f n = pass (λ (i : ℕ) (xs : List ℕ). cond (p i) (f i ∷ xs) xs) [] n
