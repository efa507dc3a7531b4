-- Running sums over elements that have a key and a weight. Definitions only.
use Rattle.std.specs.Prelude.{ℕ, ◌+◌, ◌*◌, cond, List, [], ◌∷◌, leb}

module _ {A : Type 0} (key : A → ℕ) where
  -- the key of the first of a list at which twice the weights passed, those passed before it with them, reach a total; 0 where none does
  unfoldable pub first_reaching : (A → ℕ) → ℕ → ℕ → List A → ℕ
  first_reaching weight total passed [] = 0
  first_reaching weight total passed (a ∷ l) =
      cond (leb total (2 * (passed + weight a))) (key a) (first_reaching weight total (passed + weight a) l)

-- the weights of a list, added up
unfoldable pub total : {A : Type 0} → (A → ℕ) → List A → ℕ
total weight [] = 0
total weight (a ∷ l) = weight a + total weight l
