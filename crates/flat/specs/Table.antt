-- The rows of a slice of words. Definitions only.
use Rattle.std.specs.Prelude.{ℕ, zero, suc, ◌/◌, ◌%◌, ◌≡◌, cond, List, [], ◌∷◌, ◌++◌, eqb, length, take, drop}
use Rattle.table.specs.Machine.{Answer, refused, said}
use Rattle.receiver.specs.Calls.{Out}
use Rattle.rows.specs.declared.Row.{Row}
use Rattle.flat.specs.Words.{words_of_row, closed_of, opened_of}

-- the first n rows
unfoldable pub rows_from : ℕ → List ℕ → List Row
rows_from zero ws = []
rows_from (suc n) ws = opened_of (take words_of_row ws) ∷ rows_from n (drop words_of_row ws)

-- a length that is no multiple of a row's has no rows, so that question 1 refuses it
unfoldable pub rows_of : List ℕ → List Row
rows_of ws = cond (eqb (length ws % words_of_row) 0) (rows_from (length ws / words_of_row) ws) []

-- each row closed, one after another
unfoldable pub words_of : List Row → List ℕ
words_of [] = []
words_of (r ∷ rs) = closed_of r ++ words_of rs

-- What a call leaves in the lent words, by its answer: refused, those before it; accepted, the rows that they are read as, closed. Which rows, the call's equation says.
unfoldable pub Left : Answer Out → List ℕ → List ℕ → Type 0
Left (refused n) before after = after ≡ before
Left (said pushed out) before after = after ≡ words_of (rows_of after)
