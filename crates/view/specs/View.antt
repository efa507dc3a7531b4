-- The merged cells of one row (01, "A judging"). Definitions only.
use Rattle.std.specs.Prelude.{ℕ, ◌+◌, ◌/◌, ◌<◌, ◌≡◌, Bool, true, false, ◌||◌, cond, List, eqb, get_or, Some, None, Option}
use Rattle.cells.specs.Cells.{count_of, empty_word, merged_word, occupied_word}
use Rattle.cells.specs.Passes.{sum_of, how_many, some, table}
use Rattle.view.specs.declared.Far.{Far}

-- Merge the halves whose id is now_ms div 43,200,000 or one less
unfoldable pub kept : Option ℕ → ℕ → Bool
kept (Some id) now = eqb id (now / 43200000) || eqb (id + 1) (now / 43200000)
kept None now = false

-- a cell of the even half with one of the odd; of a half that is not merged, the empty cell
unfoldable pub merged_of : Bool → Bool → ℕ → ℕ → ℕ
merged_of even odd a b = merged_word (cond even a empty_word) (cond odd b empty_word)

-- 01, Seven calls: even half, odd half, each 1,600 grid cells, then 72 far bins
unfoldable pub merged_at : List ℕ → Bool → Bool → ℕ → ℕ
merged_at cells even odd i = merged_of even odd (get_or cells i 0) (get_or cells (1672 + i) 0)

unfoldable pub grid_of : List ℕ → Bool → Bool → List ℕ
grid_of cells even odd = table (merged_at cells even odd) 1600

-- Occupied means a count above 0. Whether a cell of a grid is; and that none is
unfoldable pub heard_in : List ℕ → Bool
heard_in grid = some (λ (i : ℕ). occupied_word (get_or grid i 0)) 1600

abbrev pub Unheard : List ℕ → Type 0
Unheard grid = (i : ℕ) → i < 1600 → occupied_word (get_or grid i 0) ≡ false

-- whether word i is, of some words; and of those from `start` on
abbrev pub heard_word : List ℕ → ℕ → Bool
heard_word words i = occupied_word (get_or words i 0)

abbrev pub heard_at : List ℕ → ℕ → ℕ → Bool
heard_at words start i = occupied_word (get_or words (start + i) 0)

unfoldable pub bins_of : List ℕ → Bool → Bool → List ℕ
bins_of cells even odd = table (λ (j : ℕ). merged_at cells even odd (1600 + j)) 72

-- the merged far bins travel as one record of 72 cells with their position total
unfoldable pub positions_of : List ℕ → ℕ
positions_of bins = sum_of (λ (j : ℕ). true) (λ (j : ℕ). count_of (get_or bins j 0)) 72

unfoldable pub far_of : List ℕ → Bool → Bool → Far
far_of cells even odd = record { cells = bins_of cells even odd; positions = positions_of (bins_of cells even odd) }

-- what the code counts: how many of the first n words are occupied
unfoldable pub occupied_among : List ℕ → ℕ → ℕ
occupied_among words n = how_many (λ (i : ℕ). occupied_word (get_or words i 0)) n

-- the positions of the first n words
unfoldable pub positions_among : List ℕ → ℕ → ℕ
positions_among words n = sum_of (λ (i : ℕ). true) (λ (i : ℕ). count_of (get_or words i 0)) n
