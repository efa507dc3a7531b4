-- What the code keeps of a grid, and is not 01's.
use Rattle.std.specs.Prelude.{ℕ, zero, suc, ◌+◌, ◌*◌, ◌/◌, ◌≤◌, ◌<◌, min, Bool, true, cond, List, ltb, get_or, set}
use Rattle.cells.specs.Passes.{how_many, table}
use Rattle.plane.specs.Plane.{square}
use Rattle.around.specs.Marks.{occ}

-- before each cell, how many are occupied: the cells of a part of a row are then counted by one difference
unfoldable pub counts_of : List ℕ → List ℕ
counts_of g = table (λ (i : ℕ). how_many (occ g) i) 1601

-- h half cells east and west is as far as those within 25 km lie in a row m half cells north or south
abbrev pub Reach : ℕ → ℕ → Type 0
Reach m h = (square h + square m ≤ 100) × (100 < square (h + 1) + square m) × (h ≤ 10)

-- how many columns, or rows, have their centre under z half cells
abbrev pub under : ℕ → ℕ
under z = min 40 (z / 2)

-- the first cell of a row whose centre is not
unfoldable pub cut_at : ℕ → ℕ → ℕ
cut_at row z = 40 * row + under z

-- the marks with that of sector s, if one of the cells from a up to below b is occupied; hs are the counts of a grid
unfoldable pub span_of : List ℕ → List Bool → ℕ → ℕ → ℕ → List Bool
span_of hs marks a b s = cond (ltb (get_or hs a 0) (get_or hs b 0)) (set marks s true) marks

-- the marks with those of the first n spans of a row, one behind the other: zs are their ends, ss their sectors
abbrev pub spans_of : List ℕ → List Bool → ℕ → List ℕ → List ℕ → ℕ → List Bool
spans_of hs marks row zs ss zero = marks
spans_of hs marks row zs ss (suc n) = span_of hs (spans_of hs marks row zs ss n) (cut_at row (get_or zs n 0)) (cut_at row (get_or zs (n + 1) 0)) (get_or ss n 0)
