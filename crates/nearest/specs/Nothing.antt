-- Nothing near (01, "A judging", 3; 02, Item 2), over the list of places heard. Definitions only.
-- Distances are squares of half cells of 2.5 km (01: Grid distances and the mean compare by whole squares).
use Rattle.std.specs.Prelude.{ℕ, ◌+◌, ◌-◌, ◌*◌, ◌/◌, ◌%◌, min, ◌&&◌, cond, List, [], ◌∷◌, ◌++◌, leb, length, get_or, drop, Some, None, Option}
use Rattle.angles.specs.Sphere as bands
use Rattle.cells.specs.Cells.{count_of, occupied_word}
use Rattle.cells.specs.Passes.{pass}
use Rattle.view.specs.declared.Far.{Far}
use Rattle.plane.specs.Plane.{square, from_site, said}
use Rattle.near_field.specs.Sorted.{ascending}
use Rattle.nearest.specs.Weights.{first_reaching, total}

-- a place heard: how far it is at the nearest, how far typically, and its positions
pub record Place : Type 0 where
  pub nearest : ℕ
  pub typical : ℕ
  pub positions : ℕ

abbrev pub nearest_of : Place → ℕ
nearest_of p = p.nearest

abbrev pub typical_of : Place → ℕ
typical_of p = p.typical

abbrev pub positions_of : Place → ℕ
positions_of p = p.positions

-- kilometres, as the square of so many half cells
unfoldable pub km : ℕ → ℕ
km n = square (2 * n / 5)

-- the edges of 01's bands, kilometres
unfoldable pub edges : List ℕ
edges = bands.edges

-- 01: a bin's typical is halfway to the next edge, the last 800
unfoldable pub halfway : List ℕ → List ℕ
halfway [] = []
halfway (edge ∷ []) = 800 ∷ []
halfway (edge ∷ next ∷ rest) = (edge + next) / 2 ∷ halfway (next ∷ rest)

-- a cell is as far as its centre
unfoldable pub cell_place : List ℕ → ℕ → Place
cell_place grid i = record { nearest = from_site i; typical = from_site i; positions = count_of (get_or grid i 0) }

-- 01: a bin counting by its edge. Bin j is 9 × sector + band.
unfoldable pub bin_place : List ℕ → ℕ → Place
bin_place bins j =
    record { nearest = km (get_or edges (j % 9) 0); typical = km (get_or (halfway edges) (j % 9) 0); positions = count_of (get_or bins j 0) }

-- 01: Occupied means a count above 0. The places of those of the first n words that are occupied, in their order
unfoldable pub heard : (ℕ → Place) → List ℕ → ℕ → List Place
heard place words n = pass (λ (i : ℕ) (l : List Place). cond (occupied_word (get_or words i 0)) (l ++ (place i ∷ [])) l) [] n

-- the cells in cell order, then the bins by number
unfoldable pub places_heard : List ℕ → Far → List Place
places_heard grid far = heard (cell_place grid) grid 1600 ++ heard (bin_place far.cells) far.cells 72

-- 01, 4: .. places
unfoldable pub places : List ℕ → Far → ℕ
places grid far = length (places_heard grid far)

-- 01: the third .. (the last of fewer): number 2 of a list, from 0, or its last
unfoldable pub third_or_last : List Place → ℕ
third_or_last l = min 2 (length l - 1)

-- 01: the third nearest place
unfoldable pub third : List Place → Place
third l = get_or (ascending nearest_of l) (third_or_last l) (record { nearest = 0; typical = 0; positions = 0 })

-- all positions
unfoldable pub positions_in : List Place → ℕ
positions_in l = total positions_of l

-- 01: the distance is the first typical, ascending, at which twice the positions passed reach the total
unfoldable pub typical_in : List Place → ℕ
typical_in l = first_reaching typical_of positions_of (positions_in l) 0 (ascending typical_of l)

-- Item 2: the places from the third nearest on, or the farthest alone of fewer. Equal nearest distances keep cell order, bins by number after cells:
-- the order of `places_heard`, which `ascending` keeps
unfoldable pub from_third : List Place → List Place
from_third l = drop (third_or_last l) (ascending nearest_of l)

-- 01: Nothing near: 60 or more positions, and the third nearest place at least 60 km.
-- Item 2: median and total are taken over the places from the third nearest on; the test for 60 positions still counts them all
unfoldable pub nothing_near_in : List Place → Option ℕ
nothing_near_in l = cond (leb 60 (positions_in l) && leb (km 60) (third l).nearest) (Some (said (typical_in (from_third l)) 1)) None

unfoldable pub nothing_near : List ℕ → Far → Option ℕ
nothing_near grid far = nothing_near_in (places_heard grid far)
