-- What lies around a place, and outside (01, "A judging", 3 and 5). Definitions only.
use Rattle.std.specs.Prelude.{ℕ, ◌/◌, Bool, false, ◌&&◌, ◌||◌, cond, List, leb, eqb, get_or}
use Rattle.std.specs.Int.Bits.{bit_or}
use Rattle.cells.specs.Cells.{bits_of, occupied_word}
use Rattle.cells.specs.Passes.{pass, how_many, some, table}
use Rattle.around.specs.declared.Nearby.{Nearby}
use Rattle.plane.specs.Plane.{east_of, north_of, dist, within25, over3, sector_from}

-- cell i of a grid, or bin i of 72, is occupied
abbrev pub occ : List ℕ → ℕ → Bool
occ g i = occupied_word (get_or g i 0)

-- 01, 5: Around a place: cells within 25 km,
unfoldable pub near : List ℕ → ℕ → ℕ → ℕ → Bool
near g x y i = occ g i && within25 (dist (east_of i) (north_of i) x y)

-- sectors from those over 3 km.
unfoldable pub in_sector : ℕ → ℕ → ℕ → ℕ → Bool
in_sector x y k i = over3 (dist (east_of i) (north_of i) x y) && eqb (sector_from (east_of i) (north_of i) x y) k

-- the eight sector marks, of the first n cells
unfoldable pub marks_of : List ℕ → ℕ → ℕ → ℕ → List Bool
marks_of g x y n = table (λ (k : ℕ). some (λ (i : ℕ). near g x y i && in_sector x y k i) n) 8

-- all bits of those of the first n cells that have p
abbrev pub bits_in : (ℕ → Bool) → List ℕ → ℕ → ℕ
bits_in p g n = pass (λ (i bits : ℕ). cond (p i) (bit_or bits (bits_of (get_or g i 0))) bits) 0 n

unfoldable pub around_of : List ℕ → ℕ → ℕ → Nearby
around_of g x y = record { marks = marks_of g x y 1600; aircraft = bits_in (near g x y) g 1600; cells = how_many (near g x y) 1600 }

-- how many sectors are marked
unfoldable pub sectors_in : List Bool → ℕ
sectors_in marks = how_many (λ (k : ℕ). get_or marks k false) 8

-- 01, 3: Outside: occupied cells (centre over 3 km) and bins lie in at most 4 sectors. (01: bin 9 × sector + band.)
unfoldable pub cell_in : List ℕ → ℕ → ℕ → Bool
cell_in g k i = occ g i && in_sector 40 40 k i

unfoldable pub bin_in : List ℕ → ℕ → ℕ → Bool
bin_in bins k j = occ bins j && eqb (j / 9) k

unfoldable pub outside_of : List ℕ → List ℕ → Bool
outside_of g bins = leb (sectors_in (table (λ (k : ℕ). some (cell_in g k) 1600 || some (bin_in bins k) 72) 8)) 4
