-- The near field (01, "A judging", 5). Definitions only.
use Rattle.std.specs.Prelude.{ℕ, ◌+◌, ◌*◌, Bool, not, ◌&&◌, ◌||◌, cond, List, leb, ltb, eqb, length}
use Rattle.std.specs.Int.Count.{ones}
use Rattle.cells.specs.Passes.{pass, sum_of, how_many}
use Rattle.near_field.specs.Sorted.{sorted, nth, those}
use Rattle.plane.specs.Plane.{east_of, north_of, apart, square, dist, from_site, within25, said}
use Rattle.around.specs.Marks.{occ, around_of, sectors_in}
use Rattle.near_field.specs.declared.Judgment.{Judgment}
use Rattle.near_field.specs.declared.Judgment.TheVariants.{Unjudged, Fits, Wrong}
use Rattle.near_field.specs.declared.Evidence.TheVariants.{NearField}

-- how many occupied cells are at most √d half cells from the site
abbrev pub cells_within : List ℕ → ℕ → ℕ
cells_within g d = how_many (λ (i : ℕ). occ g i && leb (from_site i) d) 1600

-- the squares of the occupied cells' distances from the site
unfoldable pub cell_distances : List ℕ → List ℕ
cell_distances g = those (occ g) from_site 1600

-- Third nearest cell under 15 km (6 half cells) or missing
unfoldable pub no_hole : List ℕ → Bool
no_hole g = ltb (length (cell_distances g)) 3 || ltb (nth 2 (sorted (cell_distances g))) (square 6)

-- Found: cells with at least 7 sectors and 8 aircraft bits
unfoldable pub found : List ℕ → ℕ → Bool
found g i = occ g i && (leb 7 (sectors_in (around_of g (east_of i) (north_of i)).marks) && leb 8 (ones (around_of g (east_of i) (north_of i)).aircraft))

-- Best: most cells around, first in cell order; 1,600 where none is found
unfoldable pub cells_around : List ℕ → ℕ → ℕ
cells_around g i = (around_of g (east_of i) (north_of i)).cells

unfoldable pub better : List ℕ → ℕ → ℕ → ℕ
better g i b = cond (found g i && (eqb b 1600 || ltb (cells_around g b) (cells_around g i))) i b

abbrev pub best_of : List ℕ → ℕ → ℕ
best_of g n = pass (better g) 1600 n

-- the found within 25 km of best
unfoldable pub member : List ℕ → ℕ → ℕ → Bool
member g best i = found g i && within25 (dist (east_of i) (north_of i) (east_of best) (north_of best))

abbrev pub members : List ℕ → ℕ → ℕ
members g best = how_many (member g best) 1600

-- Mean of the found within 25 km of best: its distance from the site is √mean_square / members half cells
unfoldable pub mean_square : List ℕ → ℕ → ℕ
mean_square g best =
    square (apart (sum_of (member g best) east_of 1600) (40 * members g best))
    + square (apart (sum_of (member g best) north_of 1600) (40 * members g best))

-- under 25 km: Unjudged, else Wrong. A half cell squared is scale × (2.5 km)²: scale is 1 for cells of 5 km and 4 for cells of 10 km (Item 14).
unfoldable pub found_of : ℕ → List ℕ → ℕ → Judgment
found_of scale g best =
    cond (ltb (mean_square g best) (square (10 * members g best))) Unjudged (Wrong (said (scale * mean_square g best) (members g best)) NearField)

-- none: Unjudged
unfoldable pub best_or_none : ℕ → List ℕ → ℕ → Judgment
best_or_none scale g best = cond (eqb best 1600) Unjudged (found_of scale g best)

-- At the site 5 or more sectors: Fits. 4, or not outside: Unjudged.
unfoldable pub near_field_by : ℕ → List ℕ → Bool → Judgment
near_field_by scale g outside =
    let s = sectors_in (around_of g 40 40).marks in
    cond (leb 5 s) Fits (cond (eqb s 4 || not outside) Unjudged (cond (no_hole g) Unjudged (best_or_none scale g (best_of g 1600))))

-- cells of 5 km
abbrev pub near_field : List ℕ → Bool → Judgment
near_field g outside = near_field_by 1 g outside
