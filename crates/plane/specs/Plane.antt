-- The grid's plane (01, "A judging"). Definitions only.
-- 01: A cell centre is e = 2 × column − 39, n = 2 × row − 39, in 2.5 km. Here both are counted from the grid's south-west corner, in the same half
-- cells: the centre of column c is 2c + 1 half cells east of it, and the site, in the grid's middle, is at (40, 40). 01's e is east_of − 40, its n north_of − 40.
-- Of the cell's width only the distance said depends (Item 14): the same half cells are 5 km where cells are 10 km wide.
use Rattle.std.specs.Prelude.{ℕ, ◌+◌, ◌-◌, ◌*◌, ◌/◌, ◌%◌, max, Bool, leb, ltb, pos, ◌-ℤ◌}
use Rattle.angles.specs.Bearing.{sector}
use Rattle.cells.specs.Passes.{first}

-- cell 40 × row + column
abbrev pub east_of : ℕ → ℕ
east_of i = 2 * (i % 40) + 1

abbrev pub north_of : ℕ → ℕ
north_of i = 2 * (i / 40) + 1

-- 01: Grid distances and the mean compare by whole squares.
abbrev pub apart : ℕ → ℕ → ℕ
apart a b = (a - b) + (b - a)

unfoldable pub square : ℕ → ℕ
square n = n * n

-- the square of the distance of (cx, cy) from (x, y)
abbrev pub dist : ℕ → ℕ → ℕ → ℕ → ℕ
dist cx cy x y = square (apart cx x) + square (apart cy y)

-- the square of a cell's distance from the site
abbrev pub from_site : ℕ → ℕ
from_site i = dist (east_of i) (north_of i) 40 40

-- within 25 km, that is 10 half cells
abbrev pub within25 : ℕ → Bool
within25 d = leb d (10 * 10)

-- over 3 km: 3 km are 12 tenths of a half cell
abbrev pub over3 : ℕ → Bool
over3 d = ltb (12 * 12) (100 * d)

-- the sector of (cx, cy) seen from (x, y)
abbrev pub sector_from : ℕ → ℕ → ℕ → ℕ → ℕ
sector_from cx cy x y = sector (pos cx -ℤ pos x) (pos cy -ℤ pos y)

-- 01: off is said in 5 km steps, halves up, at least one.
-- √num / den half cells are k steps where they are below 2k + 1 half cells
unfoldable pub steps : ℕ → ℕ → ℕ
steps num den = first (λ (k : ℕ). ltb num (square ((2 * k + 1) * den))) 160

unfoldable pub said : ℕ → ℕ → ℕ
said num den = 5 * max 1 (steps num den)
