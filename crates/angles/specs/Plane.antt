-- 01, 'Ticks, plane and sphere', the third paragraph: east and north of the site in mm, and the cell.
use Rattle.std.specs.Prelude.{ℕ, ◌+◌, ◌*◌, ◌/◌, ◌%◌, ◌^◌, Bool, ltb, ℤ, pos, nat_abs, ◌+ℤ◌, ◌*ℤ◌}
use Rattle.std.specs.Int.Signed.{quot_z}
use Rattle.trig.specs.Ticks.{scaled, π, nearest}
use Rattle.trig.specs.Angle.{cosine}

-- 'M = 6,371,008,800 × π/180 × 16'
abbrev pub M : ℕ
M = nearest (6371008800 * π * 16) (180 * 10 ^ 20)

-- '.. × M div 2^28', ticks to mm
unfoldable pub mm : ℤ → ℤ
mm d = quot_z (d *ℤ pos M) (pos (2 ^ 28))

-- 'East = (dlon × cos lat div 2^30) × M div 2^28'; 'lat is the site's'
unfoldable pub east : ℤ → ℤ → ℤ
east lat1 dlon = mm (scaled dlon (cosine lat1))

-- 'north = dlat × M div 2^28'
unfoldable pub north : ℤ → ℤ
north dlat = mm dlat

-- 'below 100,000,000 in size'
unfoldable pub near : ℤ → Bool
near z = ltb (nat_abs z) 100000000

-- 'column = (east + 100,000,000) div 5,000,000, row likewise from north'
unfoldable pub column : ℤ → ℕ
column e = nat_abs (quot_z (e +ℤ pos 100000000) (pos 5000000))

-- a number of the code that holds columns and units of 64 mm, of which a column has 78,125: what both make together, in units
abbrev pub together : ℕ → ℕ
together v = v % 64 * 78125 + v / 64
