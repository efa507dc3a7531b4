-- 01, 'Ticks, plane and sphere': where a position lies seen from a site, and whether two sites are one place. All of ticks.
use Rattle.std.specs.Prelude.{ℕ, ◌+◌, ◌*◌, Bool, ◌&&◌, cond, ℤ, ◌-ℤ◌}
use Rattle.trig.specs.Ticks.{wrap}
use Rattle.angles.specs.Plane.{east, north, near, column}
use Rattle.angles.specs.Sphere.{haversine, at_most_one, band}
use Rattle.angles.specs.Bearing.{eastward, northward, sector}

-- 'a far bin, 9 × sector + band'
unfoldable pub far_bin : ℤ → ℤ → ℤ → ℤ → ℕ
far_bin lat1 lat2 dlat dlon = 9 * sector (eastward lat2 dlon) (northward lat1 lat2 dlon) + band (haversine lat1 lat2 dlat dlon)

-- 'Both below 100,000,000 in size: .. cell 40 × row + column. Otherwise a far bin', here as 1,600 + bin
unfoldable pub placed : ℤ → ℤ → ℤ → ℤ → ℕ
placed lat1 lat2 dlat dlon =
    cond (near (east lat1 dlon) && near (north dlat))
    (40 * column (north dlat) + column (east lat1 dlon))
    (1600 + far_bin lat1 lat2 dlat dlon)

-- 'The site is lat1, the position lat2; dlat and dlon are position less site.'
unfoldable pub place : ℤ → ℤ → ℤ → ℤ → ℕ
place lat1 lon1 lat2 lon2 = placed lat1 lat2 (lat2 -ℤ lat1) (wrap (lon2 -ℤ lon1))

-- 01, Claims: 'Same place (distance at most 1 km ..)'
unfoldable pub same_place : ℤ → ℤ → ℤ → ℤ → Bool
same_place lat1 lon1 lat2 lon2 = at_most_one (haversine lat1 lat2 (lat2 -ℤ lat1) (wrap (lon2 -ℤ lon1)))
