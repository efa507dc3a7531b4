-- 01, 'Ticks, plane and sphere', the fifth paragraph: the bearing's east and north, and the sector.
use Rattle.std.specs.Prelude.{ℕ, zero, suc, ◌+◌, cond, ltb, ℤ, pos, negsuc, ◌-ℤ◌}
use Rattle.trig.specs.Ticks.{scaled}
use Rattle.trig.specs.Angle.{sine, cosine}

-- 'Y = sin dlon × cos lat2 div 2^30'
unfoldable pub eastward : ℤ → ℤ → ℤ
eastward lat2 dlon = scaled (sine dlon) (cosine lat2)

-- 'X = (cos lat1 × sin lat2 div 2^30) − ((sin lat1 × cos lat2 div 2^30) × cos dlon div 2^30)'
unfoldable pub northward : ℤ → ℤ → ℤ → ℤ
northward lat1 lat2 dlon = scaled (cosine lat1) (sine lat2) -ℤ scaled (scaled (sine lat1) (cosine lat2)) (cosine dlon)

-- Between two of N, E, S, W: `ahead` is the size towards the first, whose sector is k, `side` that towards the second.
-- 'bearing 45k up to below 45(k+1)': the sizes are equal where k + 1 begins.
abbrev pub quarter : ℕ → ℕ → ℕ → ℕ
quarter k ahead side = cond (ltb side ahead) k (k + 1)

-- 'Sector k is bearing 45k up to below 45(k+1), read from signs and sizes of X (north) and Y (east):
-- due N, E, S, W are 0, 2, 4, 6; equal sizes are 1, 3, 5, 7; both zero is 0.' Of Y and X, once round the compass:
unfoldable pub sector : ℤ → ℤ → ℕ
sector (pos zero) (pos zero) = 0
sector (pos zero) (pos (suc x)) = 0
sector (pos (suc y)) (pos (suc x)) = quarter 0 (suc x) (suc y)
sector (pos (suc y)) (pos zero) = 2
sector (pos (suc y)) (negsuc x) = quarter 2 (suc y) (suc x)
sector (pos zero) (negsuc x) = 4
sector (negsuc y) (negsuc x) = quarter 4 (suc x) (suc y)
sector (negsuc y) (pos zero) = 6
sector (negsuc y) (pos (suc x)) = quarter 6 (suc y) (suc x)
