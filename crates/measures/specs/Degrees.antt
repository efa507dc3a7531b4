-- 01, Seven calls, seven questions (question 4), and Ticks, plane and sphere. A finite float `fin s m e` is m * up e / down e, negative where s is true. Definitions only.
use Rattle.std.specs.Prelude.{ℕ, ◌+◌, ◌*◌, ◌/◌, ◌^◌, Bool, false, cond, ◌&&◌, ℤ, pos, neg_ℤ, nat_le, Float}
use Rattle.std.specs.Float.{nan, inf, fin}
use Rattle.std.specs.Float.Ieee.{up, down}

-- x is finite and from -d to d
unfoldable pub within : ℕ → Float → Bool
within d nan = false
within d (inf s) = false
within d (fin s m e) = nat_le (m * up e) (d * down e)

-- "Are both degrees finite, lat −90 to 90, lon −180 to 180?"
abbrev pub in_degrees : Float → Float → Bool
in_degrees lat lon = within 90 lat && within 180 lon

-- a / c to the nearest whole number, a half up
abbrev pub nearest_up : ℕ → ℕ → ℕ
nearest_up a c = (2 * a + c) / (2 * c)

-- "A tick is 2^-24 degree; degrees become the nearest tick, ties away from zero": the size is so rounded, and the sign is kept.
unfoldable pub tick_of : Float → ℤ
tick_of nan = pos 0
tick_of (inf s) = pos 0
tick_of (fin s m e) = let n = nearest_up (m * up e * 2 ^ 24) (down e) in cond s (neg_ℤ (pos n)) (pos n)
