-- 01, A judging, its last sentence: off in steps of 5 km. Definitions only.
use Rattle.std.specs.Prelude.{ℕ, ◌*◌, ◌^◌, max, Bool, false, not, ◌&&◌, pos, nat_le, nat_lt, Float}
use Rattle.std.specs.Float.{nan, inf, fin, binary64}
use Rattle.std.specs.Float.Ieee.{up, down, div}
use Rattle.measures.specs.Degrees.{nearest_up}

-- the size of x, to the nearest whole number, a half up
unfoldable pub half_away : Float → ℕ
half_away nan = 0
half_away (inf s) = 0
half_away (fin s m e) = nearest_up (m * up e) (down e)

-- x is finite, has no minus sign, and is below 2 ^ 52: what `half_up` asks for
unfoldable pub countable : Float → Bool
countable nan = false
countable (inf s) = false
countable (fin s m e) = not s && nat_lt (m * up e) (2 ^ 52 * down e)

-- x is finite, has no minus sign, and is at most 800, the last typical of 01: what `off_km` asks for
unfoldable pub distance : Float → Bool
distance nan = false
distance (inf s) = false
distance (fin s m e) = not s && nat_le (m * up e) (800 * down e)

abbrev pub five : Float
five = fin false 5 (pos 0)

-- "off is said in 5 km steps, halves up, at least one; an excess is divided by 5 in f64 first."
unfoldable pub off_of : Float → ℕ
off_of x = 5 * max 1 (half_away (div binary64 x five))
