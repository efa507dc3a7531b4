-- 01, A judging, 2: "square root correctly rounded (IEEE 754)", over `Rattle.std.specs.Float.Ieee`: the value of the format that is nearest to √x. Definitions only.
use Rattle.std.specs.Prelude.{ℕ, zero, suc, ◌+◌, ◌-◌, ◌*◌, ◌/◌, ◌^◌, ◌<◌, Bool, true, false, cond, not, T, pos, nat_le, Float}
use Rattle.std.specs.Float.{nan, inf, fin, binary64}
use Rattle.std.specs.Float.Ieee.{up, down, size, units, fits}

abbrev pub plus_zero : Float
plus_zero = fin false 0 (pos 0)

-- the largest r with r * r ≤ n: it grows by one where the next square is reached
unfoldable pub isqrt : ℕ → ℕ
isqrt zero = 0
isqrt (suc n) = cond (nat_le ((isqrt n + 1) * (isqrt n + 1)) (suc n)) (isqrt n + 1) (isqrt n)

-- The whole number nearest to √(n / 4 ^ k). Half of √(4n / 4 ^ k), rounded half up. A tie cannot be: √(4n / 4 ^ k) would be odd.
abbrev pub nearest_root : ℕ → ℕ → ℕ
nearest_root n k = (isqrt (4 * n / 4 ^ k) + 1) / 2

-- of a value's digits p, 53 or 54: the whole number nearest to √(p * 2 ^ 52), the 53 digits of the root; half of √(p * 2 ^ 54), rounded half up
abbrev pub nearest54 : ℕ → ℕ
nearest54 p = (isqrt (p * 2 ^ 54) + 1) / 2

-- The root of u smallest values, 2 ^ -1074 each. It is √n smallest values, for n = u * 2 ^ 1074.
-- √n has half as many digits as n, rounded up, before the point: 53 of them are kept, and k dropped.
unfoldable pub root_units : ℕ → Float
unfolding units
root_units u =
    let n = u * 2 ^ 1074 in
    let k = (size n + 1) / 2 - 53 in
    units binary64 false (nearest_root n k) k

-- IEEE 754's squareRoot. A zero is its own root, and a number below zero has none.
unfoldable pub root : Float → Float
root nan = nan
root (inf true) = nan
root (inf false) = inf false
root (fin s zero e) = fin s zero e
root (fin true (suc m) e) = nan
root (fin false (suc m) e) = root_units (suc m * up e * 2 ^ 1074 / down e)

-- ---- the same by what it is nearest to, which `proofs/Nearest.antt` proves of `root`

-- how many smallest values, 2 ^ -1074 each, a finite value is: a whole number, where the format holds it
abbrev pub units_of : Float → ℕ
units_of nan = 0
units_of (inf s) = 0
units_of (fin s m e) = m * up e * 2 ^ 1074 / down e

-- finite, with no minus sign
abbrev pub plain : Float → Bool
plain nan = false
plain (inf s) = false
plain (fin s m e) = not s

-- r is a value of the format, and nearer to √x than every other is. √x is √(units_of x * 2 ^ 1074) units.
-- It is nearer to r than to a y above r where it is below the middle, (r + y) / 2, and nearer than to a y below r where it is above the middle: here both sides are doubled and squared.
pub record NearestRoot (x r : Float) : Type 0 where
  pub held : T (fits binary64 r)
  pub finite : T (plain r)
  pub above : (y : Float) → T (fits binary64 y) → T (plain y) → units_of r < units_of y → 4 * (units_of x * 2 ^ 1074) < (units_of r + units_of y) * (units_of r + units_of y)
  pub below : (y : Float) → T (fits binary64 y) → T (plain y) → units_of y < units_of r → (units_of r + units_of y) * (units_of r + units_of y) < 4 * (units_of x * 2 ^ 1074)
