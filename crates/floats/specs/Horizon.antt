-- 01, A judging, 2: the horizon in f64, every operation rounded once. Definitions only.
use Rattle.std.specs.Prelude.{ℕ, ◌+◌, ◌*◌, false, cond, ℤ, pos, negsuc, Float, Some, None, Option}
use Rattle.std.specs.Float.{binary64}
use Rattle.std.specs.Float.Ieee.{round, of_int, add, sub, mul, lt}
use Rattle.root.specs.Root.{root, plus_zero}

-- "a NaN, negative or either zero taken as +0": none of these is above zero.
unfoldable pub at_least_zero : Float → Float
at_least_zero x = cond (lt plus_zero x) x plus_zero

-- 4.12: the float nearest to 412 / 100. The other decimals likewise.
unfoldable pub four_twelve : Float
unfolding round
four_twelve = round binary64 false 412 100

-- "`horizon_km` = 4.12 × (√a + √b)": kilometres, for heights in metres.
unfoldable pub horizon : Float → Float → Float
horizon a b = mul binary64 four_twelve (add binary64 (root (at_least_zero a)) (root (at_least_zero b)))

unfoldable pub hundred : Float
unfolding round
hundred = round binary64 false 100 1

-- "a = max(alt or 0, 0) + 100": here for an altitude that is known.
unfoldable pub antenna_of : ℤ → Float
antenna_of (pos n) = add binary64 (of_int binary64 (pos n)) hundred
antenna_of (negsuc n) = add binary64 (of_int binary64 (pos 0)) hundred

-- a foot in metres
unfoldable pub foot : Float
unfolding round
foot = round binary64 false 3048 10000

-- "b = ((low + 1) × 500) × 0.3048"
unfoldable pub ceiling_of : ℕ → Float
ceiling_of low = mul binary64 (of_int binary64 (pos ((low + 1) * 500))) foot

unfoldable pub eleven_tenths : Float
unfolding round
eleven_tenths = round binary64 false 11 10

unfoldable pub twenty : Float
unfolding round
twenty = round binary64 false 20 1

-- "1.1 × horizon + 20"
unfoldable pub allowance : Float → Float → Float
allowance a b = add binary64 (mul binary64 eleven_tenths (horizon a b)) twenty

-- "A far bin with count and altitude is past when its edge > 1.1 × horizon + 20; its excess is the difference."
unfoldable pub past_of : Float → Float → Float → Option Float
past_of edge a b = cond (lt (allowance a b) edge) (Some (sub binary64 edge (allowance a b))) None
