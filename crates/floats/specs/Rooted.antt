-- The allowance from a float r in the place of the antenna's root, which is taken once for all bins. Any r: at r = √a these are 01's own (proofs/Rooted.antt).
use Rattle.std.specs.Prelude.{cond, Float, Some, None, Option}
use Rattle.std.specs.Float.{binary64}
use Rattle.std.specs.Float.Ieee.{add, sub, mul, lt}
use Rattle.root.specs.Root.{root}
use Rattle.floats.specs.Horizon.{at_least_zero, four_twelve, eleven_tenths, twenty}

-- 1.1 × (4.12 × (r + √b)) + 20
unfoldable pub allowance_from : Float → Float → Float
allowance_from r b = add binary64 (mul binary64 eleven_tenths (mul binary64 four_twelve (add binary64 r (root (at_least_zero b))))) twenty

-- past when the edge is above that, by the difference
unfoldable pub past_from : Float → Float → Float → Option Float
past_from edge r b = cond (lt (allowance_from r b) edge) (Some (sub binary64 edge (allowance_from r b))) None
