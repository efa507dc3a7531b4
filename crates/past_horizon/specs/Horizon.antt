-- The horizon part of a judging (01, "A judging", 2). Definitions only; the float steps are those of floats.
use Rattle.std.specs.Prelude.{ℕ, ◌*◌, ◌/◌, ◌%◌, Bool, true, false, ◌&&◌, cond, List, [], ◌∷◌, leb, pos, Float, length, get_or, Some, None, Option}
use Rattle.std.specs.Int.Bits.{bit_or}
use Rattle.std.specs.Int.Count.{ones}
use Rattle.std.specs.Float.{nan, binary64}
use Rattle.std.specs.Float.Ieee.{of_int}
use Rattle.angles.specs.Sphere.{edges}
use Rattle.floats.specs.Horizon.{past_of}
use Rattle.rank.specs.Rank.{sorted}
use Rattle.cells.specs.Cells.{count_of, low_of, bits_of, occupied_word, ceiling}
use Rattle.cells.specs.Passes.{pass, sum_of}
use Rattle.sites.specs.Sites.{antenna}
use Rattle.sites.specs.declared.Site.{Site}
use Rattle.view.specs.declared.Far.{Far}

-- the edge of a bin's band, kilometres; a far bin is 9 × sector + band
unfoldable pub edge_of : ℕ → Float
edge_of bin = of_int binary64 (pos (get_or edges (bin % 9) 0))

-- A far bin with count and altitude is past when its edge > 1.1 × horizon + 20; its excess is the difference.
unfoldable pub under_ceiling : Option Float → ℕ → Float → Option Float
under_ceiling (Some b) bin a = past_of (edge_of bin) a b
under_ceiling None bin a = None

unfoldable pub bin_past : ℕ → ℕ → Float → Option Float
bin_past w bin a = cond (occupied_word w) (under_ceiling (ceiling (low_of w)) bin a) None

abbrev pub is_past : Option Float → Bool
is_past (Some km) = true
is_past None = false

abbrev pub with_excess : Option Float → List Float → List Float
with_excess (Some km) l = km ∷ l
with_excess None l = l

-- of the first n bins, those that are past: their excesses, the latest bin's first
unfoldable pub excesses : List ℕ → Float → ℕ → List Float
excesses bins a n = pass (λ (j : ℕ). with_excess (bin_past (get_or bins j 0) j a)) [] n

-- their positions
unfoldable pub past_positions : List ℕ → Float → ℕ → ℕ
past_positions bins a n = sum_of (λ (j : ℕ). is_past (bin_past (get_or bins j 0) j a)) (λ (j : ℕ). count_of (get_or bins j 0)) n

-- and their aircraft bits
unfoldable pub past_aircraft : List ℕ → Float → ℕ → ℕ
past_aircraft bins a n =
    pass (λ (j m : ℕ). cond (is_past (bin_past (get_or bins j 0) j a)) (bit_or m (bits_of (get_or bins j 0))) m) 0 n

-- At least three past bins, at least three aircraft bits among them, past positions × 20 ≥ all far positions
unfoldable pub enough_past : Far → Float → Bool
enough_past far a =
    leb 3 (length (excesses far.cells a 72)) && (leb 3 (ones (past_aircraft far.cells a 72)) && leb far.positions (past_positions far.cells a 72 * 20))

-- excess number (len div 2), from 0, ascending
unfoldable pub middle : List Float → Float
middle l = get_or (sorted l) (length l / 2) nan

unfoldable pub horizon_past : Far → Float → Option Float
horizon_past far a = cond (enough_past far a) (Some (middle (excesses far.cells a 72))) None

-- a = max(alt or 0, 0) + 100
unfoldable pub past_horizon : Site → Far → Option Float
past_horizon site far = horizon_past far (antenna site)
