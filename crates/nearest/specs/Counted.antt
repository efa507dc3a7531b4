-- What the code computes: sums over the words, by the steps of their distances, and the two nearest places, with no list of places and none sorted. proofs/Two, and
-- Counted and Kept of crate `nothing_near`, have each equal to its definition in `Nothing`. Definitions only.
use Rattle.std.specs.Prelude.{ℕ, ◌+◌, ◌%◌, true, cond, List, ltb, get_or, set, replicate}
use Rattle.cells.specs.Cells.{count_of, occupied_word}
use Rattle.cells.specs.Passes.{pass, sum_of}
use Rattle.plane.specs.Plane.{from_site, steps}
use Rattle.near_field.specs.Sorted.{ascending}
use Rattle.nearest.specs.declared.Spot.{Spot}
use Rattle.nearest.specs.declared.Nearest.{Nearest}
use Rattle.nearest.specs.Nothing.{Place, nearest_of, typical_of, positions_of, km, edges, halfway}

-- a typical distance in steps of 5 km
unfoldable pub cell_step : ℕ → ℕ
cell_step i = steps (from_site i) 1

unfoldable pub bin_step : ℕ → ℕ
bin_step j = steps (km (get_or (halfway edges) (j % 9) 0)) 1

-- the positions of word i added at its step
unfoldable pub gather : (ℕ → ℕ) → List ℕ → ℕ → List ℕ → List ℕ
gather step words i at = set at (step i) (get_or at (step i) 0 + count_of (get_or words i 0))

-- none yet at 0 to 160 steps
unfoldable pub no_steps : List ℕ
no_steps = replicate 161 0

-- the positions of all cells by their steps, then those of all bins with them
unfoldable pub cell_steps : List ℕ → List ℕ
cell_steps grid = pass (gather cell_step grid) no_steps 1600

unfoldable pub all_steps : List ℕ → List ℕ → List ℕ
all_steps grid bins = pass (gather bin_step bins) (cell_steps grid) 72

-- the positions at fewer than k steps
unfoldable pub below : List ℕ → ℕ → ℕ
below at k = sum_of (λ (j : ℕ). true) (λ (j : ℕ). get_or at j 0) k

-- ---- the two nearest
-- a place as the code keeps it, and none: farther than any, with no positions
unfoldable pub step_of : Place → ℕ
step_of p = steps (typical_of p) 1

unfoldable pub spot_of : Place → Spot
spot_of p = record { nearest = nearest_of p; step = step_of p; positions = positions_of p }

unfoldable pub no_place : Place
no_place = record { nearest = 1048576; typical = 0; positions = 0 }

unfoldable pub cell_spot : ℕ → ℕ → Spot
cell_spot w i = record { nearest = from_site i; step = cell_step i; positions = count_of w }

unfoldable pub bin_spot : ℕ → ℕ → Spot
bin_spot w j = record { nearest = km (get_or edges (j % 9) 0); step = bin_step j; positions = count_of w }

-- the first two of a list, and of some places in order of their nearest distances
unfoldable pub first_two : List Place → Nearest
first_two l = record { first = spot_of (get_or l 0 no_place); second = spot_of (get_or l 1 no_place) }

unfoldable pub two_nearest : List Place → Nearest
two_nearest l = first_two (ascending nearest_of l)

-- one more place, nearer than the second: before the first or behind it
unfoldable pub put : Nearest → Spot → Nearest
put near s = cond (ltb s.nearest near.first.nearest) (record { first = s; second = near.first }) (record { first = near.first; second = s })

-- one more place, behind its equals
unfoldable pub nearer : Nearest → Spot → Nearest
nearer near s = cond (ltb s.nearest near.second.nearest) (put near s) near

-- the occupied ones of the first n words, one by one
unfoldable pub nearest_among : (ℕ → ℕ → Spot) → List ℕ → Nearest → ℕ → Nearest
nearest_among spot words near n = pass (λ (i : ℕ) (near : Nearest). cond (occupied_word (get_or words i 0)) (nearer near (spot (get_or words i 0) i)) near) near n
