-- What the code computes: counts over the words, and what it keeps of the places heard, with no list of places and none sorted. proofs/Counted and Kept
-- have each equal to its definition in `nearest/Nothing`. Definitions only.
use Rattle.std.specs.Prelude.{ℕ, suc, ◌-◌, ◌*◌, ◌<◌, ◌≡◌, Bool, List, leb}
use Rattle.near_field.specs.Near.{cells_within}
use Rattle.view.specs.declared.Far.{Far}
use Rattle.nearest.specs.declared.Nearest.{Nearest}
use Rattle.nearest.specs.Nothing.{km, places_heard, positions_in}
use Rattle.nearest.specs.Counted.{all_steps, below, two_nearest}

-- how many occupied cells are under 60 km away (no bin is)
unfoldable pub near_cells : List ℕ → ℕ
near_cells grid = cells_within grid (km 60 - 1)

-- the least number of steps at which twice the positions so far reach a total
unfoldable pub reached_at : List ℕ → ℕ → ℕ → Bool
reached_at at total k = leb total (2 * below at (suc k))

-- what the code keeps of the places heard: all positions by their steps, their sum, and the two nearest
abbrev pub Kept : List ℕ → ℕ → Nearest → List ℕ → Far → Type 0
Kept at sum near grid far =
    (at ≡ all_steps grid far.cells) × (sum ≡ positions_in (places_heard grid far)) × (near ≡ two_nearest (places_heard grid far)) × (0 < sum)
