-- Where a position is placed, from an east and a north that are held as sign and size.
-- Assumes nothing.
use mathlib.Core.Path.{◌≡◌, sym}
use mathlib.Core.Bool.{Bool}
use Prim.Native.Nat.{ℕ, ◌+◌, ◌*◌, ◌≤◌, ◌<◌}
use lib.IntN.{ℤ, pos}
use Rattle.trig.specs.Ticks.{scaled}
use Rattle.trig.specs.Angle.{cosine}
use Rattle.angles.specs.Plane.{mm, east, north, column}
use Rattle.angles.specs.Place.{placed, far_bin}
use Rattle.trig.specs.Value.{signed}
use Rattle.angles.proofs.Wraps.{near_yes, near_no}

module _ (lat1 lat2 dlat dlon : ℤ) (a b : Bool) (c1 e n : ℕ) (k : pos c1 ≡ cosine lat1) (p : signed a e ≡ mm (scaled dlon (pos c1))) (q : signed b n ≡ mm dlat) where
  east_is : east lat1 dlon ≡ signed a e
  unfolding east
  east_is = rw (← k) (sym p)

  north_is : north dlat ≡ signed b n
  unfolding north
  north_is = sym q

  pub near_cell : {row col : ℕ} → e < 100000000 → n < 100000000 → row ≡ column (signed b n) → col ≡ column (signed a e) → 40 * row + col ≡ placed lat1 lat2 dlat dlon
  unfolding placed
  near_cell he hn r s = rw (east_is, north_is, near_yes a e he, near_yes b n hn) (cc)

  pub far_north : {r : ℕ} → e < 100000000 → 100000000 ≤ n → r ≡ far_bin lat1 lat2 dlat dlon → 1600 + r ≡ placed lat1 lat2 dlat dlon
  unfolding placed
  far_north he hn r = rw (east_is, north_is, near_yes a e he, near_no b n hn) (cc)

  pub far_east : {r : ℕ} → 100000000 ≤ e → r ≡ far_bin lat1 lat2 dlat dlon → 1600 + r ≡ placed lat1 lat2 dlat dlon
  unfolding placed
  far_east he r = rw (east_is, near_no a e he) (cc)
