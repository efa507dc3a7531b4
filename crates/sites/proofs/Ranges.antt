-- The ticks of degrees that are in range, as a callee is passed them: read back from 64 bits, and no larger than the range.
-- Assumes nothing.
use mathlib.Core.Path.{◌≡◌, subst, sym, ◌∙◌}
use Prim.Native.Nat.{ℕ, ◌*◌, ◌^◌, ◌≤◌}
use native.Mathlib.Omega.{arith}
use lib.Dec.{T}
use lib.IntN.{ℤ, nat_abs}
use lib.Ieee.{Float}
use lib.Ieee.Fits.{and_l, and_r}
use mir.Syntax.{w64}
use mir.Val.{SFits, to_z, of_z}
use mir.ValLaws.{to_z-of_z}
use Rattle.measures.specs.Degrees.{within, in_degrees, tick_of}
use Rattle.measures.proofs.Ticks.{within_mono, tick_bound}

-- a latitude within 90 degrees, and a longitude within 180, are ones that `tick` takes
pub lat_in : (lat lon : Float) → T (in_degrees lat lon) → T (within 90 lat)
lat_in lat lon h = and_l (within 90 lat) (within 180 lon) h

pub lat_tickable : (lat lon : Float) → T (in_degrees lat lon) → T (within 180 lat)
lat_tickable lat lon h = within_mono 90 180 lat (omega arith) (lat_in lat lon h)

pub lon_in : (lat lon : Float) → T (in_degrees lat lon) → T (within 180 lon)
lon_in lat lon h = and_r (within 90 lat) (within 180 lon) h

-- z is the tick of x that `tick` gave
pub read_tick : (x : Float) (z : ℤ) → SFits w64 z → z ≡ tick_of x → to_z w64 (of_z w64 z) ≡ tick_of x
read_tick x z f e = to_z-of_z w64 z f ∙ e

pub tick_size : (d : ℕ) (x : Float) (z : ℤ) → T (within d x) → SFits w64 z → z ≡ tick_of x → nat_abs (to_z w64 (of_z w64 z)) ≤ d * 2 ^ 24
tick_size d x z h f e = subst (λ (y : ℤ). nat_abs y ≤ d * 2 ^ 24) (sym (read_tick x z f e)) (tick_bound d x h)
