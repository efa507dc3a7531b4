-- Every distance that nothing near says is a step of 5 km, from 5 to 800. Assumes nothing.
use Rattle.std.specs.Prelude.{Some, None}
use mathlib.Core.Path.{◌≡◌, sym, ◌∙◌}
use mathlib.Core.Bool.{Bool, true, false, ◌&&◌, cond}
use mathlib.Core.List.{List}
use Prim.Native.Nat.{ℕ, ◌*◌, ◌≤◌}
use native.Mathlib.Omega.{arith}
use lib.Dec.{leb}
use Rattle.view.specs.declared.Far.{Far}
use Rattle.plane.specs.Plane.{said}
use Rattle.plane.proofs.Squares.{said_step}
use Rattle.nearest.specs.Nothing.{km, places_heard, third, from_third, positions_in, typical_in, nothing_near_in, nothing_near}

said_of : (t : Bool) (n d : ℕ) → cond t (Some (said n 1)) None ≡ Some d → said n 1 ≡ d
said_of true n d e = cc
said_of false n d e = let z : ◌≡◌ {A = ℕ} 0 1 = cc in absurd (omega arith)

pub off_step : (grid : List ℕ) (far : Far) (d : ℕ) → nothing_near grid far ≡ Some d → (k : ℕ) × (d ≡ 5 * k) × (1 ≤ k) × (k ≤ 160)
unfolding nothing_near nothing_near_in
off_step grid far d e =
    let l = places_heard grid far in
    let s = said_step (typical_in (from_third l)) 1 in
    (s.0, sym (said_of (leb 60 (positions_in l) && leb (km 60) (third l).nearest) (typical_in (from_third l)) d e) ∙ s.1, s.2, s.3)
