-- `antenna_m`: an altitude from 0 up is kept, and any other counts as 0.
use Rattle.std.proofs.Common.{◌≡◌, zero, suc, ℤ, pos, negsuc, refl, ap, ◌∙◌, w32, to_z-of_z, SFits, le-leb, arith}
use Rattle.std.specs.Int.{int_max}
use lib.Ieee.{binary64, add, of_int}
use Rattle.floats.specs.Horizon.{antenna_of, hundred}
use Rattle.floats.proofs.Literals.{hundred_is}
use Rattle.floats.proofs.horizon.antenna_m.Goals as goal

raised : (z : ℤ) → add binary64 (of_int binary64 (int_max z (pos 0))) hundred ≡ antenna_of z
unfolding antenna_of
raised (pos zero) = refl
raised (pos (suc n)) = rw (le-leb 1 (suc n) (omega arith)) refl
raised (negsuc n) = refl

pub returns : goal.returns
returns c =
    let z = c.args.alt in
    let fits : SFits w32 c.max.result = record { sfits = c.max.type_inv } in
    let same = to_z-of_z {w = w32} fits ∙ c.max.ensures.value ∙ ap (λ (x : ℤ). int_max x (pos 0)) (to_z-of_z {w = w32} c.ranges.alt) in
    rw (same, ← hundred_is) (raised z)
