-- From equal arguments equal answers: laws that name the facts which a search would look for.
use mathlib.Core.Path.{◌≡◌, refl, ap, ◌∙◌}
use mathlib.Core.Bool.{Bool, true, false, cond}
use Prim.Native.Nat.{ℕ, ◌≤◌}
use native.Mathlib.Omega.{arith}
use mir.Val.{bool_byte}
use Rattle.plane.specs.Plane.{dist}

-- the same four numbers, the same distance
pub same_dist : {cx cx' cy cy' x x' y y' : ℕ} → cx ≡ cx' → cy ≡ cy' → x ≡ x' → y ≡ y' → dist cx cy x y ≡ dist cx' cy' x' y'
same_dist p q r s = cc

-- what a test that is counted adds: 1 or 0
byte_of : (b : Bool) → bool_byte b ≡ cond b 1 0
byte_of true = refl
byte_of false = refl

pub one_at_most : (b : Bool) → bool_byte b ≤ 1
one_at_most true = omega arith
one_at_most false = omega arith

pub counted : {b b' : Bool} → b ≡ b' → bool_byte b ≡ cond b' 1 0
counted {b} e = byte_of b ∙ ap (λ (t : Bool). cond t 1 0) e
