-- Sine and cosine of a number that is held as its sign and its size.
-- Assumes nothing.
use mathlib.Core.Path.{◌≡◌, refl, ap, ◌∙◌}
use mathlib.Core.Bool.{Bool, true, false}
use Prim.Native.Nat.{ℕ, zero, suc, ◌-◌, ◌/◌, ◌≤◌, ◌<◌}
use native.Mathlib.Omega.{arith}
use borrow.Author.Tests.{le-leb, lt-leb}
use lib.IntN.{pos, neg_ℤ, nat_abs}
use Rattle.trig.specs.Ticks.{deg}
use Rattle.trig.specs.Series.{term, sin_h}
use Rattle.trig.specs.Angle.{sin_q, cos_q, sin_half, cos_half, sine, cosine}
use Rattle.trig.specs.Value.{signed}
use Rattle.trig.proofs.Signs.{abs_signed, signed_plus}

-- the sign stays; the sine of −0 is that of 0, which the series gives as 0
sin_sign : (b : Bool) (n : ℕ) → sine (signed b n) ≡ signed b (sin_half n)
unfolding sine signed sin_half sin_q sin_h term
sin_sign false n = refl
sin_sign true zero = refl
sin_sign true (suc n) = refl

pub sin_low : (b : Bool) (n : ℕ) → n ≤ deg 90 → sine (signed b n) ≡ signed b (sin_q n)
unfolding sin_half
sin_low b n h = sin_sign b n ∙ rw (le-leb n (deg 90) h)

pub sin_high : (b : Bool) (n : ℕ) → deg 90 < n → sine (signed b n) ≡ signed b (sin_q (deg 180 - n))
unfolding sin_half
sin_high b n h = sin_sign b n ∙ rw (lt-leb n (deg 90) h)

pub cos_low : (b : Bool) (n : ℕ) → n ≤ deg 90 → cosine (signed b n) ≡ pos (cos_q n)
unfolding cosine cos_half
cos_low b n h = ap cos_half (abs_signed b n) ∙ rw (le-leb n (deg 90) h)

pub cos_high : (b : Bool) (n : ℕ) → deg 90 < n → cosine (signed b n) ≡ neg_ℤ (pos (cos_q (deg 180 - n)))
unfolding cosine cos_half
cos_high b n h = ap cos_half (abs_signed b n) ∙ rw (lt-leb n (deg 90) h)

-- of half the size
pub sin_halved : (b : Bool) (n : ℕ) → n ≤ deg 180 → sine (pos (nat_abs (signed b n) / 2)) ≡ pos (sin_q (n / 2))
sin_halved b n h = rw (abs_signed b n, ← signed_plus (n / 2)) (sin_low false (n / 2) (omega arith) ∙ signed_plus _)
