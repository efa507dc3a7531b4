-- 01, 'Ticks, plane and sphere', the second paragraph: 'Other angles by reflection and sign.' Those of 01 lie from −180 to 180 degrees.
use Rattle.std.specs.Prelude.{ℕ, suc, ◌-◌, cond, leb, ℤ, pos, negsuc, neg_ℤ, nat_abs}
use Rattle.trig.specs.Ticks.{deg}
use Rattle.trig.specs.Series.{rad, sin_h, cos_r}

-- 0 to 90 degrees, by reflection at 45: at 45 itself each has its own series
unfoldable pub sin_q : ℕ → ℕ
sin_q t = cond (leb t (deg 45)) (sin_h (rad t)) (cos_r (rad (deg 90 - t)))

unfoldable pub cos_q : ℕ → ℕ
cos_q t = cond (leb t (deg 45)) (cos_r (rad t)) (sin_h (rad (deg 90 - t)))

-- 0 to 180 degrees, by reflection at 90: the cosine turns negative
unfoldable pub sin_half : ℕ → ℕ
sin_half t = cond (leb t (deg 90)) (sin_q t) (sin_q (deg 180 - t))

unfoldable pub cos_half : ℕ → ℤ
cos_half t = cond (leb t (deg 90)) (pos (cos_q t)) (neg_ℤ (pos (cos_q (deg 180 - t))))

-- −180 to 180 degrees, by sign
unfoldable pub sine : ℤ → ℤ
sine (pos t) = pos (sin_half t)
sine (negsuc t) = neg_ℤ (pos (sin_half (suc t)))

unfoldable pub cosine : ℤ → ℤ
cosine t = cos_half (nat_abs t)
