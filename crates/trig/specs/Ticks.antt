-- 01, 'Ticks, plane and sphere', the first paragraph: what all the others use. Every angle is a whole number of ticks.
use Rattle.std.specs.Prelude.{ℕ, ◌+◌, ◌*◌, ◌/◌, ◌^◌, cond, ℤ, pos, neg_ℤ, ◌+ℤ◌, ◌-ℤ◌, ◌*ℤ◌}
use Rattle.std.specs.Int.Signed.{lt_z, le_z, quot_z}

-- 'A tick is 2^-24 degree': n degrees in ticks.
abbrev pub deg : ℕ → ℕ
deg n = n * 2 ^ 24

-- 'dlon is brought to −180 up to below 180 degrees.'
unfoldable pub wrap : ℤ → ℤ
wrap dlon =
    cond (le_z (pos (deg 180)) dlon) (dlon -ℤ pos (deg 360))
    (cond (lt_z dlon (neg_ℤ (pos (deg 180)))) (dlon +ℤ pos (deg 360))
    dlon)

-- 'div rounds toward zero': so does `quot_z`. Here a × b div 2^30, the product of two numbers in the unit 2^-30.
unfoldable pub scaled : ℤ → ℤ → ℤ
scaled a b = quot_z (a *ℤ b) (pos (2 ^ 30))

-- 'π is the fraction 3.14159265358979323846': its numerator, over 10^20.
abbrev pub π : ℕ
π = 314159265358979323846

-- 'constants with it are the nearest whole number': the one nearest to n / d.
abbrev pub nearest : ℕ → ℕ → ℕ
nearest n d = (2 * n + d) / (2 * d)
