-- 01, 'Ticks, plane and sphere', the second paragraph: sine and cosine of t ticks, 0 to 45 degrees, in the unit 2^-30.
use Rattle.std.specs.Prelude.{ℕ, zero, suc, ◌+◌, ◌-◌, ◌*◌, ◌/◌, ◌^◌}
use Rattle.trig.specs.Ticks.{π, nearest}

-- 'K = 64 × 2^32 × π/180'
abbrev pub K : ℕ
K = nearest (64 * 2 ^ 32 * π) (180 * 10 ^ 20)

-- 'r = t × K div 2^32'
abbrev pub rad : ℕ → ℕ
rad t = t * K / 2 ^ 32

-- 'z = r × r div 2^30'
abbrev pub square : ℕ → ℕ
square r = r * r / 2 ^ 30

-- '2^30 − (z × s div 2^30) div ..', a turn of either sum
unfoldable pub term : ℕ → ℕ → ℕ → ℕ
term z s d = 2 ^ 30 - z * s / 2 ^ 30 / d

-- 'for k = .. down to 1, s = 2^30 − (z × s div 2^30) div (2k(2k+1))'
abbrev pub sin_sum : ℕ → ℕ → ℕ → ℕ
sin_sum z zero s = s
sin_sum z (suc k) s = sin_sum z k (term z s (2 * suc k * (2 * suc k + 1)))

-- 'sinH(r): s = 2^30; for k = 6 down to 1, ..; then r × s div 2^30.'
unfoldable pub sin_h : ℕ → ℕ
sin_h r = r * sin_sum (square r) 6 (2 ^ 30) / 2 ^ 30

-- 'for k = .. down to 1, c = 2^30 − (z × c div 2^30) div ((2k−1) × 2k)'
abbrev pub cos_sum : ℕ → ℕ → ℕ → ℕ
cos_sum z zero c = c
cos_sum z (suc k) c = cos_sum z k (term z c ((2 * suc k - 1) * (2 * suc k)))

-- 'Cosine: c = 2^30; for k = 7 down to 1, ..'
unfoldable pub cos_r : ℕ → ℕ
cos_r r = cos_sum (square r) 7 (2 ^ 30)
