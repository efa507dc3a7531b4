-- Squares: their order, and what fits. Assumes nothing.
use mathlib.Core.Path.{◌≡◌, refl}
use Prim.Native.Nat.{ℕ, zero, suc, ◌+◌, ◌*◌, ◌^◌, ◌≤◌, ◌<◌, max}
use native.Mathlib.Nat.{mul-le-mul}
use native.Mathlib.Omega.{arith}
use lib.Dec.{ltb}
use Rattle.cells.proofs.Passes.{first_le}
use Rattle.plane.specs.Plane.{square, steps, said}

pub square_le : {m n : ℕ} → m ≤ n → square m ≤ square n
unfolding square
square_le h = mul-le-mul h h

square_one : square 1 ≡ 1
unfolding square
square_one = refl

square_two : square 2 ≡ 4
unfolding square
square_two = refl

pub small_square : (n : ℕ) → n ≤ 2 ^ 20 → n * n ≤ 2 ^ 40
small_square n h = mul-le-mul {n₁ = n} {m₁ = n} {n₂ = 2 ^ 20} {m₂ = 2 ^ 20} h h

pub far_square : (n : ℕ) → 11 ≤ n → 121 ≤ square n
unfolding square
far_square n h = mul-le-mul {n₁ = 11} {m₁ = 11} {n₂ = n} {m₂ = n} h h

-- two half cells away, one way or the two together, are over 3 km
pub two_apart : (d m : ℕ) → 2 ≤ d + m → 144 < 100 * (square d + square m)
two_apart zero m h = omega (arith, square_le {m = 2} {n = m} (omega arith), square_two)
two_apart (suc d) zero h = omega (arith, square_le {m = 2} {n = suc d} (omega arith), square_two)
two_apart (suc d) (suc m) h = omega (arith, square_le {m = 1} {n = suc d} (omega arith), square_le {m = 1} {n = suc m} (omega arith), square_one)

-- every distance said is a step of 5 km, from 5 to 800
pub said_step : (num den : ℕ) → (k : ℕ) × (said num den ≡ 5 * k) × (1 ≤ k) × (k ≤ 160)
unfolding said steps
said_step num den = (max 1 (steps num den), refl, omega arith, omega (arith, first_le (λ (k : ℕ). ltb num (square ((2 * k + 1) * den))) 160))
