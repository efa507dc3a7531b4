-- The two sums' loops.
-- Assumes nothing.
use mathlib.Core.Path.{◌≡◌, ap}
use Prim.Native.Nat.{ℕ, ◌-◌, ◌≤◌}
use native.Mathlib.Omega.{arith}

-- at the end no turn is left, whatever the turns make
pub none_left : (f : ℕ → ℕ) (k : ℕ) → k ≤ 1 → f (k - 1) ≡ f 0
none_left f k h = ap f (last k h)
  where
    last : (k : ℕ) → k ≤ 1 → k - 1 ≡ 0
    last k h = omega arith
