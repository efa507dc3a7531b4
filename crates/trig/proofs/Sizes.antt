-- The size of a difference of integers, and that a number of a small size fits 64 bits with a sign, and is read back from them.
-- Assumes nothing.
use mathlib.Core.Path.{◌≡◌, refl}
use mathlib.Core.Bool.{Bool, true, false}
use Prim.Native.Nat.{ℕ, zero, suc, ◌+◌, ◌^◌, ◌≤◌}
use native.Mathlib.Omega.{arith}
use borrow.Author.Tests.{ltb-true, ltb-false}
use lib.Dec.{ltb}
use lib.IntN.{ℤ, pos, negsuc, neg_ℤ, nat_abs, sub_ℕ, ◌+ℤ◌, ◌-ℤ◌}
use lib.Signed.{mag}
use mir.Syntax.{w64}
use mir.Val.{to_z, of_z}
use mir.ValLaws.{to_z-of_z}

by_test : (a b : ℕ) (t : Bool) → ltb a b ≡ t → nat_abs (sub_ℕ a b) ≤ a + b
by_test a b true e = rw e (omega (arith, ltb-true a b e))
by_test a b false e = rw e (omega (arith, ltb-false a b e))

size_subℕ : (a b : ℕ) → nat_abs (sub_ℕ a b) ≤ a + b
size_subℕ a b = by_test a b (ltb a b) refl

size_add : (a b : ℤ) → nat_abs (a +ℤ b) ≤ nat_abs a + nat_abs b
size_add (pos a) (pos b) = omega arith
size_add (pos a) (negsuc b) = size_subℕ a (suc b)
size_add (negsuc a) (pos b) = omega (arith, size_subℕ b (suc a))
size_add (negsuc a) (negsuc b) = omega arith

size_neg : (b : ℤ) → nat_abs (neg_ℤ b) ≡ nat_abs b
size_neg (pos zero) = refl
size_neg (pos (suc n)) = refl
size_neg (negsuc n) = refl

size_sub : (a b : ℤ) → nat_abs (a -ℤ b) ≤ nat_abs a + nat_abs b
size_sub a b = omega (arith, size_add a (neg_ℤ b), size_neg b)

mag_le : (z : ℤ) → mag z ≤ nat_abs z
mag_le (pos n) = omega arith
mag_le (negsuc n) = omega arith

-- ---- the machine reads a number back from its bits

pub read_back : (z : ℤ) → nat_abs z ≤ 2 ^ 62 → to_z w64 (of_z w64 z) ≡ z
read_back z h = to_z-of_z w64 z (record { sfits = omega (arith, mag_le z) })

-- and so a difference of two
pub read_less : (x y : ℤ) → nat_abs x ≤ 2 ^ 61 → nat_abs y ≤ 2 ^ 61 → to_z w64 (of_z w64 (to_z w64 (of_z w64 x) -ℤ to_z w64 (of_z w64 y))) ≡ x -ℤ y
read_less x y f g = rw (read_back x (omega (arith, f)), read_back y (omega (arith, g))) (read_back (x -ℤ y) (omega (arith, f, g, size_sub x y)))
