-- The sector of an east and a north that are held as sign and size: none, the four due directions, and what lies between two of them.
-- Assumes nothing.
use mathlib.Core.Path.{◌≡◌, refl, sym}
use mathlib.Core.Bool.{Bool, true, false, cond}
use Prim.Native.Nat.{ℕ, zero, suc, ◌<◌}
use native.Mathlib.Omega.{arith}
use Rattle.angles.specs.Bearing.{quarter, sector}
use Rattle.trig.specs.Value.{signed}

pub due_none : (a b : Bool) → sector (signed a 0) (signed b 0) ≡ 0
unfolding sector signed
due_none false false = refl
due_none false true = refl
due_none true false = refl
due_none true true = refl

-- north of a zero of either sign, or south
pub due_north_south : (a b : Bool) (n : ℕ) → 0 < n → sector (signed a 0) (signed b n) ≡ cond b 4 0
unfolding sector signed
due_north_south a b zero h = absurd (omega arith)
due_north_south false false (suc n) h = refl
due_north_south true false (suc n) h = refl
due_north_south false true (suc n) h = refl
due_north_south true true (suc n) h = refl

-- east of a zero of either sign, or west
pub due_east_west : (a b : Bool) (m : ℕ) → 0 < m → sector (signed a m) (signed b 0) ≡ cond a 6 2
unfolding sector signed
due_east_west a b zero h = absurd (omega arith)
due_east_west false false (suc m) h = refl
due_east_west false true (suc m) h = refl
due_east_west true false (suc m) h = refl
due_east_west true true (suc m) h = refl

-- the quarter of an east a and a north b, true being west and south
abbrev pub between : Bool → Bool → ℕ → ℕ → ℕ
between false false m n = quarter 0 n m
between false true m n = quarter 2 m n
between true true m n = quarter 4 n m
between true false m n = quarter 6 m n

pub in_quarter : (a b : Bool) (m n : ℕ) → 0 < m → 0 < n → sector (signed a m) (signed b n) ≡ between a b m n
unfolding sector signed
in_quarter a b zero n h k = absurd (omega arith)
in_quarter a b (suc m) zero h k = absurd (omega arith)
in_quarter false false (suc m) (suc n) h k = refl
in_quarter false true (suc m) (suc n) h k = refl
in_quarter true false (suc m) (suc n) h k = refl
in_quarter true true (suc m) (suc n) h k = refl

-- ---- the same of a sign and a size as the code has tested them
pub none_at : (a b : Bool) {m n : ℕ} → m ≡ 0 → n ≡ 0 → 0 ≡ sector (signed a m) (signed b n)
none_at a b p q = rw (p, q) (sym (due_none a b))

pub north_south_at : (a t : Bool) {b : Bool} {m : ℕ} (n : ℕ) → m ≡ 0 → b ≡ t → 0 < n → cond t 4 0 ≡ sector (signed a m) (signed b n)
north_south_at a t n p q h = rw (p, q) (sym (due_north_south a t n h))

pub east_west_at : (b t : Bool) {a : Bool} {n : ℕ} (m : ℕ) → n ≡ 0 → a ≡ t → 0 < m → cond t 6 2 ≡ sector (signed a m) (signed b n)
east_west_at b t m p q h = rw (p, q) (sym (due_east_west t b m h))

pub quarter_at : (t u : Bool) {a b : Bool} (m n : ℕ) → a ≡ t → b ≡ u → 0 < m → 0 < n → between t u m n ≡ sector (signed a m) (signed b n)
quarter_at t u m n p q h k = rw (p, q) (sym (in_quarter t u m n h k))
