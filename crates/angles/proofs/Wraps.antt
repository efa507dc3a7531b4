-- A difference of longitudes brought to -180 up to below 180 degrees, and the column of an east, each of a number that is held as its sign and its size.
-- Assumes nothing.
use mathlib.Core.Path.{◌≡◌, refl}
use mathlib.Core.Bool.{Bool, true, false}
use Prim.Native.Nat.{ℕ, zero, suc, ◌+◌, ◌-◌, ◌*◌, ◌/◌, ◌^◌, ◌≤◌, ◌<◌}
use mathlib.Core.Logic.{⊎_elim}
use native.Mathlib.Nat.{add_comm, eq-or-lt_of_le}
use native.Mathlib.Omega.{arith}
use borrow.Author.Tests.{le-leb, lt-leb, le-ltb, lt-ltb}
use Rattle.trig.specs.Ticks.{deg, wrap}
use Rattle.angles.specs.Plane.{M, mm, column, near}
use Rattle.trig.specs.Value.{signed}
use Rattle.trig.proofs.Signs.{sub_lt, abs_signed, quot_pos}

pub wrap_in_minus : (n : ℕ) → n ≤ deg 180 → wrap (signed true n) ≡ signed true n
unfolding wrap signed
wrap_in_minus zero h = refl
wrap_in_minus (suc k) h = rw (le-ltb 3019898879 k (omega arith))

pub wrap_out_minus : (n : ℕ) → deg 180 < n → n ≤ deg 360 → wrap (signed true n) ≡ signed false (deg 360 - n)
unfolding wrap signed
wrap_out_minus zero g h = absurd (omega arith)
wrap_out_minus (suc k) g h = rw (lt-ltb 3019898879 k (omega arith), le-ltb 6039797760 (suc k) (omega arith))

pub wrap_in_plus : (n : ℕ) → n < deg 180 → wrap (signed false n) ≡ signed false n
unfolding wrap signed
wrap_in_plus n h = rw (lt-leb (deg 180) n h)

wrap_round : wrap (signed false (deg 360)) ≡ signed true 0
unfolding wrap signed
wrap_round = refl

pub wrap_out_plus : (n : ℕ) → deg 180 ≤ n → n ≤ deg 360 → wrap (signed false n) ≡ signed true (deg 360 - n)
unfolding wrap signed
wrap_out_plus n g h = ⊎_elim (λ e. rw e wrap_round) (λ l. rw (le-leb (deg 180) n g) (sub_lt n (deg 360) l)) (eq-or-lt_of_le h)

pub mm_signed : (a : Bool) (m : ℕ) → mm (signed a m) ≡ signed a (m * M / 2 ^ 28)
unfolding mm
mm_signed a m = quot_pos a m M (2 ^ 28)

pub column_minus : (n : ℕ) → n < 100000000 → column (signed true n) ≡ (100000000 - n) / 5000000
unfolding column signed
column_minus zero h = refl
column_minus (suc k) h = rw (le-ltb 100000000 (suc k) (omega arith))

pub column_plus : (n : ℕ) → column (signed false n) ≡ (100000000 + n) / 5000000
unfolding column signed
column_plus n = rw (add_comm n 100000000)

pub near_yes : (b : Bool) (n : ℕ) → n < 100000000 → near (signed b n) ≡ true
unfolding near
near_yes b n h = rw (abs_signed b n) (lt-ltb n 100000000 h)

pub near_no : (b : Bool) (n : ℕ) → 100000000 ≤ n → near (signed b n) ≡ false
unfolding near
near_no b n h = rw (abs_signed b n) (le-ltb n 100000000 h)
