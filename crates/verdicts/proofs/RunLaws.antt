-- For the code: one law for each way out of a function, its premises as the code leaves them.
use Rattle.std.specs.Prelude.{Some, Option}
use mathlib.Core.Path.{◌≡◌, sym}
use Prim.Native.Nat.{ℕ, ◌<◌}
use native.Mathlib.Omega.{arith}
use mathlib.Core.Bool.{true}
use Rattle.table.proofs.Tests.{ltb_yes}
use Rattle.verdicts.specs.Verdict.{too_soon}

-- too soon: by the kept number alone if the clock has gone back, else by the time between, so that nothing wraps
pub soon_back : (k : Option ℕ) (ms now : ℕ) → k ≡ Some ms → now < ms → true ≡ too_soon k now
soon_back k ms now p h = rw p (sym (ltb_yes now _ (omega arith)))
