-- No k below the loop's holds num under the square.
use Rattle.std.proofs.Common.{ℕ, ◌≡◌, ◌+◌, ◌*◌, ◌<◌, false}
use Rattle.std.proofs.Math.Dec.{ltb}
use Rattle.plane.specs.Plane.{square}
use Rattle.plane.proofs.steps_of.Given as goal

abbrev pub invariant-loop-k : goal.invariant-loop-k
invariant-loop-k l = (j : ℕ) → j < l.k → ltb l.num (square ((2 * j + 1) * l.den)) ≡ false
