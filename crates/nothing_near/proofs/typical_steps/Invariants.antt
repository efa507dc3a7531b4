-- The loop has passed what stands below k, and the total was not reached before k.
use Rattle.std.proofs.Common.{◌≡◌, ℕ, ◌<◌, false}
use Rattle.nearest.specs.Counted.{below}
use Rattle.nothing_near.specs.Counted.{reached_at}
use Rattle.nothing_near.proofs.typical_steps.Given as goal

abbrev pub invariant-loop-k : goal.invariant-loop-k
invariant-loop-k l = record { passed : l.passed ≡ below l.fn.at l.k; not_yet : (j : ℕ) → j < l.k → reached_at l.fn.at l.total j ≡ false }
