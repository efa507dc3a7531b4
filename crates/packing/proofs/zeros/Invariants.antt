-- The words so far are zeros.
use Rattle.std.proofs.Common.{◌≡◌, true}
use Rattle.packing.specs.Words.{zeros}
use Rattle.packing.proofs.zeros.Given as goal

abbrev pub invariant-loop-w : goal.invariant-loop-w
invariant-loop-w l = zeros l.w-index l.words ≡ true
