-- The bytes so far are those of the words so far.
use Rattle.std.proofs.Common.{◌≡◌, ◌*◌, length, take}
use Rattle.packing.specs.Words.{key_of}
use Rattle.packing.proofs.key_at.Given as goal

abbrev pub invariant-loop-i : goal.invariant-loop-i
invariant-loop-i l = (length l.key ≡ 32) × (take (8 * l.i) l.key ≡ take (8 * l.i) (key_of l.words))
