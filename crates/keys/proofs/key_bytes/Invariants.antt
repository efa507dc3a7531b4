-- The first i bytes are those of the key.
use Rattle.std.proofs.Common.{◌≡◌, length, take}
use Rattle.keys.specs.Keys.{key_bytes}
use Rattle.keys.proofs.key_bytes.Given as goal

abbrev pub invariant-loop-i : goal.invariant-loop-i
invariant-loop-i l = (length l.byte-items ≡ 32) × (take l.i l.byte-items ≡ key_bytes l.s l.i)
