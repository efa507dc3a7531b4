-- The bytes passed were digits.
use Rattle.std.proofs.Common.{◌≡◌, drop}
use Rattle.numbers.specs.Numbers.{all_digits}
use Rattle.keys.proofs.all_hex.Given as goal

abbrev pub invariant-loop-c : goal.invariant-loop-c
invariant-loop-c l = all_digits 16 l.s ≡ all_digits 16 (drop l.c-index l.s)
