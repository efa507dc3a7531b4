-- The bytes passed were digits, and n is the number that they write.
use Rattle.std.proofs.Common.{◌≡◌, ◌≤◌, drop}
use Rattle.numbers.specs.Numbers.{all_digits, value_on}
use Rattle.numbers.proofs.read_on.Given as goal

abbrev pub invariant-loop-c : goal.invariant-loop-c
invariant-loop-c l =
    (l.n ≤ l.most) × (all_digits l.base l.s ≡ all_digits l.base (drop l.c-index l.s))
    × (value_on l.base l.fn.from l.s ≡ value_on l.base l.n (drop l.c-index l.s))
