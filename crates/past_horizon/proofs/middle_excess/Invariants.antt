-- `middle_excess`: the loop holds Seen of Bins for whatever height the root was taken of.
use Rattle.std.proofs.Common.{◌≡◌, Float}
use Rattle.root.specs.Root.{root}
use Rattle.floats.specs.Horizon.{at_least_zero}
use Rattle.past_horizon.proofs.Bins.{Sizes, Seen}
use Rattle.past_horizon.proofs.middle_excess.Given as goal

abbrev pub invariant-loop-i : goal.invariant-loop-i
invariant-loop-i l =
    Sizes l.xs l.at l.positions l.i
    × ((a : Float) → l.antenna_root ≡ root (at_least_zero a) → Seen l.fn.far.cells a l.xs l.at l.positions l.aircraft l.i)
