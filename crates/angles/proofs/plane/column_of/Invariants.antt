-- `column_of`: what is left is less than the next step's two widths, and what both make together stays.
use Rattle.std.proofs.Common.{◌≡◌, ◌-◌, ◌*◌, ◌^◌, ◌≤◌, ◌<◌, ◌/◌}
use Rattle.angles.specs.Plane.{together}
use Rattle.angles.proofs.plane.column_of.Given as goal

abbrev pub invariant-loop-n : goal.invariant-loop-n
invariant-loop-n l =
    (l.n-index ≤ 4) × (together l.edge.v ≡ together l.initial.edge.v) × (l.edge.v / 64 < 2 ^ (5 - l.n-index) * 78125)
