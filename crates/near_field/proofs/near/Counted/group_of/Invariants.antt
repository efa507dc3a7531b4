-- After i cells the sums are those of the members among the first i.
use Rattle.std.proofs.Common.{◌≡◌, ◌*◌, ◌≤◌}
use Rattle.cells.specs.Passes.{how_many, sum_of}
use Rattle.plane.specs.Plane.{east_of, north_of}
use Rattle.near_field.specs.Near.{member}
use Rattle.near_field.proofs.near.Counted.group_of.Given as goal

abbrev pub invariant-loop-i : goal.invariant-loop-i
invariant-loop-i l =
    (l.n ≡ how_many (member l.self.grid.now l.best.i) l.i) × (l.east ≡ sum_of (member l.self.grid.now l.best.i) east_of l.i)
    × (l.north ≡ sum_of (member l.self.grid.now l.best.i) north_of l.i) × (l.n ≤ l.i) × (l.east ≤ 79 * l.i) × (l.north ≤ 79 * l.i)
