-- The loop keeps the two nearest of the words so far.
use Rattle.std.proofs.Common.{◌≡◌, []}
use Rattle.nearest.specs.Counted.{cell_spot, two_nearest, nearest_among}
use Rattle.nearest.proofs.nearest_cells.Given as goal

abbrev pub invariant-loop-i : goal.invariant-loop-i
invariant-loop-i l = l.near ≡ nearest_among cell_spot l.grid (two_nearest []) l.i
