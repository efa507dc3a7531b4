-- The loop keeps the two nearest of the words so far, and has seen their positions.
use Rattle.std.proofs.Common.{◌≡◌}
use Rattle.view.specs.View.{positions_among}
use Rattle.nearest.specs.Counted.{bin_spot, nearest_among}
use Rattle.nearest.proofs.nearest_bins.Given as goal

abbrev pub invariant-loop-j : goal.invariant-loop-j
invariant-loop-j l = record { near : l.near ≡ nearest_among bin_spot l.fn.far.cells l.fn.places l.j; seen : l.seen ≡ positions_among l.fn.far.cells l.j }
