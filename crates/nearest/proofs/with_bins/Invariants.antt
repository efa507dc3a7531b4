-- The loop gathers the bins on top of the cells, a word at a turn, and has seen the positions of the words so far.
use Rattle.std.proofs.Common.{◌≡◌}
use Rattle.cells.specs.Passes.{pass}
use Rattle.view.specs.View.{positions_among}
use Rattle.nearest.specs.Counted.{bin_step, gather}
use Rattle.nearest.proofs.with_bins.Given as goal

abbrev pub invariant-loop-j : goal.invariant-loop-j
invariant-loop-j l = record { at : l.at ≡ pass (gather bin_step l.fn.far.cells) l.fn.cells l.j; seen : l.seen ≡ positions_among l.fn.far.cells l.j }
