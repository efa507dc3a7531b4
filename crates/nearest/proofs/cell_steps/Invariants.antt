-- The loop gathers as `cell_steps` does, a word at a turn.
use Rattle.std.proofs.Common.{◌≡◌}
use Rattle.cells.specs.Passes.{pass}
use Rattle.nearest.specs.Counted.{cell_step, no_steps, gather}
use Rattle.nearest.proofs.cell_steps.Given as goal

abbrev pub invariant-loop-i : goal.invariant-loop-i
invariant-loop-i l = l.at ≡ pass (gather cell_step l.grid) no_steps l.i
