-- The loop counts what `occupied_among` does.
use Rattle.std.proofs.Common.{◌≡◌, ◌≤◌}
use Rattle.view.specs.View.{occupied_among}
use Rattle.view.proofs.occupied_among.Given as goal

abbrev pub invariant-loop-w : goal.invariant-loop-w
invariant-loop-w l = record { count : l.n ≡ occupied_among l.words l.w-index; bound : l.n ≤ l.w-index }
