-- The sum so far.
use Rattle.std.proofs.Common.{◌≡◌}
use Rattle.view.specs.View.{positions_among}
use Rattle.view.proofs.positions_among.Given as goal

abbrev pub invariant-loop-w : goal.invariant-loop-w
invariant-loop-w l = l.sum ≡ positions_among l.words l.w-index
