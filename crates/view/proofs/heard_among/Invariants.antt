-- The bits of all words so far are those of an occupied word where one of them is.
use Rattle.std.proofs.Common.{◌≡◌}
use Rattle.cells.specs.Cells.{occupied_word}
use Rattle.cells.specs.Passes.{some}
use Rattle.view.specs.View.{heard_word}
use Rattle.view.proofs.heard_among.Given as goal

abbrev pub invariant-loop-w : goal.invariant-loop-w
invariant-loop-w l = occupied_word l.all ≡ some (heard_word l.words) l.w-index
