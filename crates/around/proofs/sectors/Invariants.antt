-- n is how many of the marks so far are set.
use Rattle.std.proofs.Common.{◌≡◌, ℕ, false, get_or}
use Rattle.cells.specs.Passes.{how_many}
use Rattle.around.proofs.sectors.Given as goal

abbrev pub invariant-loop-mark : goal.invariant-loop-mark
invariant-loop-mark l = l.n ≡ how_many (λ (j : ℕ). get_or l.fn.marks j false) l.mark-index
