-- After i cells the marks are the table of the sectors that hold one of the first i.
use Rattle.std.proofs.Common.{◌≡◌, ℕ}
use Rattle.cells.specs.Passes.{some, table}
use Rattle.around.specs.Marks.{cell_in}
use Rattle.outside.proofs.cell_marks.Given as goal

abbrev pub invariant-loop-i : goal.invariant-loop-i
invariant-loop-i l = l.m ≡ table (λ (k : ℕ). some (cell_in l.grid k) l.i) 8
