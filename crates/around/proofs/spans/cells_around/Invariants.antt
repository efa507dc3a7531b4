-- After a row n counts the cells of the rows so far.
use Rattle.std.proofs.Common.{◌≡◌, ◌*◌, ◌≤◌, ℕ, List}
use Rattle.cells.specs.Passes.{how_many}
use Rattle.around.specs.Marks.{near}
use Rattle.around.specs.Counts.{counts_of}
use Rattle.around.proofs.spans.cells_around.Given as goal

abbrev pub invariant-loop-row : goal.invariant-loop-row
invariant-loop-row l = record {
  count : (g : List ℕ) → l.heard ≡ counts_of g → l.n ≡ how_many (near g l.at.x l.at.y) (40 * l.row);
  bound : l.n ≤ 40 * l.row;
}
