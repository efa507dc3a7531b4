-- After a row the marks are those of the rows so far.
use Rattle.std.proofs.Common.{◌≡◌, ◌*◌, ℕ, List}
use Rattle.around.specs.Marks.{marks_of}
use Rattle.around.specs.Counts.{counts_of}
use Rattle.around.proofs.spans.marks_around.Given as goal

abbrev pub invariant-loop-row : goal.invariant-loop-row
invariant-loop-row l = (g : List ℕ) → l.heard ≡ counts_of g → l.m ≡ marks_of g l.at.place.x l.at.place.y (40 * l.row)
