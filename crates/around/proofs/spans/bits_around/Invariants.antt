-- After a row `all` has the bits of the rows so far.
use Rattle.std.proofs.Common.{◌≡◌, ◌*◌}
use Rattle.around.specs.Marks.{bits_in, near}
use Rattle.around.proofs.spans.bits_around.Given as goal

abbrev pub invariant-loop-row : goal.invariant-loop-row
invariant-loop-row l = l.all ≡ bits_in (near l.grid l.at.x l.at.y) l.grid (40 * l.row)
