-- After a row the bits are those of the rows so far, and fewer than eight.
use Rattle.std.proofs.Common.{◌≡◌, ◌*◌, ◌<◌}
use Rattle.std.specs.Int.Count.{ones}
use Rattle.around.specs.Marks.{bits_in, near}
use Rattle.around.proofs.spans.enough_bits.Given as goal

abbrev pub invariant-loop-row : goal.invariant-loop-row
invariant-loop-row l = record {
  all : l.bits ≡ bits_in (near l.grid l.at.x l.at.y) l.grid (40 * l.row);
  few : ones l.bits < 8;
}
