-- The words so far begin at the reach's west end, and the bits are those of the cells around up to the last of them.
use Rattle.std.proofs.Common.{◌≡◌, ◌+◌}
use Rattle.around.specs.Marks.{bits_in, near}
use Rattle.around.proofs.spans.row_bits.Given as goal

abbrev pub invariant-loop-w : goal.invariant-loop-w
invariant-loop-w l = l.out ≡ bits_in (near l.grid l.fn.row.at.x l.fn.row.at.y) l.grid (l.from + l.w-index)
