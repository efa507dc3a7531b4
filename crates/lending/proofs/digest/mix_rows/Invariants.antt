-- What is left of the rows comes to the same as all of them at first.
use Rattle.flat.specs.Table.{rows_of}
use Rattle.lending.proofs.Walking.{RowsLeft}
use Rattle.lending.proofs.digest.mix_rows.Given as goal

abbrev pub invariant-loop-i : goal.invariant-loop-i
invariant-loop-i l = RowsLeft l.h (rows_of l.rows) l.g l.i
