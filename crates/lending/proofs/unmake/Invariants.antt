-- The first i rows are unmade, and the words are as many as before.
use Rattle.flat.specs.Table.{rows_of}
use Rattle.lending.proofs.Writing.{Unmade}
use Rattle.lending.proofs.unmake.Given as goal

abbrev pub invariant-loop-i : goal.invariant-loop-i
invariant-loop-i l = Unmade l.i (rows_of l.initial.rows) (rows_of l.rows)
