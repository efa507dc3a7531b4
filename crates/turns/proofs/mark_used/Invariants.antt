-- What is left of the used chain, on n rows less those that are done, has the same marks to set as the whole had.
use Rattle.std.proofs.Common.{◌≡◌, ◌-◌}
use Rattle.turns.proofs.Laws.{marked, rest_of}
use Rattle.turns.proofs.mark_used.Given as goal

abbrev pub invariant-loop-done : goal.invariant-loop-done
invariant-loop-done g l = marked (rest_of (g.W.Lent.rows_in l.rows) (l.n - l.done) l.at) l.marks ≡ marked (rest_of (g.W.Lent.rows_in l.rows) l.n l.head) l.fn.marks
