-- The rows from the i-th on are still to be made; in the end every row is what `filled` makes it.
use Rattle.std.proofs.Common.{◌≡◌, ◌-◌, length}
use Rattle.walks.proofs.Fill.{filled}
use Rattle.rows.specs.Links.{fresh_of}
use Rattle.chains.proofs.fresh_rows.Given as goal

abbrev pub invariant-loop-i : goal.invariant-loop-i
invariant-loop-i g l =
    let before = g.W.Lent.rows_in l.fn.rows in
    let rows = g.W.Lent.rows_in l.rows in
    (length rows ≡ length before) × (filled (fresh_of l.n) (length before - l.i) l.i rows ≡ filled (fresh_of l.n) (length before) 0 before)
