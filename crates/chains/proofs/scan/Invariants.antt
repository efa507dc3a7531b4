-- What is left to scan comes to what the whole does, and it is for the same key. The measure is the number of rows on which the scan may go.
use Rattle.std.proofs.Common.{◌≡◌}
use Rattle.rows.specs.Search.{scanned}
use Rattle.chains.proofs.scan.Given as goal

abbrev pub invariant-loop-g : goal.invariant-loop-g
invariant-loop-g g l = let rows = g.W.Lent.rows_in l.rows in (scanned rows l.c ≡ scanned rows l.fn.s) × (l.c.key ≡ l.key.bytes)

abbrev pub decreases-loop-g : goal.decreases-loop-g
decreases-loop-g g l = l.c.left
