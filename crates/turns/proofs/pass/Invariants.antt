-- The rows that are left come to what all of them do; the number is a row's, the keys given are no more than the rows that are done, and the list keeps its length; if the keys that are left are of 32 bytes, all are.
use Rattle.std.proofs.Common.{◌≡◌, ◌<◌, ◌≤◌, ◌-◌, length}
use Rattle.turns.specs.Passes.{passed, keys_long}
use Rattle.turns.proofs.pass.Given as goal

abbrev pub invariant-loop-done : goal.invariant-loop-done
invariant-loop-done g l =
    (passed l.marks (g.W.Lent.rows_in l.rows) l.n (l.k - l.done) l.at l.count l.list ≡ passed l.marks (g.W.Lent.rows_in l.rows) l.n l.k l.first 0 l.fn.list) × (l.at < l.n) × (l.count ≤ l.done) × (length l.list ≡ length l.fn.list)
    × (keys_long l.marks (g.W.Lent.rows_in l.rows) l.n (l.k - l.done) l.at → keys_long l.marks (g.W.Lent.rows_in l.rows) l.n l.k l.first)
