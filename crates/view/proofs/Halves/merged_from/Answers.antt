-- A turn fills one more cell (`table_fill`).
use Rattle.std.proofs.Common.{arith, rules}
use Rattle.std.proofs.Math.ListN.{length-replicate}
use Rattle.cells.proofs.Passes.{table_none, table_fill}
use Rattle.view.proofs.Halves.merged_from.Goals as goal

pub loop-i-init : goal.loop-i-init
loop-i-init g c = record { full = length-replicate g.row.N 0; filled = table_none _ 0 }

pub loop-i-preserved : goal.loop-i-preserved
loop-i-preserved g c =
    let l = c.loop-i in
    record { full = search rules; filled = table_fill _ 0 l.merged l.i c.merged_at.result (omega arith) l.invariant.filled c.merged_at.ensures }
