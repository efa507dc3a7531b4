-- The next row is mixed in; at the end no row is left.
use Rattle.std.proofs.Common.{rules}
use Rattle.lending.proofs.Walking.{rows_go, rows_end}
use Rattle.lending.proofs.digest.mix_rows.Goals as goal

pub loop-i-preserved : goal.loop-i-preserved
loop-i-preserved c = search (rows_go, rules)

pub returns : goal.returns
returns c = search (rows_end, rules)
