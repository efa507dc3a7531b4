-- The rows are as many as asked.
use Rattle.std.proofs.Common.{rules}
use Rattle.lending.proofs.Walking.{rows_count}
use Rattle.lending.proofs.unmake_first.Goals as goal

pub unmake-requires : goal.unmake-requires
unmake-requires c = search (rows_count, rules)
