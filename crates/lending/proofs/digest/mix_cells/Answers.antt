-- The next cell is mixed in; at the end no cell is left.
use Rattle.std.proofs.Common.{rules}
use Rattle.lending.proofs.Walking.{words_go, words_end}
use Rattle.lending.proofs.digest.mix_cells.Goals as goal

pub loop-w-preserved : goal.loop-w-preserved
loop-w-preserved c = search (words_go, rules)

pub returns : goal.returns
returns c = search (words_end, rules)
