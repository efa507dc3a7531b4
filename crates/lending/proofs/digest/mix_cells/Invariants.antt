-- What is left of the cells comes to the same as all of them at first.
use Rattle.lending.proofs.Walking.{WordsLeft}
use Rattle.lending.proofs.digest.mix_cells.Given as goal

abbrev pub invariant-loop-w : goal.invariant-loop-w
invariant-loop-w l = WordsLeft l.h l.cells l.g l.w-index
