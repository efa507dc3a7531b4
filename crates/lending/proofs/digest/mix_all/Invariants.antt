-- What is left of the words comes to the same as all of them at first.
use Rattle.lending.proofs.Walking.{WordsLeft}
use Rattle.lending.proofs.digest.mix_all.Given as goal

abbrev pub invariant-loop-w : goal.invariant-loop-w
invariant-loop-w l = WordsLeft l.h l.words l.g l.w-index
