-- The bytes before j are put.
use Rattle.answers.specs.Answers.{bytes_text}
use Rattle.print.specs.Print.{Adds}
use Rattle.answers.proofs.put.put_key.Given as goal

abbrev pub invariant-loop-j : goal.invariant-loop-j
invariant-loop-j l = Adds l.initial.to (bytes_text l.key l.j) l.to
