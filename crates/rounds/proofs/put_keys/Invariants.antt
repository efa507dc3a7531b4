-- The keys before i are put.
use Rattle.print.specs.Print.{Adds}
use Rattle.rounds.specs.Rounds.{keys_text}
use Rattle.rounds.proofs.put_keys.Given as goal

abbrev pub invariant-loop-i : goal.invariant-loop-i
invariant-loop-i l = Adds l.initial.to (keys_text l.i l.list) l.to
