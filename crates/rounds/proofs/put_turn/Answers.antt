-- The list is all zeros, and as long as its keys.
use Rattle.std.proofs.Common.{rules}
use Rattle.rounds.proofs.Writing.{turn_put}
use Rattle.rounds.proofs.put_turn.Goals as goal

pub returns : goal.returns
returns c = search (turn_put, rules)
