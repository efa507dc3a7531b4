-- `nth`: number k lies from `low` up to below `high`, as Between of `proofs/Counted.antt` says.
use Rattle.rank.proofs.Counted.{Between}
use Rattle.rank.proofs.nth.Given as goal

abbrev pub invariant-loop-x : goal.invariant-loop-x
invariant-loop-x l = Between l.xs l.k l.x-index l.low l.high
