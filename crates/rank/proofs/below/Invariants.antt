-- `below`: those counted so far and those below in the rest are all.
use Rattle.std.proofs.Common.{◌≡◌, ◌≤◌, ◌+◌, drop}
use Rattle.rank.proofs.Counted.{below}
use Rattle.rank.proofs.below.Given as goal

abbrev pub invariant-loop-y : goal.invariant-loop-y
invariant-loop-y l = (l.n ≤ l.y-index) × (l.n + below l.x (drop l.y-index l.xs) ≡ below l.x l.xs)
