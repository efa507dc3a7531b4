-- `sin_h`: the turns that are left make of s what all six make of 1.
use Rattle.std.proofs.Common.{◌≡◌, ◌-◌, ◌≤◌, ◌^◌}
use Rattle.trig.specs.Series.{sin_sum}
use Rattle.trig.proofs.series.sin_h.Given as goal

abbrev pub invariant-loop-k : goal.invariant-loop-k
invariant-loop-k l = (1 ≤ l.k) × (l.s.0 ≤ 2 ^ 30) × (sin_sum l.z.n (l.k - 1) l.s.0 ≡ sin_sum l.z.n 6 (2 ^ 30))
