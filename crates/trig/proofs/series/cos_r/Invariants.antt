-- `cos_r`: the turns that are left make of c what all seven make of 1.
use Rattle.std.proofs.Common.{◌≡◌, ◌-◌, ◌≤◌, ◌^◌}
use Rattle.trig.specs.Series.{cos_sum}
use Rattle.trig.proofs.series.cos_r.Given as goal

abbrev pub invariant-loop-k : goal.invariant-loop-k
invariant-loop-k l = (1 ≤ l.k) × (l.c.0 ≤ 2 ^ 30) × (cos_sum l.z.n (l.k - 1) l.c.0 ≡ cos_sum l.z.n 7 (2 ^ 30))
