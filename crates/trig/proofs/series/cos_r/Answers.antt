-- `cos_r`: no turn is left at the end.
use Rattle.std.proofs.Common.{◌≡◌, ℕ, ◌^◌, sym, ◌∙◌, arith}
use Rattle.trig.specs.Series.{cos_sum, cos_r}
use Rattle.trig.proofs.Sums.{none_left}
use Rattle.trig.proofs.series.cos_r.Goals as goal

pub returns : goal.returns
unfolding cos_r
returns c =
    let l = c.loop-k in
    let z = c.mul-z.result.n in
    let e : l.c.0 ≡ cos_sum z 7 (2 ^ 30) = sym (none_left (λ (j : ℕ). cos_sum z j l.c.0) l.k (omega (arith, c.loop-k-test.false))) ∙ l.invariant.2 in
    rw (sym c.mul-z.ensures) e
