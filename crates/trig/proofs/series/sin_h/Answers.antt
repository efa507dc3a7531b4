-- `sin_h`: no turn is left at the end.
use Rattle.std.proofs.Common.{◌≡◌, ℕ, ◌^◌, sym, ◌∙◌, arith}
use Rattle.trig.specs.Series.{sin_sum, sin_h}
use Rattle.trig.proofs.Sums.{none_left}
use Rattle.trig.proofs.series.sin_h.Goals as goal

pub returns : goal.returns
unfolding sin_h
returns c =
    let l = c.loop-k in
    let z = c.mul-z.result.n in
    let e : l.s.0 ≡ sin_sum z 6 (2 ^ 30) = sym (none_left (λ (j : ℕ). sin_sum z j l.s.0) l.k (omega (arith, c.loop-k-test.false))) ∙ l.invariant.2 in
    c.mul.ensures ∙ simp (e, c.mul-z.ensures)
