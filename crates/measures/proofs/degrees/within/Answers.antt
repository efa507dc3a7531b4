-- `within`: the two comparisons are those of `range_by`.
use Rattle.std.proofs.Common.{true, false, sym, ap, ◌∙◌, mul-pos, pow_pos}
use lib.Ieee.{Float, le, neg}
use Rattle.measures.proofs.Tests.{range_by}
use Rattle.measures.proofs.degrees.within.Goals as goal

pub returns-then-x-most : goal.returns-then-x-most
unfolding neg
returns-then-x-most c n k e h =
    let x = c.args.x in
    rw e (range_by n k x true (mul-pos h (pow_pos k)) (ap (λ (m : Float). le (neg m) x) (sym e) ∙ c.if-x-most.true))

pub returns-else-x-most : goal.returns-else-x-most
unfolding neg
returns-else-x-most c n k e h =
    let x = c.args.x in
    c.if-x-most.false ∙ range_by n k x false (mul-pos h (pow_pos k)) (ap (λ (m : Float). le (neg m) x) (sym e) ∙ c.if-x-most.false)
