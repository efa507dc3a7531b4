-- Both whole numbers are floats exactly, so the quotient is the nearest float to the fraction (`quotient`); a minus sign goes through rounding (`neg_round`).
use Rattle.std.proofs.Common.{◌^◌, sym, ap, ◌∙◌}
use Rattle.std.specs.Float.{binary64}
use Rattle.std.specs.Float.Ieee.{round, neg}
use Rattle.reals.proofs.Decimals.{quotient, neg_round}
use Rattle.reals.proofs.over_tens.Goals as goal

pub returns-then-minus : goal.returns-then-minus
returns-then-minus c =
    let a = c.args in
    let q = quotient a.m a.places c.pow-tens.result _ _ c.requires.0 c.requires.1 c.nearest_u64_to_f64.ensures c.nearest_u64_to_f64-2.ensures c.pow-tens.ensures in
    ap neg q ∙ neg_round a.m (10 ^ a.places) ∙ ap (λ b. round binary64 b a.m (10 ^ a.places)) (sym c.if-minus.true)

pub returns-else-minus : goal.returns-else-minus
returns-else-minus c =
    let a = c.args in
    quotient a.m a.places c.pow-tens.result _ _ c.requires.0 c.requires.1 c.nearest_u64_to_f64.ensures c.nearest_u64_to_f64-2.ensures c.pow-tens.ensures
    ∙ ap (λ b. round binary64 b a.m (10 ^ a.places)) (sym c.if-minus.false)
