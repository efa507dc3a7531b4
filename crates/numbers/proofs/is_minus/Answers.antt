-- The first byte decides; an empty slice has none.
use Rattle.std.proofs.Common.{◌∙◌, refl}
use Rattle.numbers.proofs.Values.{minus_is}
use Rattle.numbers.proofs.is_minus.Goals as goal

pub returns : goal.returns
returns c = c.eq.ensures ∙ minus_is c.args.s.now c.first.result _ refl c.first.ensures.value
