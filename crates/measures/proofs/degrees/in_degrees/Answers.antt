-- `in_degrees`: 90 is 45 * 2 ^ 1, and 180 is 45 * 2 ^ 2.
use Rattle.std.proofs.Common.{Bool, ◌&&◌, refl, sym, ap, ◌∙◌, lit<}
use lib.Ieee.{of_bits}
use Rattle.measures.specs.Degrees.{within}
use Rattle.measures.proofs.degrees.in_degrees.Goals as goal

pub returns-then-within : goal.returns-then-within
unfolding of_bits
returns-then-within c =
    c.within-then-within.ensures 45 2 refl (lit< tt)
    ∙ sym (ap (λ (b : Bool). b && within 180 c.args.lon) (sym (c.within.ensures 45 1 refl (lit< tt)) ∙ c.if-within.true))

pub returns-else-within : goal.returns-else-within
unfolding of_bits
returns-else-within c =
    c.if-within.false
    ∙ sym (ap (λ (b : Bool). b && within 180 c.args.lon) (sym (c.within.ensures 45 1 refl (lit< tt)) ∙ c.if-within.false))
