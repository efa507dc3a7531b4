-- As of the merged cells, whichever grid of no occupied cell it is.
use Rattle.std.proofs.Common.{refl, rules}
use Rattle.std.specs.Prelude.{None}
use Rattle.judge.proofs.Ways.{after_unheard}
use Rattle.judge.proofs.judge_far.Goals as goal

pub returns : goal.returns
returns c =
    λ g u.
    let none = after_unheard None g c.args.far c.outside_far.result u refl in
    c.judge_by.ensures g (c.outside_far.ensures g u) (λ e p. search rules) (λ j p. search rules)
