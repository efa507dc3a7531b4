-- Each return is one case of `nearer`.
use Rattle.std.proofs.Common.{sym, ◌∙◌}
use Rattle.nearest.proofs.Two.{same_spot, is_nearer, not_nearer}
use Rattle.nearest.proofs.nearer.Goals as goal

pub returns-then-nearest-near : goal.returns-then-nearest-near
returns-then-nearest-near g c =
    λ s en ep es. c.put.ensures ∙ is_nearer _ _ s (same_spot (sym en) (es _ c.step.ensures) (c.count_of.ensures ∙ sym ep)) c.if-nearest-near.true

pub returns : goal.returns
returns g c = λ s en ep es. not_nearer _ s _ (sym en) c.if-nearest-near.false
