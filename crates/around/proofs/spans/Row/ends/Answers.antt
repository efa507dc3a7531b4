-- The cuts at the two ends of the reach.
use Rattle.std.proofs.Common.{◌+◌, ◌-◌, ap, ◌∙◌, subst, arith}
use Rattle.around.specs.Counts.{Reach, cut_at}
use Rattle.around.proofs.Rows.{cut_mono}
use Rattle.around.proofs.spans.Row.ends.Goals as goal

pub returns : goal.returns
returns c =
    let s = c.args.self in
    let h = c.reach-h.result in
    let west = c.cut.ensures.0 ∙ ap (cut_at s.row) c.saturating_sub.ensures in
    let m = cut_mono s.row (s.at.x - h) (s.at.x + h + 1) (omega arith) in
    (h, subst (λ m. Reach m h) c.off.ensures.0 c.reach-h.ensures, west, c.cut-2.ensures.0, omega arith, c.cut-2.ensures.1)
