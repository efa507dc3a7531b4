-- A law for each sign, where it stays and where it turns round.
use Rattle.std.proofs.Common.{◌<◌, ◌≤◌, sym, ◌∙◌}
use borrow.Author.Tests.{leb-true, leb-false, ltb-true, ltb-false}
use Rattle.trig.specs.Ticks.{deg}
use Rattle.angles.proofs.Wraps.{wrap_in_minus, wrap_out_minus, wrap_in_plus, wrap_out_plus}
use Rattle.angles.proofs.plane.wrapped.Goals as goal
use Rattle.angles.proofs.plane.wrapped.Goals.{then-d, else-d, then-stays, else-stays}

pub returns : goal.returns
returns c =
    elim c.if-stays.branch [
      | then-stays s ↦ elim c.if-d.branch [
        | then-d w ↦
            let h : c.args.d.size ≤ deg 180 = leb-true _ _ (sym w.stays-is ∙ s.if-stays.true) in
            rw (s.result-is, w.if-d.true) (sym (wrap_in_minus _ h))
        | else-d w ↦
            let h : c.args.d.size < deg 180 = ltb-true _ _ (sym w.stays-is ∙ s.if-stays.true) in
            rw (s.result-is, w.if-d.false) (sym (wrap_in_plus _ h))
      ]
      | else-stays s ↦ elim c.if-d.branch [
        | then-d w ↦
            let h : deg 180 < c.args.d.size = leb-false _ _ (sym w.stays-is ∙ s.if-stays.false) in
            rw (s.result-is, w.if-d.true) (sym (wrap_out_minus _ h c.requires))
        | else-d w ↦
            let h : deg 180 ≤ c.args.d.size = ltb-false _ _ (sym w.stays-is ∙ s.if-stays.false) in
            rw (s.result-is, w.if-d.false) (sym (wrap_out_plus _ h c.requires))
      ]
    ]
