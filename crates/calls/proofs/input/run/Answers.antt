-- At first nothing is written; each turn writes what its step says.
use Rattle.std.proofs.Common.{refl, ◌∙◌}
use Rattle.calls.specs.Turns.{held}
use Rattle.calls.proofs.Came.{going_start, going_more, still_failed}
use Rattle.calls.proofs.input.run.Goals as goal

pub loop-init : goal.loop-init
loop-init g c = (going_start _ _ _, c.watch.ensures.room, λ h. refl, ((refl, refl), (refl, refl, refl), (refl, (refl, refl))))

pub loop-preserved : goal.loop-preserved
loop-preserved g c =
    let same = c.step.ensures.same in
    let was = c.loop.invariant.3 in (
      going_more g.W.Write.contents c.loop.out.to.now c.step.new.out.to.now c.step.ensures.failed (held c.args.list.now c.watch.new.w c.args.out.now) (held c.loop.list c.loop.w c.loop.out) (held c.step.new.list c.step.new.w c.step.new.out) _
          c.loop.invariant.0 c.step.ensures.stepped c.step.ensures.written,
      c.step.ensures.room,
      still_failed c.args.out.now.to.now c.loop.out.to.now c.step.new.out.to.now c.loop.invariant.2 c.step.ensures.failed,
      (
        (same.0.0 ∙ was.0.0, same.0.1 ∙ was.0.1),
        (same.1.0 ∙ was.1.0, same.1.1 ∙ was.1.1, same.1.2 ∙ was.1.2),
        (same.2.0 ∙ was.2.0, (same.2.1.0 ∙ was.2.1.0, same.2.1.1 ∙ was.2.1.1)),
      ),
    )
