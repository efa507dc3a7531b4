-- Each turn is one of `printable`, at the byte at i.
use Rattle.std.proofs.Common.{arith, ◌∙◌, sym}
use Rattle.fields.specs.Text.{shown_of}
use Rattle.fields.proofs.Lines.{shown_on, shown_stop, shown_end}
use Rattle.fields.proofs.shown.Goals as goal
use Rattle.fields.proofs.shown.Goals.{then-i-eq32-via-then-i-eq32, then-i-eq32-via-else-i-eq32+then-not-is_ascii_graphic}

pub returns-then-i-eq32 : goal.returns-then-i-eq32
unfolding shown_of
returns-then-i-eq32 c =
    let i = c.loop-i.i in
    elim c.then-i-eq32.branch [
      | then-i-eq32-via-then-i-eq32 w ↦ omega arith
      | then-i-eq32-via-else-i-eq32+then-not-is_ascii_graphic w ↦ omega (arith, shown_stop c.args.s.now i (omega arith) (sym w.is_ascii_graphic.ensures.value ∙ w.if-not-is_ascii_graphic.true))
    ]

pub loop-i-preserved : goal.loop-i-preserved
loop-i-preserved c =
    let i = c.loop-i.i in
    omega (arith, shown_on c.args.s.now i (omega arith) (sym c.is_ascii_graphic.ensures.value ∙ c.if-not-is_ascii_graphic.false))

pub returns : goal.returns
unfolding shown_of
returns c = omega (arith, shown_end c.args.s.now c.loop-i.i (omega arith))
