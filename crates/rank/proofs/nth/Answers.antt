-- `nth`: each turn is one of the four laws of Between of `proofs/Counted.antt`, and at the end the lower bound is the one looked for.
use Rattle.std.proofs.Common.{arith}
use Rattle.rank.proofs.Counted.{begun, raised, lowered, not_under, not_above, ended}
use Rattle.rank.proofs.nth.Goals as goal
use Rattle.rank.proofs.nth.Goals.{then-low-x+then-x-high+then-below-k, then-low-x+then-x-high+else-below-k, else-low-x, else-low-x-via-then-low-x+else-x-high, else-low-x-via-else-low-x}

pub loop-x-init : goal.loop-x-init
loop-x-init c = begun _ _

pub loop-x-preserved : goal.loop-x-preserved
loop-x-preserved c =
    let l = c.loop-x in
    let xs = c.args.xs.now in
    let k = c.args.k in
    let i = l.x-index in
    elim c.if-low-x.branch [
      | then-low-x+then-x-high+then-below-k w ↦
          rw (w.low-is, w.high-is) (raised xs k c.requires.0 c.requires.1 i l.low l.high l.invariant c.loop-x-test.true w.if-low-x.true (omega (arith, w.below.ensures.0, w.if-below-k.true)))
      | then-low-x+then-x-high+else-below-k w ↦
          rw (w.low-is, w.high-is) (lowered xs k c.requires.0 c.requires.1 i l.low l.high l.invariant c.loop-x-test.true (omega (arith, w.below.ensures.0, w.if-below-k.false)))
      | else-low-x w ↦ rw (w.low-is, w.high-is) (elim w.else-low-x.branch [
        | else-low-x-via-then-low-x+else-x-high v ↦ not_under xs k c.requires.0 c.requires.1 i l.low l.high l.invariant c.loop-x-test.true v.if-x-high.false
        | else-low-x-via-else-low-x v ↦ not_above xs k c.requires.0 c.requires.1 i l.low l.high l.invariant c.loop-x-test.true v.if-low-x.false
      ])
    ]

pub returns : goal.returns
returns c =
    let l = c.loop-x in
    ended c.args.xs.now c.args.k c.requires.0 c.requires.1 l.x-index l.low l.high l.invariant (omega arith)
