-- No k below the loop's holds num under the square; the first that does is `steps` (`first_unique`).
use Rattle.std.proofs.Common.{sym, arith, below_more}
use Rattle.std.proofs.lemmas.Bool.{lt-ltb, le-ltb}
use Rattle.cells.proofs.Passes.{first_unique}
use Rattle.plane.specs.Plane.{square, steps}
use Rattle.plane.proofs.steps_of.Goals as goal

pub returns-then-num-odd : goal.returns-then-num-odd
unfolding steps square
returns-then-num-odd c =
    let l = c.loop-k in
    (sym (first_unique _ 160 l.k (omega arith) l.invariant (λ h. lt-ltb c.args.num _ c.if-num-odd.true)), omega arith)

pub loop-k-preserved : goal.loop-k-preserved
unfolding square
loop-k-preserved c =
    let l = c.loop-k in
    below_more _ l.k l.invariant (le-ltb c.args.num _ c.if-num-odd.false)

pub returns : goal.returns
unfolding steps square
returns c = let l = c.loop-k in (sym (first_unique _ 160 160 (omega arith) (λ j h. l.invariant j (omega arith)) (λ h. absurd (omega arith))), omega arith)
