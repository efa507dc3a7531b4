-- A word more: its bits are added to those so far (`one_more_lem`).
use Rattle.std.proofs.Common.{refl}
use Rattle.view.proofs.Views.{none_yet, one_more_lem}
use Rattle.view.proofs.heard_among.Goals as goal

pub loop-w-init : goal.loop-w-init
loop-w-init c = none_yet c.args.words.now

pub loop-w-preserved : goal.loop-w-preserved
loop-w-preserved c = let l = c.loop-w in one_more_lem c.args.words.now l.w-index l.all _ l.invariant refl
