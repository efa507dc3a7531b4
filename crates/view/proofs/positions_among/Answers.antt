-- A turn adds one count (`sum_step`); with at most 255 for each of 1,600 words nothing wraps.
use Rattle.std.proofs.Common.{ℕ, true, sym, get_or, arith, rules}
use Rattle.cells.proofs.Passes.{pass_none, sum_step}
use Rattle.cells.proofs.Words.{count_small}
use Rattle.view.specs.View.{positions_among}
use Rattle.view.proofs.Views.{positions_fit}
use Rattle.view.proofs.positions_among.Goals as goal

pub loop-w-init : goal.loop-w-init
unfolding positions_among
loop-w-init c = sym (pass_none _ 0)

pub overflow_add-sum : goal.overflow_add-sum
overflow_add-sum c =
    let l = c.loop-w in
    omega (arith, positions_fit c.args.words.now l.w-index, count_small (get_or c.args.words.now l.w-index 0))

pub loop-w-preserved : goal.loop-w-preserved
unfolding positions_among
loop-w-preserved c = let l = c.loop-w in sum_step (λ (j : ℕ). true) _ l.sum _ l.w-index l.invariant c.count_of-sum.ensures

pub returns : goal.returns
returns c = (search rules, omega (arith, positions_fit c.args.words.now c.loop-w.w-index))
