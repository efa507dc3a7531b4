-- A word at a turn is `gather_next`; no number passes 255 for each word (`cells_fit`).
use Rattle.std.proofs.Common.{◌≡◌, ℕ, List, get_or, sym, ap, ◌∙◌, arith}
use Rattle.cells.proofs.Passes.{pass_none}
use Rattle.nearest.specs.Counted.{cell_step, no_steps, gather, cell_steps}
use Rattle.nearest.proofs.Gathered.{cells_fit, gather_next}
use Rattle.nearest.proofs.cell_steps.Goals as goal

pub loop-i-init : goal.loop-i-init
unfolding no_steps
loop-i-init c = sym (pass_none (gather cell_step c.args.grid.now) no_steps)

pub gather_cell-requires : goal.gather_cell-requires
gather_cell-requires c =
    let l = c.loop-i in
    omega (arith, ap (λ (t : List ℕ). get_or t (cell_step l.i) 0) l.invariant, cells_fit c.args.grid.now l.i (cell_step l.i))

pub loop-i-preserved : goal.loop-i-preserved
loop-i-preserved c =
    let l = c.loop-i in
    c.gather_cell.ensures ∙ gather_next cell_step c.args.grid.now no_steps l.at l.i l.invariant

pub returns : goal.returns
unfolding cell_steps
returns c = let l = c.loop-i in let e : l.i ≡ 1600 = omega arith in rw e at l.invariant
