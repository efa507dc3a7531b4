-- With no positions the store would change nothing (`gather_none`); else it is the definition's.
use Rattle.std.proofs.Common.{◌≤◌, get_or, sym, ◌∙◌, arith}
use Rattle.cells.specs.Cells.{count_of}
use Rattle.cells.proofs.Words.{count_small}
use Rattle.nearest.specs.Counted.{cell_step}
use Rattle.nearest.proofs.Gathered.{gather_same, gather_none}
use Rattle.nearest.proofs.gather_cell.Goals as goal

pub returns-then-n-eq0 : goal.returns-then-n-eq0
returns-then-n-eq0 c = gather_none c.args.steps.now (cell_step c.args.at.i) (count_of c.args.w) (sym c.count_of-n.ensures ∙ c.if-n-eq0.true)

pub overflow_add-steps : goal.overflow_add-steps
overflow_add-steps c =
    let e = c.cell_step-k.ensures.0 in
    let h : get_or c.args.steps.now c.cell_step-k.result 0 ≤ 408000 = rw e c.requires in
    omega (arith, count_small c.args.w)

pub returns : goal.returns
returns c = gather_same c.args.steps.now c.cell_step-k.ensures.0 c.count_of-n.ensures
