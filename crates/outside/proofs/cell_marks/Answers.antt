-- A cell more is `cells_step`.
use Rattle.std.proofs.Common.{◌≡◌, refl, arith}
use Rattle.outside.proofs.Heard.{cells_step, cells_none}
use Rattle.outside.proofs.cell_marks.Goals as goal

pub loop-i-init : goal.loop-i-init
loop-i-init c = cells_none _

pub loop-i-preserved : goal.loop-i-preserved
loop-i-preserved c = let l = c.loop-i in cells_step c.args.grid.now l.i _ l.m c.cell_mark-next.result refl l.invariant c.cell_mark-next.ensures

pub returns : goal.returns
returns c = let l = c.loop-i in let e : l.i ≡ 1600 = omega arith in rw e at l.invariant
