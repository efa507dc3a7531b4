-- A word at a turn is `among_one`; one that is not occupied changes nothing (`among_none`).
use Rattle.std.proofs.Common.{◌≡◌, sym, ◌∙◌, arith}
use Rattle.nearest.specs.Counted.{cell_spot}
use Rattle.nearest.proofs.Two.{among_start, among_one, among_none}
use Rattle.nearest.proofs.nearest_cells.Goals as goal
use Rattle.nearest.proofs.nearest_cells.Goals.{then-occupied, else-occupied}

pub loop-i-init : goal.loop-i-init
loop-i-init c = c.none_nearest-near.ensures ∙ among_start cell_spot _ _

pub loop-i-preserved : goal.loop-i-preserved
loop-i-preserved c =
    let l = c.loop-i in
    elim c.if-occupied.branch [
      | then-occupied w ↦ w.near-is ∙ w.with_cell-near.ensures ∙ among_one cell_spot _ _ l.near l.i l.invariant (sym c.occupied.ensures ∙ w.if-occupied.true)
      | else-occupied w ↦ w.near-is ∙ among_none cell_spot _ _ l.near l.i l.invariant (sym c.occupied.ensures ∙ w.if-occupied.false)
    ]

pub returns : goal.returns
returns c = let l = c.loop-i in let e : l.i ≡ 1600 = omega arith in rw e at l.invariant
