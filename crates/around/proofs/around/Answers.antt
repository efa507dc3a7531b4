-- The three parts are those of the whole grid: each callee says so of the counts that `heard_before` makes.
use Rattle.around.proofs.Window.{around_is}
use Rattle.around.proofs.around.Goals as goal

pub returns : goal.returns
returns c =
    let g = c.args.grid.now in
    around_is g c.args.at.place.x c.args.at.place.y _ _ _ (c.marks_around-marks.ensures g c.heard_before-heard.ensures) c.bits_around-aircraft.ensures
    (c.cells_around-cells.ensures g c.heard_before-heard.ensures)
