-- The rows left out hold no cell within 25 km.
use Rattle.std.proofs.Common.{◌≡◌, ◌+◌, ◌∙◌, arith}
use Rattle.around.specs.Counts.{under}
use Rattle.around.proofs.Window.{cells_start, cells_end}
use Rattle.around.proofs.spans.cells_around.Goals as goal

pub loop-row-init : goal.loop-row-init
loop-row-init c =
    let p = c.args.at in
    record { count = λ g eh. cells_start g p.x p.y _ p.in_grid.1 c.rows_near-rows.ensures.0; bound = omega arith }

pub returns : goal.returns
returns c =
    let p = c.args.at in
    let e : c.loop-row.row ≡ under (p.y + 11) = omega arith in
    λ g eh. c.loop-row.invariant.count g eh ∙ cells_end g p.x p.y _ p.in_grid.1 e
