-- The rows left out hold no cell within 25 km.
use Rattle.std.proofs.Common.{◌≡◌, ◌+◌, ◌∙◌, arith}
use Rattle.around.specs.Counts.{under}
use Rattle.around.proofs.Window.{marks_start, marks_end}
use Rattle.around.proofs.spans.marks_around.Goals as goal

pub loop-row-init : goal.loop-row-init
loop-row-init c =
    let p = c.args.at.place in
    λ g eh. marks_start g p.x p.y _ p.in_grid.1 c.rows_near-rows.ensures.0

pub returns : goal.returns
returns c =
    let p = c.args.at.place in
    let e : c.loop-row.row ≡ under (p.y + 11) = omega arith in
    λ g eh. c.loop-row.invariant g eh ∙ marks_end g p.x p.y _ p.in_grid.1 e
