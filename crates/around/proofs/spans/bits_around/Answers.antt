-- The rows left out hold no cell within 25 km.
use Rattle.std.proofs.Common.{◌≡◌, ◌+◌, ◌∙◌, arith}
use Rattle.around.specs.Counts.{under}
use Rattle.around.proofs.Window.{bits_start, bits_end}
use Rattle.around.proofs.spans.bits_around.Goals as goal

pub loop-row-init : goal.loop-row-init
loop-row-init c = let p = c.args.at in bits_start c.args.grid.now p.x p.y _ p.in_grid.1 c.rows_near-rows.ensures.0

pub returns : goal.returns
returns c =
    let p = c.args.at in
    let e : c.loop-row.row ≡ under (p.y + 11) = omega arith in
    c.loop-row.invariant ∙ bits_end c.args.grid.now p.x p.y _ p.in_grid.1 e
