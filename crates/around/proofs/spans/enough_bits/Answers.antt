-- As `bits_around`; bits never go (`ones_grow`), so eight before the last row are eight at the end.
use Rattle.std.proofs.Common.{◌≡◌, ◌+◌, ◌*◌, ◌∙◌, arith}
use Rattle.around.specs.Marks.{near}
use Rattle.around.specs.Counts.{under}
use Rattle.around.proofs.Window.{bits_start, bits_end, ones_zero, enough, not_enough}
use Rattle.around.proofs.spans.enough_bits.Goals as goal

pub loop-row-init : goal.loop-row-init
loop-row-init c =
    let p = c.args.at in
    record { all = bits_start c.args.grid.now p.x p.y _ p.in_grid.1 c.rows_near-rows.ensures.0; few = omega (arith, ones_zero) }

pub returns-then-bits-ge8 : goal.returns-then-bits-ge8
returns-then-bits-ge8 c =
    let s = c.args in
    enough (near s.grid.now s.at.x s.at.y) s.grid.now (40 * (c.loop-row.row + 1)) c.row_bits-bits.result (omega arith)
    c.row_bits-bits.ensures c.if-bits-ge8.true

pub returns : goal.returns
returns c =
    let l = c.loop-row in
    let s = c.args in
    let e : l.row ≡ under (s.at.y + 11) = omega arith in
    not_enough (near s.grid.now s.at.x s.at.y) s.grid.now l.bits (l.invariant.all ∙ bits_end s.grid.now s.at.x s.at.y l.row s.at.in_grid.1 e) l.invariant.few
