-- West and east of the reach no cell is within 25 km; between, a cell is around the place where it is occupied.
use Rattle.std.proofs.Common.{◌≡◌, ℕ, ◌+◌, ◌-◌, ◌*◌, refl, ap, ◌∙◌, arith}
use Rattle.around.specs.Marks.{near, bits_in}
use Rattle.around.specs.Counts.{cut_at}
use Rattle.around.proofs.Rows.{west_off, east_off, within, cut_start, cut_end}
use Rattle.around.proofs.Window.{words_in, word_at, bits_skip, bits_step}
use Rattle.around.proofs.spans.row_bits.Goals as goal

pub loop-w-init : goal.loop-w-init
loop-w-init c =
    let row = c.args.row in
    let at = row.at in
    let g = c.args.grid.now in
    let t = c.ends-from.ensures in
    let e : cut_at row.row (at.x - t.0) ≡ c.ends-from.result.0 + 0 = omega arith in
    c.requires
    ∙ bits_skip (near g at.x at.y) g (40 * row.row) (cut_at row.row (at.x - t.0)) (cut_start row.row (at.x - t.0))
    (west_off g at.x at.y row.row _ t.0 at.in_grid.0 row.near.0 refl t.1)
    ∙ ap (λ (k : ℕ). bits_in (near g at.x at.y) g k) e

pub loop-w-preserved : goal.loop-w-preserved
loop-w-preserved c =
    let row = c.args.row in
    let at = row.at in
    let g = c.args.grid.now in
    let t = c.ends-from.ensures in
    let l = c.loop-w in
    let n = words_in g c.ends-from.result.0 c.ends-from.result.1 (omega arith) in
    let e : c.ends-from.result.0 + l.w-index + 1 ≡ c.ends-from.result.0 + (l.w-index + 1) = omega arith in
    bits_step (near g at.x at.y) g (c.ends-from.result.0 + l.w-index) l.out _ c.or_bits-out.result
    (within g at.x at.y row.row _ t.0 at.in_grid.0 row.near.0 refl t.1 (c.ends-from.result.0 + l.w-index) (omega arith) (omega arith))
    l.invariant (word_at g c.ends-from.result.0 c.ends-from.result.1 (omega arith) l.w-index c.loop-w-test.true) c.or_bits-out.ensures
    ∙ ap (λ (k : ℕ). bits_in (near g at.x at.y) g k) e

pub returns : goal.returns
returns c =
    let row = c.args.row in
    let at = row.at in
    let g = c.args.grid.now in
    let t = c.ends-from.ensures in
    let n = words_in g c.ends-from.result.0 c.ends-from.result.1 (omega arith) in
    let e : c.ends-from.result.0 + c.loop-w.w-index ≡ cut_at row.row (at.x + t.0 + 1) = omega arith in
    c.loop-w.invariant ∙ ap (λ (k : ℕ). bits_in (near g at.x at.y) g k) e
    ∙ bits_skip (near g at.x at.y) g (cut_at row.row (at.x + t.0 + 1)) (40 * (row.row + 1)) (cut_end row.row (at.x + t.0 + 1))
    (east_off g at.x at.y row.row _ t.0 at.in_grid.0 row.near.0 refl t.1)
