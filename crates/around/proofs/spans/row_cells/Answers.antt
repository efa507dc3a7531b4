-- The counts before the two ends of the reach differ by the cells between (`row_count`).
use Rattle.std.proofs.Common.{ℕ, get_or, refl, ap}
use Rattle.around.proofs.Window.{row_count}
use Rattle.around.proofs.spans.row_cells.Goals as goal

pub overflow_sub-result : goal.overflow_sub-result
overflow_sub-result c =
    let s = c.args in
    let at = s.row.at in
    let t = c.ends-from.ensures in
    let k = λ (i : ℕ). get_or s.heard.now i 0 in
    (row_count c.requires.0 at.x at.y s.row.row _ t.0 at.in_grid.0 s.row.near.0 refl t.1 s.heard.now _ _ c.requires.1 (ap k t.2) (ap k t.3)).0

pub returns : goal.returns
returns c =
    let s = c.args in
    let at = s.row.at in
    let t = c.ends-from.ensures in
    let k = λ (i : ℕ). get_or s.heard.now i 0 in (
      λ g eh. (row_count g at.x at.y s.row.row _ t.0 at.in_grid.0 s.row.near.0 refl t.1 s.heard.now _ _ eh (ap k t.2) (ap k t.3)).1,
      (row_count c.requires.0 at.x at.y s.row.row _ t.0 at.in_grid.0 s.row.near.0 refl t.1 s.heard.now _ _ c.requires.1 (ap k t.2) (ap k t.3)).2,
    )
