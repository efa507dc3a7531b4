-- The views are the definition's; where no cell of the grid is occupied the bins alone are judged, and where neither half is merged the
-- answer is Unjudged (Unheard).
use Rattle.std.proofs.Common.{sym, ap, ap₂, ◌∙◌}
use Rattle.std.proofs.lemmas.Bool.{or_from}
use Rattle.view.specs.View.{grid_of}
use Rattle.view.proofs.Views.{unheard}
use Rattle.judge.specs.Judging.{judge_cells, judge_row}
use Rattle.judge.proofs.Unheard.{nothing_kept}
use Rattle.judge.proofs.judge_row.Goals as goal

pub returns-then-grid_heard : goal.returns-then-grid_heard
unfolding judge_row
returns-then-grid_heard c =
    let s = c.args in
    c.judge_grid.ensures ∙ ap (judge_cells s.site (grid_of s.halves.cells.now s.halves.even s.halves.odd)) c.far_view-far.ensures

pub returns-then-even : goal.returns-then-even
unfolding judge_row
returns-then-even c =
    let s = c.args in
    c.judge_far.ensures (grid_of s.halves.cells.now s.halves.even s.halves.odd) (unheard _ (sym c.grid_heard.ensures ∙ c.if-grid_heard.false))
    ∙ ap (judge_cells s.site (grid_of s.halves.cells.now s.halves.even s.halves.odd)) c.far_view-far.ensures

pub returns : goal.returns
returns c = let s = c.args in nothing_kept s.site s.halves.cells.now s.halves.even s.halves.odd (or_from s.halves.even s.halves.odd c.if-even.false c.if-odd.false)
