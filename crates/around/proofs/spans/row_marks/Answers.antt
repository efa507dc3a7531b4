-- A row north or south of the place has four spans, its own two; a law of Rows says what they mark.
use Rattle.std.proofs.Common.{ℕ, ◌+◌, ◌-◌, [], ◌∷◌, refl, ap, ◌∙◌, arith}
use Rattle.around.specs.Counts.{cut_at}
use Rattle.around.proofs.Rows.{four_spans, two_spans, north_marks, south_marks, level_marks}
use Rattle.around.proofs.spans.row_marks.Goals as goal

pub returns-then-y-cy : goal.returns-then-y-cy
returns-then-y-cy c =
    λ g eh em.
    let s = c.args in
    let p = s.at.place in
    four_spans _ _ _ _ _ _ p.x _ (p.x + c.reach-h.result + 1) _ _ _ _ _ (6 ∷ 7 ∷ 0 ∷ 1 ∷ []) c.spans.ensures c.saturating_sub-west.ensures
    (c.saturating_sub.ensures ∙ ap (λ (z : ℕ). p.x - z) c.min.ensures) refl (ap (λ (z : ℕ). p.x + z) c.min-then-y-cy.ensures) refl
    ∙ north_marks g p.x p.y s.row c.off-m.result c.reach-h.result p.in_grid.0 c.requires.0 c.off-m.ensures.0 c.reach-h.ensures
    s.heard.now eh s.at.alike s.marks c.if-y-cy.true em

pub returns-then-cy-y : goal.returns-then-cy-y
returns-then-cy-y c =
    λ g eh em.
    let s = c.args in
    let p = s.at.place in
    four_spans _ _ _ _ _ _ (p.x + 1) _ (p.x + c.reach-h.result + 1) _ _ _ _ _ (5 ∷ 4 ∷ 3 ∷ 2 ∷ []) c.spans-then-cy-y.ensures c.saturating_sub-west.ensures
    (c.saturating_sub-then-cy-y.ensures ∙ ap (λ (z : ℕ). p.x + 1 - z) c.min-then-cy-y.ensures) refl
    (ap (λ (z : ℕ). p.x + z + 1) c.min-then-cy-y-2.ensures) refl
    ∙ south_marks g p.x p.y s.row c.off-m.result c.reach-h.result p.in_grid.0 c.requires.0 c.off-m.ensures.0 c.reach-h.ensures
    s.heard.now eh s.at.alike s.marks c.if-cy-y.true em

pub returns : goal.returns
returns c =
    λ g eh em.
    let s = c.args in
    let p = s.at.place in
    two_spans _ _ _ _ _ _ _ _ _ _ _ _ _ _ c.span-a.ensures c.span.ensures
    (c.cut.ensures.0 ∙ ap (cut_at s.row) c.saturating_sub-west.ensures) c.cut-2.ensures.0 c.cut-3.ensures.0 c.cut-4.ensures.0
    ∙ level_marks g p.x p.y s.row c.off-m.result c.reach-h.result p.in_grid.0 c.requires.0 c.off-m.ensures.0 c.reach-h.ensures
    s.heard.now eh s.at.alike s.marks (omega arith) em
