-- In order: each answer is a law of Judged, told by the tests that came before it.
use Rattle.std.proofs.Common.{◌≡◌, ◌<◌, ℕ, arith, sym, ap, ◌∙◌}
use Rattle.near_field.specs.Near.{best_or_none}
use Rattle.near_field.proofs.Judged.{nf_fits, nf_four, nf_inside, nf_hole, nf_rest, no_best, a_best}
use Rattle.near_field.proofs.near.near_field_by.Goals as goal

pub returns-then-s-ge5 : goal.returns-then-s-ge5
returns-then-s-ge5 c = let s = c.args in nf_fits s.scale s.grid.now _ _ c.around.ensures c.sectors-s.ensures.0 s.outside c.if-s-ge5.true

pub returns-then-s-gt3 : goal.returns-then-s-gt3
returns-then-s-gt3 c = let s = c.args in nf_four s.scale s.grid.now _ _ c.around.ensures c.sectors-s.ensures.0 s.outside c.if-s-ge5.false c.if-s-gt3.true

pub returns-then-not-outside : goal.returns-then-not-outside
returns-then-not-outside c =
    let s = c.args in
    nf_inside s.scale s.grid.now _ _ c.around.ensures c.sectors-s.ensures.0 s.outside c.if-s-ge5.false c.if-s-gt3.false c.if-not-outside.true

pub returns-then-no_hole : goal.returns-then-no_hole
returns-then-no_hole c =
    let s = c.args in
    nf_hole s.scale s.grid.now _ _ c.around.ensures c.sectors-s.ensures.0 s.outside c.if-s-ge5.false c.if-s-gt3.false c.if-not-outside.false
    (sym c.no_hole.ensures ∙ c.if-no_hole.true)

-- a cell below 1,600 is not 1,600
below : (b : ℕ) → b < 1600 → b ≡ 1600 → ⊥
below b l e = omega arith

pub returns-in-None : goal.returns-in-None
returns-in-None c =
    let s = c.args in
    no_best s.scale s.grid.now _ (sym c.in-None.ensures.0)
    ∙ nf_rest s.scale s.grid.now _ _ c.around.ensures c.sectors-s.ensures.0 s.outside c.if-s-ge5.false c.if-s-gt3.false c.if-not-outside.false
    (sym c.no_hole.ensures ∙ c.if-no_hole.false)

pub returns-in-Some : goal.returns-in-Some
returns-in-Some c =
    let s = c.args in
    c.found_at.ensures ∙ a_best s.scale s.grid.now _ (below _ c.in-Some.ensures.1) ∙ ap (best_or_none s.scale s.grid.now) c.in-Some.ensures.0
    ∙ nf_rest s.scale s.grid.now _ _ c.around.ensures c.sectors-s.ensures.0 s.outside c.if-s-ge5.false c.if-s-gt3.false c.if-not-outside.false
    (sym c.no_hole.ensures ∙ c.if-no_hole.false)
