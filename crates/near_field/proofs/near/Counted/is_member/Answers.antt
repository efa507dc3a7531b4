-- A cell over 25 km away is no member; any other is one where it is found.
use Rattle.std.proofs.Common.{◌∙◌}
use Rattle.std.proofs.lemmas.Bool.{lt-leb}
use Rattle.plane.proofs.Same.{same_dist}
use Rattle.near_field.proofs.Found.{member_far, member_near}
use Rattle.near_field.proofs.near.Counted.is_member.Goals as goal

pub returns-else-d-le100 : goal.returns-else-d-le100
returns-else-d-le100 c =
    let s = c.args in
    lt-leb c.distance-d.result 100 c.if-d-le100.false
    ∙ member_far s.self.grid.now s.best.i s.at.i c.distance-d.result
    (c.distance-d.ensures.0 ∙ same_dist c.centre.ensures.0 c.centre.ensures.1 c.centre-2.ensures.0 c.centre-2.ensures.1) c.if-d-le100.false

pub returns-then-d-le100 : goal.returns-then-d-le100
returns-then-d-le100 c =
    let s = c.args in
    member_near s.self.grid.now s.best.i s.at.i c.distance-d.result _ _
    (c.distance-d.ensures.0 ∙ same_dist c.centre.ensures.0 c.centre.ensures.1 c.centre-2.ensures.0 c.centre-2.ensures.1) c.if-d-le100.true
    c.found_cells.ensures c.is_some.ensures
