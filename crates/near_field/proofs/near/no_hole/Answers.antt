-- With fewer than three cells the third is missing; else it is under 6 half cells away where three are at most √35 away (`hole_many`).
use Rattle.std.proofs.Common.{◌∙◌}
use Rattle.std.proofs.lemmas.Bool.{lt-ltb}
use Rattle.near_field.proofs.Found.{all_counted, hole_many, hole_few}
use Rattle.near_field.proofs.near.no_hole.Goals as goal

pub returns-then-occupied_among-lt3 : goal.returns-then-occupied_among-lt3
returns-then-occupied_among-lt3 c =
    lt-ltb _ 3 c.if-occupied_among-lt3.true ∙ hole_few c.args.grid.now _ (all_counted _ _ c.told-grid c.occupied_among.ensures.0) c.if-occupied_among-lt3.true

pub returns-else-occupied_among-lt3 : goal.returns-else-occupied_among-lt3
returns-else-occupied_among-lt3 c =
    hole_many c.args.grid.now _ _ (all_counted _ _ c.told-grid c.occupied_among.ensures.0) c.if-occupied_among-lt3.false c.cells_within.ensures.0
