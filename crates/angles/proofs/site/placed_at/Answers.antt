-- Both below 100,000,000 mm is a cell; otherwise the bin.
use Rattle.std.proofs.Common.{◌∙◌}
use Rattle.angles.proofs.Placing.{near_cell, far_north, far_east}
use Rattle.angles.proofs.site.placed_at.Goals as goal
use Rattle.angles.proofs.site.placed_at.Goals.{then-e-lt100000000+then-n-lt100000000, else-e-lt100000000, else-e-lt100000000-via-then-e-lt100000000+else-n-lt100000000, else-e-lt100000000-via-else-e-lt100000000}

pub returns : goal.returns
returns c =
    elim c.if-e-lt100000000.branch [
      | then-e-lt100000000+then-n-lt100000000 w ↦
          w.number-is
          ∙ near_cell _ _ _ _ _ _ _ _ _ c.cos_lat-c1.ensures c.to_east-e.ensures c.to_mm-n.ensures w.if-e-lt100000000.true w.if-n-lt100000000.true w.column_of-row.ensures.0 w.column_of-column.ensures.0
      | else-e-lt100000000 w ↦ w.number-is ∙ (elim w.else-e-lt100000000.branch [
        | else-e-lt100000000-via-then-e-lt100000000+else-n-lt100000000 v ↦
            far_north _ _ _ _ _ _ _ _ _ c.cos_lat-c1.ensures c.to_east-e.ensures c.to_mm-n.ensures v.if-e-lt100000000.true v.if-n-lt100000000.false w.far_bin.ensures.0
        | else-e-lt100000000-via-else-e-lt100000000 v ↦
            far_east _ _ _ _ _ _ _ _ _ c.cos_lat-c1.ensures c.to_east-e.ensures c.to_mm-n.ensures v.if-e-lt100000000.false w.far_bin.ensures.0
      ])
    ]
