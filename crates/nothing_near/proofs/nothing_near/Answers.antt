-- Each return is one law of `nothing_near`.
use Rattle.std.proofs.Common.{◌∙◌, arith}
use Rattle.nearest.proofs.Two.{cells_nearest, bins_nearest}
use Rattle.nearest.proofs.Answers.{few_positions, some_near, is_off}
use Rattle.nothing_near.proofs.nothing_near.Goals as goal

pub returns-then-total-lt60 : goal.returns-then-total-lt60
returns-then-total-lt60 c = few_positions c.args.m.grid.now c.args.m.far _ c.positions_heard-total.ensures.0 c.if-total-lt60.true

pub returns-then-third_is_near : goal.returns-then-third_is_near
returns-then-third_is_near c =
    some_near c.args.m.grid.now c.args.m.far _ c.positions_heard-total.ensures.0 c.if-total-lt60.false _ c.third_is_near.ensures c.if-third_is_near.true

pub steps_from_third-k-requires : goal.steps_from_third-k-requires
steps_from_third-k-requires c =
    let m = c.args.m in (
      m.grid.now,
      m.far,
      (
        c.with_bins.ensures _ c.cell_steps.ensures,
        c.positions_heard-total.ensures.0,
        c.nearest_bins-near.ensures ∙ bins_nearest m.grid.now m.far _ (c.nearest_cells.ensures ∙ cells_nearest m.grid.now m.far),
        omega (arith, c.if-total-lt60.false),
      ),
    )

pub returns : goal.returns
returns c =
    let m = c.args.m in
    is_off m.grid.now m.far _ c.positions_heard-total.ensures.0 c.if-total-lt60.false _ c.third_is_near.ensures c.if-third_is_near.false _ _
    (c.steps_from_third-k.ensures.0 _ _ (
      c.with_bins.ensures _ c.cell_steps.ensures,
      c.positions_heard-total.ensures.0,
      c.nearest_bins-near.ensures ∙ bins_nearest m.grid.now m.far _ (c.nearest_cells.ensures ∙ cells_nearest m.grid.now m.far),
      omega (arith, c.if-total-lt60.false),
    ))
    c.steps_km.ensures
