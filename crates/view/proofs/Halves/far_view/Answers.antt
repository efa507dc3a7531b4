-- The bins, and their sum.
use Rattle.std.proofs.Common.{◌∙◌}
use Rattle.view.proofs.Views.{bins_is, far_is}
use Rattle.view.proofs.Halves.far_view.Goals as goal

pub returns : goal.returns
returns c =
    let s = c.args.self in
    far_is s.cells.now s.even s.odd _ _ (c.merged_from-bins.ensures ∙ bins_is s.cells.now s.even s.odd) c.positions_among.ensures.0
