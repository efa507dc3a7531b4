-- Both halves, from 0 on.
use Rattle.std.proofs.Common.{◌∙◌}
use Rattle.view.proofs.Views.{grid_is}
use Rattle.view.proofs.Halves.grid_view.Goals as goal

pub returns : goal.returns
returns c = c.merged_from.ensures ∙ grid_is c.args.self.cells.now c.args.self.even c.args.self.odd
