-- The two words are the row's links (`links_are`).
use Rattle.flat.specs.Words.{row_of}
use Rattle.glances.proofs.Places.{links_are}
use Rattle.std.proofs.Common.{rules}
use Rattle.glances.proofs.links_of.Goals as goal

pub returns : goal.returns
unfolding row_of
returns c = search (links_are, rules)
