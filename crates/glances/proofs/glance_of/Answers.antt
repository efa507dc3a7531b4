-- Links, soundness and key are the row's that the words are (`glance_is`).
use Rattle.flat.specs.Words.{row_of}
use Rattle.glances.proofs.Places.{glance_is}
use Rattle.std.proofs.Common.{rules}
use Rattle.glances.proofs.glance_of.Goals as goal

pub returns : goal.returns
unfolding row_of
returns c = search (glance_is, rules)
