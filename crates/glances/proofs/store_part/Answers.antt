-- The part's words in place of the old ones (`part_stored`).
use Rattle.glances.proofs.Stores.{part_stored}
use Rattle.std.proofs.Common.{rules}
use Rattle.glances.proofs.store_part.Goals as goal

pub returns : goal.returns
returns c = search (part_stored, rules)
