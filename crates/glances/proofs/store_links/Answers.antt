-- Two words in place of the links (`links_stored`).
use Rattle.glances.proofs.Stores.{links_stored}
use Rattle.std.proofs.Common.{rules}
use Rattle.glances.proofs.store_links.Goals as goal

pub returns : goal.returns
returns c = search (links_stored, rules)
