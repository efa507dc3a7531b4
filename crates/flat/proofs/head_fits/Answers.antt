-- The tests are the definition's but for those of words that are in range by their type (`head_told`).
use Rattle.flat.proofs.Opening.{head_told}
use Rattle.std.proofs.Common.{rules}
use Rattle.flat.proofs.head_fits.Goals as goal

pub returns-then-links_fit : goal.returns-then-links_fit
returns-then-links_fit c = head_told _ c.type_inv.words _ (search rules)

pub returns-else-links_fit : goal.returns-else-links_fit
returns-else-links_fit c = head_told _ c.type_inv.words _ (search rules)
