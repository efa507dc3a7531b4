-- Tag 0 is no site; of any other the degrees are tested (`site_told`).
use Rattle.glances.proofs.Places.{site_told}
use Rattle.std.proofs.Common.{rules}
use Rattle.glances.proofs.site_sound.Goals as goal

pub returns-then-words-eq0 : goal.returns-then-words-eq0
returns-then-words-eq0 c = site_told c.args.words.now _ (search rules)

pub returns-else-words-eq0 : goal.returns-else-words-eq0
returns-else-words-eq0 c = site_told c.args.words.now _ (search rules)
