-- Sound without a verdict or a distance, else by its distance (`verdict_told`).
use Rattle.glances.proofs.Places.{verdict_told}
use Rattle.std.proofs.Common.{rules}
use Rattle.glances.proofs.verdict_sound.Goals as goal

pub returns-then-words-eq0-2 : goal.returns-then-words-eq0-2
returns-then-words-eq0-2 c = verdict_told c.args.words.now _ (search rules)

pub returns-else-words-eq0-2 : goal.returns-else-words-eq0-2
returns-else-words-eq0-2 c = verdict_told c.args.words.now _ (search rules)
