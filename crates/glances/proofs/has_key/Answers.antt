-- Keys are the same where their four words are (`same_by_words`).
use Rattle.glances.proofs.Keys.{same_by_words}
use Rattle.std.proofs.Common.{rules}
use Rattle.glances.proofs.has_key.Goals as goal

pub returns-then-key-words-3 : goal.returns-then-key-words-3
returns-then-key-words-3 c = same_by_words _ _ (λ i. (c.type_inv.key i).fits) (λ i. (c.type_inv.words i).fits) _ (search rules)

pub returns-else-key-words-3 : goal.returns-else-key-words-3
returns-else-key-words-3 c = same_by_words _ _ (λ i. (c.type_inv.key i).fits) (λ i. (c.type_inv.words i).fits) _ (search rules)
