-- The row of what its fields are read as (`row_is_lem`).
use Rattle.flat.proofs.Opening.{row_is_lem}
use Rattle.flat.proofs.row_of.Goals as goal

pub returns : goal.returns
returns c = row_is_lem _ c.told-words _ _ _ _ _ _ c.key_at.ensures c.heard_of.ensures c.from_words.ensures c.from_words-2.ensures c.from_word.ensures c.from_word-2.ensures
