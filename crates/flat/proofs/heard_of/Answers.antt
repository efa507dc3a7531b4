-- Each field is read from its words (`heard_is`).
use Rattle.flat.proofs.Opening.{heard_is}
use Rattle.flat.proofs.heard_of.Goals as goal

pub returns : goal.returns
returns c = heard_is _ c.told-words _ _ _ _ c.from_words.ensures c.from_word.ensures c.from_words-2.ensures c.from_words-3.ensures
