-- A key's four words give it back (`key_back`).
use Rattle.packing.specs.Words.{key_words, key_of}
use Rattle.packing.proofs.Keys.{key_back}
use Rattle.std.proofs.Common.{ap, sym, ◌∙◌, append-nil}
use Rattle.glances.proofs.words_of.Goals as goal

pub returns : goal.returns
returns c = let e = c.key_words.ensures in ap key_of (e.0 ∙ sym (append-nil (key_words c.args.key))) ∙ key_back c.args.key _ e.1
