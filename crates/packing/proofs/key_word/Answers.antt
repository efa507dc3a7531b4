-- Eight of the key's bytes are bytes (`eight_bytes`).
use Rattle.packing.proofs.Keys.{eight_bytes}
use Rattle.std.proofs.Common.{rules}
use Rattle.packing.proofs.key_word.Goals as goal

pub returns : goal.returns
returns c = (c.word_at.ensures.0, (eight_bytes c.args.key c.args.i c.word_at.ensures.1, search rules))
