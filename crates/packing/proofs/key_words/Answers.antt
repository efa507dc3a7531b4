-- Four words of eight bytes each.
use Rattle.packing.proofs.Keys.{key_puts}
use Rattle.std.proofs.Common.{rules}
use Rattle.packing.proofs.key_words.Goals as goal

pub returns : goal.returns
returns c = (key_puts c.args.key _ _ _ _ c.word_at.ensures.0 c.word_at-2.ensures.0 c.word_at-3.ensures.0 c.word_at-4.ensures.0, record { long = search rules; bytes = c.word_at.ensures.1 })
