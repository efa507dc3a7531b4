-- What junk has: no links, an unsound part, a key of zeros (`glance_junk`).
use Rattle.packing.specs.Words.{key_of}
use Rattle.std.proofs.Common.{[], ◌∷◌, refl}
use Rattle.glances.proofs.Places.{glance_junk}
use Rattle.glances.proofs.junk_glance.Goals as goal

pub returns : goal.returns
returns c = glance_junk (key_of c.args.key.now) (0 ∷ 0 ∷ 0 ∷ 0 ∷ []) _ _ c.no_row-none.ensures refl c.has_key.ensures
