-- By the site and the verdict (`part_told`).
use Rattle.glances.proofs.Places.{part_told}
use Rattle.std.proofs.Common.{rules}
use Rattle.glances.proofs.sound_at.Goals as goal

pub returns-then-site_sound : goal.returns-then-site_sound
returns-then-site_sound c = part_told c.args.words.now _ (search rules)

pub returns-else-site_sound : goal.returns-else-site_sound
returns-else-site_sound c = part_told c.args.words.now _ (search rules)
