-- The row is one of the slice's, so what stands behind its end does not matter (`get_or_default`).
use Rattle.std.proofs.Common.{refl}
use Rattle.std.proofs.lemmas.List.{get_or_default}
use Rattle.rows.specs.Links.{blank}
use Rattle.chains.proofs.RowLent.look_at.Goals as goal

pub returns : goal.returns
returns c = rw (c.part_fits.ensures, c.eq.ensures, get_or_default c.args.rows.now c.args.at _ blank c.requires) refl
