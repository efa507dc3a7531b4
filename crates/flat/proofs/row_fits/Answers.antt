-- Head, numbers and verdict are the definition's (`fits_by_parts`).
use Rattle.flat.proofs.Opening.{fits_by_parts}
use Rattle.std.proofs.Common.{rules}
use Rattle.flat.proofs.row_fits.Goals as goal

pub returns-then-numbers_fit : goal.returns-then-numbers_fit
returns-then-numbers_fit c = fits_by_parts c.args.words.now _ (search rules)

pub returns-else-numbers_fit : goal.returns-else-numbers_fit
returns-else-numbers_fit c = fits_by_parts c.args.words.now _ (search rules)
