-- A number that is no row's does not fit, and a row's number as its words do.
use Rattle.glances.proofs.Places.{fits_not, fits_is}
use Rattle.glances.proofs.fits_at.Goals as goal

pub returns-then-outside : goal.returns-then-outside
returns-then-outside c = fits_not _ _ _ c.outside.ensures c.if-outside.true

pub returns : goal.returns
returns c = fits_is _ _ _ c.outside.ensures _ _ c.if-outside.false c.words_at.ensures c.row_fits.ensures
