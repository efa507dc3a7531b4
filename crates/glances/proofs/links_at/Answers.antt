-- Where all words of the row fit, its links are read from them; else it has none.
use Rattle.glances.proofs.Places.{fit_in, links_seen, unlinked}
use Rattle.glances.proofs.links_at.Goals as goal

pub words_at-requires : goal.words_at-requires
words_at-requires c = fit_in _ _ _ c.fits_at.ensures c.if-fits_at.true

pub returns-then-fits_at : goal.returns-then-fits_at
returns-then-fits_at c = links_seen _ _ _ c.fits_at.ensures _ _ c.if-fits_at.true c.words_at.ensures c.links_of.ensures

pub returns : goal.returns
returns c = unlinked _ _ _ c.fits_at.ensures _ c.if-fits_at.false c.no_row-none.ensures
