-- The row's words are looked at as the row that they open as (`seen`, `seen_junk`).
use Rattle.glances.proofs.Places.{seen, seen_junk}
use Rattle.glances.proofs.look_at.Goals as goal

pub returns-then-row_fits : goal.returns-then-row_fits
returns-then-row_fits c = seen _ _ _ _ _ _ c.requires c.words_at-words.ensures c.row_fits.ensures c.if-row_fits.true c.glance_of.ensures

pub returns : goal.returns
returns c = seen_junk _ _ _ _ _ _ c.requires c.words_at-words.ensures c.row_fits.ensures c.if-row_fits.false c.junk_glance.ensures
