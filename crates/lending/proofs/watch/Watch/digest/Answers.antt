-- The first 25 × C words are C rows.
use Rattle.std.proofs.Common.{◌*◌, refl}
use Rattle.lending.proofs.Walking.{rows_count}
use Rattle.lending.proofs.watch.Watch.digest.Goals as goal

pub of_all-requires : goal.of_all-requires
of_all-requires c = let w = c.args.self.now in rw c.rows_in_use.ensures (rows_count w.size.rows (25 * w.size.rows) w.rows.now refl w.fits.0)
