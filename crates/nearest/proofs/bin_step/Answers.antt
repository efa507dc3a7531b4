-- The table of the nine bands is right (`band_steps`).
use Rattle.nearest.proofs.Steps.{bin_below, bands, band_steps}
use Rattle.nearest.proofs.bin_step.Goals as goal

pub returns : goal.returns
unfolding bands
returns c = let e = band_steps c.args.j in (e, rw e (bin_below c.args.j))
