-- The nine bins of the sector (`nine_heard`).
use Rattle.std.proofs.Common.{◌∙◌, refl, arith}
use Rattle.outside.proofs.Heard.{nine_heard}
use Rattle.outside.proofs.bin_heard.Goals as goal

pub returns : goal.returns
returns c = c.heard_among.ensures ∙ nine_heard c.args.bins.now c.args.sector.k _ refl (omega arith) c.told-bins
