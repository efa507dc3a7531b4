-- Question 1 by the sizes; else both scans, of the used chain and of the free one, tell.
use Rattle.std.proofs.Common.{refl}
use Rattle.chains.proofs.Laws.{look_not, look_fits}
use Rattle.chains.proofs.look_up.Goals as goal

pub returns-then-not-sizes_fit : goal.returns-then-not-sizes_fit
returns-then-not-sizes_fit g c =
    look_not (g.W.Lent.rows_in c.args.rows.now) c.args.m _ c.args.e c.args.key _ _ c.count-n.ensures c.sizes_fit.ensures c.if-not-sizes_fit.true refl

pub returns : goal.returns
returns g c =
    look_fits (g.W.Lent.rows_in c.args.rows.now) c.args.m _ c.args.e c.args.key _ _ c.count-n.ensures c.sizes_fit.ensures _ _ _ _ c.if-not-sizes_fit.false
    c.used_start.ensures c.scan-used.ensures c.free_start.ensures c.scan-free.ensures c.look_of.ensures
