-- The row that was found is freed, as the definition's take-out frees it (`take_so`).
use Rattle.std.proofs.Common.{Ok}
use Rattle.receiver.specs.Calls.{take_out}
use Rattle.moves.proofs.Looked.{held_room}
use Rattle.moves.proofs.Entries.{take_so}
use Rattle.lent.proofs.Laws.{accepts}
use Rattle.lent.proofs.Exit.{told_call}
use Rattle.lent.proofs.take_out.Goals as goal

pub free-requires : goal.free-requires
free-requires g c =
    let a = c.args in
    held_room (g.W.Lent.rows_in a.rows.now) a.cells.now a.ends.now c.from-e.result a.key c.look_up.result c.from-e.ensures c.look_up.ensures c.in_ok-i.i c.in_ok-i.was

pub returns : goal.returns
returns g c =
    let a = c.args in
    let f = c.free in
    told_call g.met.W.Lent.leaves _ _ _ f.new.ends f.result (accepts _ _ f.ensures.0) _ _ take_out
    (take_so (g.W.Lent.rows_in a.rows.now) a.cells.now a.ends.now c.from-e.result a.key c.look_up.result c.from-e.ensures c.look_up.ensures (Ok c.in_ok-i.i) c.in_ok-i.was _ _ f.new.ends f.result f.ensures)
