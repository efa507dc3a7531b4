-- The first of the used chain is freed, as the definition's drop-oldest frees it (`drop_so`).
use Rattle.std.proofs.Common.{sym, ◌∙◌, Ok}
use Rattle.moves.proofs.Looked.{claim_passed, head_room}
use Rattle.moves.proofs.Entries.{oldest_is, drop_so}
use Rattle.lent.proofs.Laws.{accepts}
use Rattle.lent.proofs.Exit.{told_drop}
use Rattle.lent.proofs.drop_oldest.Goals as goal

pub free-requires : goal.free-requires
free-requires g c =
    let a = c.args in
    let e = c.from-e in
    let l = c.look_up-look in
    let o = c.in_ok-claimable in
    let pass = claim_passed (g.W.Lent.rows_in a.rows.now) a.cells.now a.ends.now e.result c.zero_key.result l.result e.ensures l.ensures o.field-0 (sym c.claimable.ensures ∙ o.was) in
    head_room (g.W.Lent.rows_in a.rows.now) a.cells.now a.ends.now e.result c.zero_key.result l.result e.ensures l.ensures pass (sym c.is_none.ensures ∙ c.if-is_none.false)

pub returns : goal.returns
returns g c =
    let a = c.args in
    let e = c.from-e in
    let l = c.look_up-look in
    let o = c.in_ok-claimable in
    let f = c.free in
    let xs = g.W.Lent.rows_in a.rows.now in
    let used = oldest_is xs a.cells.now a.ends.now e.result c.zero_key.result l.result e.ensures l.ensures o.field-0 (sym c.claimable.ensures ∙ o.was) (sym c.is_none.ensures ∙ c.if-is_none.false) in
    told_drop g.met.W.Lent.leaves _ _ _ f.new.ends f.result (accepts _ _ f.ensures.0) _
    (drop_so xs a.cells.now a.ends.now e.result c.zero_key.result l.result e.ensures l.ensures (Ok e.result.head) used _ _ f.new.ends f.result f.ensures)
