-- `turns::turn` meets its contract: an accepted tick's marks tell the used rows, and its pass gives their keys.
use Rattle.std.proofs.Common.{refl, sym, ◌∙◌}
use Rattle.turns.proofs.Entry.{few, room, first_row, turn_passes}
use Rattle.turns.proofs.turn.Goals as goal

pub mark_used-requires : goal.mark_used-requires
mark_used-requires g c =
    let args = c.args in
    let e = c.from-e in
    let l = c.look_up-look in
    let o = c.in_ok-claimable in (
      c.count-n.ensures,
      few (g.W.Lent.rows_in args.rows.now) args.cells.now args.ends.now e.result c.zero_key.result l.result e.ensures l.ensures args.next args.k args.list.now o.field-0 c.count-n.result (sym c.claimable.ensures ∙ o.was) c.count-n.ensures,
    )

pub pass-requires : goal.pass-requires
pass-requires g c =
    let args = c.args in
    let rows = g.W.Lent.rows_in args.rows.now in
    let e = c.from-e in
    let l = c.look_up-look in
    let o = c.in_ok-claimable in (
      few rows args.cells.now args.ends.now e.result c.zero_key.result l.result e.ensures l.ensures args.next args.k args.list.now o.field-0 c.count-n.result (sym c.claimable.ensures ∙ o.was) c.count-n.ensures,
      first_row rows args.cells.now args.ends.now e.result c.zero_key.result l.result e.ensures l.ensures args.next args.k args.list.now o.field-0 c.count-n.result (sym c.claimable.ensures ∙ o.was) c.count-n.ensures
          c.may_turn.result c.may_turn.ensures c.if-not-may_turn.false c.start.result c.start.ensures,
      room rows args.cells.now args.ends.now e.result c.zero_key.result l.result e.ensures l.ensures args.next args.k args.list.now o.field-0 c.count-n.result (sym c.claimable.ensures ∙ o.was) c.count-n.ensures
          c.may_turn.result c.may_turn.ensures c.if-not-may_turn.false,
    )

pub returns : goal.returns
returns g c =
    let args = c.args in
    let e = c.from-e in
    let l = c.look_up-look in
    let o = c.in_ok-claimable in
    turn_passes (g.W.Lent.rows_in args.rows.now) args.cells.now args.ends.now e.result c.zero_key.result l.result e.ensures l.ensures args.next args.k args.list.now o.field-0 c.count-n.result (sym c.claimable.ensures ∙ o.was) c.count-n.ensures
    c.may_turn.result c.may_turn.ensures c.if-not-may_turn.false e.result.head c.start.result _ _ refl c.mark_used.ensures c.start.ensures c.pass.ensures
