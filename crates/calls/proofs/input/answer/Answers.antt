-- The line's answer stands whole in the buffer, and a tick's behind it.
use Rattle.calls.proofs.Came.{answered_is}
use Rattle.calls.proofs.input.answer.Goals as goal

pub returns-clause-answered : goal.returns-clause-answered
returns-clause-answered g c =
    let o = c.args.out.now in
    let w = c.args.w.now in
    let v = c.tell-reply.new.w in
    let kept = c.room.ensures.kept in
    answered_is c.args.line c.args.bytes.now o.lines w.size w.rows.now w.cells.now w.ends.now o.text.out.now o.text.n v.size v.rows.now v.cells.now v.ends.now _ _ _ c.tell-reply.result c.read-asked.result
    c.read-asked.ensures c.tell-reply.ensures.comes c.room.ensures.left o.large (rw (kept.0, kept.1) at c.put_reply.ensures.put) c.tick.ensures.put
