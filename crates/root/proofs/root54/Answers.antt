-- `root54`: the digits that were put together are the root's, or one more (`proofs/Newton.antt`).
use Rattle.root.proofs.Newton.{one_less, root_lt}
use Rattle.root.proofs.root54.Goals as goal

pub returns-then-u-q : goal.returns-then-u-q
returns-then-u-q c =
    let p = c.args.p.n in
    let s = c.isqrt-s.result in
    let w = c.isqrt-s.ensures in
    let z = one_less p s c.args.p.low c.args.p.high w.square_le w.next_square_gt c.if-u-q.true in
    (z.0, z.1, root_lt p _ c.args.p.high z.0)
