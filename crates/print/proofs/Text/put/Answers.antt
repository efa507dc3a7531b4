-- The bytes stand at the place where they fit whole. Where they do not fit nothing is written.
use Rattle.std.proofs.Common.{rules, refl, arith}
use Rattle.print.proofs.Printing.{put_fits, put_not, adds_put}
use Rattle.print.proofs.Text.put.Goals as goal

pub returns-then-at-self-clause-put : goal.returns-then-at-self-clause-put
returns-then-at-self-clause-put c = let t = c.args.self.now in put_not t.out.now t.n c.args.s.now (omega arith)

pub returns-then-at-self-clause-adds : goal.returns-then-at-self-clause-adds
returns-then-at-self-clause-adds c =
    let t = c.args.self.now in
    adds_put t t c.args.s.now (put_not t.out.now t.n c.args.s.now (omega arith)) (refl, refl)

pub returns-clause-put : goal.returns-clause-put
returns-clause-put c = let t = c.args.self.now in put_fits t.out.now t.n c.args.s.now _ (omega arith) c.copy_from_slice.ensures.after

pub returns-clause-adds : goal.returns-clause-adds
returns-clause-adds c =
    let t = c.args.self.now in
    adds_put t _ c.args.s.now (put_fits t.out.now t.n c.args.s.now _ (omega arith) c.copy_from_slice.ensures.after) (search rules)
