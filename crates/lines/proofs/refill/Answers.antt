-- The bytes that are kept stand at the front of the buffer, and what the source gave behind them.
use Rattle.std.proofs.Common.{refl, arith}
use Rattle.lines.proofs.Waiting.{read_last, read_more}
use Rattle.lines.proofs.refill.Goals as goal

pub returns-then-came-eq0-clause-came : goal.returns-then-came-eq0-clause-came
returns-then-came-eq0-clause-came g c =
    let k = c.kept-k in
    read_last c.args.s c.args.buf.now c.read-came.new.buf _ k.ensures.0 c.to_front-left.ensures k.ensures.1 (omega arith) refl c.if-came-eq0.true c.read-came.ensures.bytes

pub returns-clause-came : goal.returns-clause-came
returns-clause-came g c =
    let k = c.kept-k in
    read_more c.args.s c.args.buf.now c.read-came.new.buf _ k.ensures.0 c.to_front-left.ensures k.ensures.1 (omega arith) refl c.read-came.ensures.within c.read-came.ensures.bytes
