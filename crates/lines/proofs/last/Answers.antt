-- The two tests are the definition's.
use Rattle.std.proofs.Common.{eq-eqb, ne_eqb}
use Rattle.lines.specs.Lines.{last_of}
use Rattle.lines.proofs.last.Goals as goal

pub returns-then-long : goal.returns-then-long
unfolding last_of
returns-then-long c = rw c.if-long.true

pub returns-then-have-eq0 : goal.returns-then-have-eq0
unfolding last_of
returns-then-have-eq0 c = rw (c.if-long.false, eq-eqb _ 0 c.if-have-eq0.true)

pub returns : goal.returns
unfolding last_of
returns c = rw (c.if-long.false, ne_eqb _ 0 c.if-have-eq0.false) c.whole.ensures
