-- The two tests are the definition's.
use Rattle.std.proofs.Common.{lt-ltb}
use Rattle.std.proofs.lemmas.Bool.{le-ltb}
use Rattle.lines.specs.Lines.{line_of}
use Rattle.lines.proofs.whole.Goals as goal

pub returns-then-long : goal.returns-then-long
unfolding line_of
returns-then-long c = rw c.if-long.true

pub returns-then-end-start-gt1024 : goal.returns-then-end-start-gt1024
unfolding line_of
returns-then-end-start-gt1024 c = rw (c.if-long.false, lt-ltb 1024 _ c.if-end-start-gt1024.true)

pub returns : goal.returns
unfolding line_of
returns c = rw (c.if-long.false, le-ltb 1024 _ c.if-end-start-gt1024.false)
