-- The test is the definition's.
use Rattle.std.proofs.Common.{lt-ltb, arith}
use Rattle.std.proofs.lemmas.Bool.{le-ltb}
use Rattle.lines.specs.Lines.{kept_of}
use Rattle.lines.proofs.kept.Goals as goal

pub returns-then-s-gt1024 : goal.returns-then-s-gt1024
unfolding kept_of
returns-then-s-gt1024 c = (rw (lt-ltb 1024 _ c.if-s-gt1024.true), omega arith, omega arith)

pub returns-else-s-gt1024 : goal.returns-else-s-gt1024
unfolding kept_of
returns-else-s-gt1024 c = (rw (le-ltb 1024 _ c.if-s-gt1024.false), omega arith, omega arith)
