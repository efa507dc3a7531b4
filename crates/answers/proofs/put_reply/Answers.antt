-- The whole answer where 128 bytes are free, else nothing.
use Rattle.std.proofs.Common.{arith}
use Rattle.answers.proofs.Writing.{adds_there}
use Rattle.answers.proofs.Telling.{told_none, told_whole}
use Rattle.answers.proofs.put_reply.Goals as goal

pub returns-then-free-lt128-clause-put : goal.returns-then-free-lt128-clause-put
returns-then-free-lt128-clause-put c = told_none _ _ _ (omega arith)

pub returns-clause-put : goal.returns-clause-put
returns-clause-put c = told_whole _ _ _ _ _ c.put_text.ensures (omega arith)

pub returns-clause-buffer : goal.returns-clause-buffer
returns-clause-buffer c = adds_there _ _ _ c.put_text.ensures
