-- The two sides of the test: what waits is written, or nothing is.
use Rattle.std.proofs.Common.{subst}
use Rattle.std.specs.Io.KnownBytes.{Appends}
use Rattle.std.proofs.KnownBytes.{Appends-nil}
use Rattle.calls.proofs.Came.{room_full, room_left, written_full, written_none}
use Rattle.calls.proofs.output.Output.room.Goals as goal

pub returns-then-self-gt61000-clause-left : goal.returns-then-self-gt61000-clause-left
returns-then-self-gt61000-clause-left g c = room_full c.args.self.now.text.n c.if-self-gt61000.true

pub returns-then-self-gt61000-clause-written : goal.returns-then-self-gt61000-clause-written
returns-then-self-gt61000-clause-written g c =
    λ sound. subst (Appends _ _) (written_full c.args.self.now.text.out.now c.args.self.now.text.n c.if-self-gt61000.true) (c.flush.ensures.written sound)

pub returns-else-self-gt61000-clause-left : goal.returns-else-self-gt61000-clause-left
returns-else-self-gt61000-clause-left g c = room_left c.args.self.now.text.n c.if-self-gt61000.false

pub returns-else-self-gt61000-clause-written : goal.returns-else-self-gt61000-clause-written
returns-else-self-gt61000-clause-written g c =
    λ sound. subst (Appends _ _) (written_none c.args.self.now.text.out.now c.args.self.now.text.n c.if-self-gt61000.false) (Appends-nil _)
