-- A row of the table where the first word is `count`, and nothing of any other line.
use Rattle.std.proofs.Common.{subst}
use Rattle.std.specs.Io.KnownBytes.{Appends}
use Rattle.std.proofs.KnownBytes.{Appends-nil}
use Rattle.vectors.specs.Replays.{word_count}
use Rattle.vectors.proofs.Replaying.{word_is, text_row, text_none}
use Rattle.vectors.proofs.write.show.Goals as goal

pub returns-then-eq-clause-written : goal.returns-then-eq-clause-written
returns-then-eq-clause-written g c =
    let word = word_is word_count c.first.ensures c.as_slice.ensures c.eq.ensures c.if-eq.true in
    let row = text_row c.args.c c.args.t.now word c.put_counts.ensures c.part.ensures c.bytes.ensures in
    λ sound. subst (Appends _ _) row (c.write.ensures.bytes sound)

pub returns-clause-written : goal.returns-clause-written
returns-clause-written g c =
    let word = word_is word_count c.first.ensures c.as_slice.ensures c.eq.ensures c.if-eq.false in
    let none = text_none c.args.c c.args.t.now word in
    λ sound. subst (Appends _ _) none (Appends-nil _)
