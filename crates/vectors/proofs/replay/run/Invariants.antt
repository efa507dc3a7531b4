-- So many turns were made as are counted; after an error nothing more is read or written. The field keeps the buffer that it was lent.
use Rattle.std.proofs.Common.{◌≡◌, true, length}
use Rattle.lines.specs.Streams.{source_failed, sink_failed}
use Rattle.vectors.specs.Replays.{nothing_done}
use Rattle.vectors.specs.Runs.{view_of, Turns}
use Rattle.vectors.proofs.replay.run.Given as goal

abbrev pub invariant-loop-turn : goal.invariant-loop-turn
invariant-loop-turn g l = record {
  turns : Turns l.turn (view_of g.R.Read.remaining g.W.Write.contents l.fn.list.input l.fn.list.buf.now l.fn.list.source l.fn.to nothing_done)
      (view_of g.R.Read.remaining g.W.Write.contents l.list.input l.list.buf.now l.list.source l.to l.done);
  source : source_failed l.fn.list.source ≡ true → l.list.source ≡ l.fn.list.source;
  sink : sink_failed l.fn.to ≡ true → l.to ≡ l.fn.to;
  buffer : (l.list.buf.ghost_name ≡ l.fn.list.buf.ghost_name) × (length l.list.buf.now ≡ length l.fn.list.buf.now);
}
