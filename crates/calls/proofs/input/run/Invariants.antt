-- The turns since the first, and what they have written; what is lent keeps its room, and stays the same.
use Rattle.std.proofs.Common.{◌≡◌, true}
use Rattle.lines.specs.Streams.{held_by, sink_failed}
use Rattle.lending.specs.Lendings.{Room}
use Rattle.lending.specs.Same.{SameLent}
use Rattle.calls.specs.Turns.{held}
use Rattle.calls.specs.Same.{SameList, SameOut}
use Rattle.calls.proofs.Came.{Going}
use Rattle.calls.proofs.input.run.Given as goal

abbrev pub invariant-loop : goal.invariant-loop
invariant-loop g l =
    Going (held l.initial.list l.initial.w l.initial.out) (held l.list l.w l.out) (held_by g.W.Write.contents l.initial.out.to.now) (held_by g.W.Write.contents l.out.to.now) (sink_failed l.out.to.now)
    × Room l.w.rows.now l.w.cells.now
    × (sink_failed l.initial.out.to.now ≡ true → l.out.to.now ≡ l.initial.out.to.now)
    × (SameList l.initial.list l.list × SameLent l.initial.w l.w × SameOut l.initial.out l.out)
