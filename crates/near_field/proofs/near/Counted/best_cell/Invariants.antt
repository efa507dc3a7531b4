-- After i cells `best` is the best of the first i, and `most` the cells around it, 0 where there is none.
use Rattle.std.proofs.Common.{◌≡◌, ◌<◌, unwrap_or, IfSome}
use Rattle.near_field.specs.Near.{best_of}
use Rattle.near_field.proofs.Found.{most}
use Rattle.near_field.proofs.near.Counted.best_cell.Given as goal

abbrev pub invariant-loop-i : goal.invariant-loop-i
invariant-loop-i l = record {
  at : unwrap_or l.best 1600 ≡ best_of l.self.grid.now l.i;
  cells : l.most ≡ most l.self.grid.now (unwrap_or l.best 1600);
  below : IfSome l.best (λ k. k < 1600);
}
