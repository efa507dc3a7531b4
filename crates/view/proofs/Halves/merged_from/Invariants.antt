-- The array filled so far is the table of the merged cells.
use Rattle.std.proofs.Common.{ℕ, ◌≡◌, ◌+◌, length, take}
use Rattle.cells.specs.Passes.{table}
use Rattle.view.specs.View.{merged_at}
use Rattle.view.proofs.Halves.merged_from.Given as goal

abbrev pub invariant-loop-i : goal.invariant-loop-i
invariant-loop-i g l = record {
  full : length l.merged ≡ g.row.N;
  filled : take l.i l.merged ≡ table (λ (j : ℕ). merged_at l.self.cells.now l.self.even l.self.odd (l.start + j)) l.i;
}
