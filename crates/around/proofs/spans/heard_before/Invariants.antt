-- After i cells the array is the table of the counts before each of the first i + 1, and n the last of them.
use Rattle.std.proofs.Common.{◌≡◌, ◌+◌, ◌≤◌, ℕ, length, take}
use Rattle.cells.specs.Passes.{how_many, table}
use Rattle.around.specs.Marks.{occ}
use Rattle.around.proofs.spans.heard_before.Given as goal

abbrev pub invariant-loop-i : goal.invariant-loop-i
invariant-loop-i l = record {
  full : length l.heard ≡ 1601;
  count : l.n ≡ how_many (occ l.grid) l.i;
  bound : l.n ≤ l.i;
  filled : take (l.i + 1) l.heard ≡ table (λ (j : ℕ). how_many (occ l.grid) j) (l.i + 1);
}
