-- Up to cell i so many cells are near, two at most.
use Rattle.std.proofs.Common.{◌≡◌, ◌≤◌}
use Rattle.cells.specs.Passes.{how_many}
use Rattle.nothing_near.proofs.Silent.{is_near}
use Rattle.nothing_near.proofs.near_cells.Given as goal

abbrev pub invariant-loop-i : goal.invariant-loop-i
invariant-loop-i l = record { count : l.n ≡ how_many (is_near l.grid) l.i; few : l.n ≤ 2 }
