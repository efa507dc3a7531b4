-- After i cells n is how many of the first i lie within the bound.
use Rattle.std.proofs.Common.{◌≡◌, ◌≤◌, ℕ}
use Rattle.std.specs.Prelude.{◌&&◌, leb}
use Rattle.cells.specs.Passes.{how_many}
use Rattle.plane.specs.Plane.{from_site}
use Rattle.around.specs.Marks.{occ}
use Rattle.near_field.proofs.near.cells_within.Given as goal

abbrev pub invariant-loop-i : goal.invariant-loop-i
invariant-loop-i l = record { count : l.n ≡ how_many (λ (k : ℕ). occ l.grid k && leb (from_site k) l.bound) l.i; bounded : l.n ≤ l.i }
