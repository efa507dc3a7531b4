-- The sum with 100,000,000 is not negative, and what 64 leaves of it does not count for its column.
use Rattle.std.proofs.Common.{ℕ, ◌/◌, sym, ap, ◌∙◌, arith}
use Rattle.angles.proofs.Columns.{of_parts, from_site_lem}
use Rattle.angles.proofs.Wraps.{column_minus, column_plus}
use Rattle.angles.proofs.plane.Edge.of.Goals as goal
use Rattle.angles.proofs.plane.Edge.of.Goals.{then-e, else-e}

pub returns : goal.returns
returns c =
    let n = c.args.e.size in
    elim c.if-e.branch [
      | then-e w ↦ rw (w.v-is, w.if-e.true) (omega (arith, column_minus n (omega arith)), omega arith)
      | else-e w ↦ rw (w.v-is, w.if-e.false) (ap (λ (t : ℕ). t / 78125) (of_parts (n / 64) 20 (omega arith)) ∙ from_site_lem n ∙ sym (column_plus n), omega arith)
    ]
