-- The cells' sectors, and the bins' with them.
use Rattle.std.proofs.Common.{ℕ, ap, ◌∙◌}
use Rattle.std.specs.Prelude.{leb}
use Rattle.cells.specs.Passes.{some}
use Rattle.around.specs.Marks.{sectors_in, cell_in, outside_of}
use Rattle.outside.proofs.outside.Goals as goal

pub returns : goal.returns
unfolding outside_of
returns c =
    ap (λ (n : ℕ). leb n 4)
    (c.sectors.ensures.0 ∙ ap sectors_in (c.bin_marks.ensures (λ (k : ℕ). some (cell_in c.args.m.grid.now k) 1600) c.cell_marks.ensures))
