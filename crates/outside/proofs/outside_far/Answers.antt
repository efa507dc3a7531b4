-- The bins' sectors alone: no cell marks one (`unheard_none`).
use Rattle.std.proofs.Common.{ℕ, ap, ◌∙◌}
use Rattle.std.specs.Prelude.{leb}
use Rattle.cells.specs.Passes.{some}
use Rattle.around.specs.Marks.{sectors_in, cell_in, outside_of}
use Rattle.outside.proofs.Heard.{unheard_none}
use Rattle.outside.proofs.outside_far.Goals as goal

pub returns : goal.returns
unfolding outside_of
returns c =
    λ g u. ap (λ (n : ℕ). leb n 4) (c.sectors.ensures.0 ∙ ap sectors_in (c.bin_marks.ensures (λ (k : ℕ). some (cell_in g k) 1600) (unheard_none g u)))
