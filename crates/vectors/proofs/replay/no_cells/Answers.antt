-- Every cell is the empty one.
use Rattle.std.proofs.Common.{ℕ, replicate, ap}
use Rattle.vectors.specs.Replays.{no_cells}
use Rattle.vectors.proofs.replay.no_cells.Goals as goal

pub returns : goal.returns
unfolding no_cells
returns c = ap (λ (w : ℕ). replicate 3344 w) c.empty_word-empty.ensures
