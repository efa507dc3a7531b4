-- After k sectors the marks are those at the start with the bins' of sectors below k.
use Rattle.std.proofs.Common.{◌≡◌, ℕ, Bool}
use Rattle.cells.specs.Passes.{some, table}
use Rattle.around.specs.Marks.{bin_in}
use Rattle.outside.proofs.Heard.{marked}
use Rattle.outside.proofs.bin_marks.Given as goal

abbrev pub invariant-loop-k : goal.invariant-loop-k
invariant-loop-k l = (f : ℕ → Bool) → l.fn.marks ≡ table f 8 → l.m ≡ table (marked f (λ (j : ℕ). some (bin_in l.bins j) 72) l.k) 8
