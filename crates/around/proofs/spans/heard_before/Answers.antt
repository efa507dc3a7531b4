-- A count more is one entry more of the table (`table_fill`).
use Rattle.std.proofs.Common.{◌≡◌, ℕ, ◌+◌, sym, arith, rules}
use Rattle.cells.specs.Passes.{how_many}
use Rattle.cells.proofs.Passes.{pass_none, sum_step, table_fill, table_full}
use Rattle.plane.proofs.Same.{counted}
use Rattle.around.specs.Marks.{occ}
use Rattle.around.specs.Counts.{counts_of}
use Rattle.around.proofs.Counts.{count_le, heard_none}
use Rattle.around.proofs.spans.heard_before.Goals as goal

pub loop-i-init : goal.loop-i-init
loop-i-init c = record { full = search rules; count = sym (pass_none _ 0); bound = search rules; filled = heard_none c.args.grid.now }

pub loop-i-preserved : goal.loop-i-preserved
loop-i-preserved c =
    let l = c.loop-i in
    let g = c.args.grid.now in
    let e = sum_step (occ g) (λ (j : ℕ). 1) l.n _ l.i l.invariant.count (counted c.occupied.ensures) in
    record {
      full = search rules;
      count = e;
      bound = omega (arith, count_le (occ g) (l.i + 1));
      filled = table_fill (λ (j : ℕ). how_many (occ g) j) 0 l.heard (l.i + 1) _ (omega arith) l.invariant.filled e;
    }

pub returns : goal.returns
unfolding counts_of
returns c =
    let l = c.loop-i in
    let e : l.i ≡ 1600 = omega arith in
    table_full (λ (j : ℕ). how_many (occ c.args.grid.now) j) 0 l.heard 1601 l.invariant.full (rw e at l.invariant.filled)
