-- Rows 0 to 7 and 32 to 39 add nothing (`rows_before`, `rows_after`); with three counted, more cannot change the answer (`sum_more`).
use Rattle.std.proofs.Common.{◌≡◌, ℕ, ◌+◌, sym, arith, rules}
use Rattle.cells.proofs.Passes.{sum_step}
use Rattle.plane.proofs.Same.{counted, one_at_most}
use Rattle.nearest.proofs.Sums.{sum_more}
use Rattle.nothing_near.proofs.Silent.{is_near, near_is, rows_before, rows_after}
use Rattle.nothing_near.proofs.near_cells.Goals as goal

pub loop-i-init : goal.loop-i-init
loop-i-init c = record { count = sym (rows_before c.args.grid.now); few = search rules }

pub returns-then-n-eq3 : goal.returns-then-n-eq3
returns-then-n-eq3 c =
    let l = c.loop-i in
    let g = c.args.grid.now in
    let e = sum_step (is_near g) (λ (j : ℕ). 1) l.n _ l.i l.invariant.count (counted c.is_within.ensures) in
    omega (arith, near_is g, sum_more (is_near g) (λ (j : ℕ). 1) (l.i + 1) 1600 (omega arith))

pub loop-i-preserved : goal.loop-i-preserved
loop-i-preserved c =
    let l = c.loop-i in
    let g = c.args.grid.now in
    let e = sum_step (is_near g) (λ (j : ℕ). 1) l.n _ l.i l.invariant.count (counted c.is_within.ensures) in
    record { count = e; few = omega (arith, one_at_most c.is_within.result, c.if-n-eq3.false) }

pub returns : goal.returns
returns c =
    let l = c.loop-i in
    let g = c.args.grid.now in
    let e : l.i ≡ 1280 = omega arith in
    let n = rw e at l.invariant.count in
    omega (arith, near_is g, rows_after g)
