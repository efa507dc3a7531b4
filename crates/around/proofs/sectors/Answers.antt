-- A sector more is counted by `sum_step`; no more than have passed (`count_le`).
use Rattle.std.proofs.Common.{◌≡◌, ℕ, ◌+◌, false, get_or, refl, sym, arith}
use Rattle.cells.proofs.Passes.{sum_step, pass_none}
use Rattle.plane.proofs.Same.{counted}
use Rattle.around.specs.Marks.{sectors_in}
use Rattle.around.proofs.Counts.{count_le}
use Rattle.around.proofs.sectors.Goals as goal

pub loop-mark-init : goal.loop-mark-init
loop-mark-init c = sym (pass_none _ 0)

pub overflow_add-n : goal.overflow_add-n
overflow_add-n c =
    let l = c.loop-mark in
    let p = λ (j : ℕ). get_or c.args.marks j false in
    let e = sum_step p (λ (j : ℕ). 1) l.n _ l.mark-index l.invariant (counted refl) in
    omega (arith, count_le p (l.mark-index + 1))

pub loop-mark-preserved : goal.loop-mark-preserved
loop-mark-preserved c =
    let l = c.loop-mark in
    sum_step (λ (j : ℕ). get_or c.args.marks j false) (λ (j : ℕ). 1) l.n _ l.mark-index l.invariant (counted refl)

pub returns : goal.returns
unfolding sectors_in
returns c =
    let l = c.loop-mark in
    let e : l.mark-index ≡ 8 = omega arith in
    (rw e at l.invariant, omega (arith, count_le (λ (j : ℕ). get_or c.args.marks j false) l.mark-index))
