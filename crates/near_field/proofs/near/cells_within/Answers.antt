-- A cell more is `sum_step`.
use Rattle.std.proofs.Common.{◌≡◌, ◌+◌, ℕ, sym, arith, rules}
use Rattle.std.specs.Prelude.{◌&&◌, leb}
use Rattle.cells.proofs.Passes.{sum_step, pass_none}
use Rattle.plane.specs.Plane.{from_site}
use Rattle.plane.proofs.Same.{counted}
use Rattle.around.specs.Marks.{occ}
use Rattle.around.proofs.Counts.{count_le}
use Rattle.near_field.proofs.near.cells_within.Goals as goal

pub loop-i-init : goal.loop-i-init
loop-i-init c = record { count = sym (pass_none _ 0); bounded = search rules }

pub loop-i-preserved : goal.loop-i-preserved
loop-i-preserved c =
    let l = c.loop-i in
    let p = λ (k : ℕ). occ c.args.grid.now k && leb (from_site k) c.args.bound in
    let e = sum_step p (λ (j : ℕ). 1) l.n _ l.i l.invariant.count (counted c.is_within.ensures) in
    record { count = e; bounded = omega (arith, count_le p (l.i + 1)) }

pub returns : goal.returns
returns c = let l = c.loop-i in let e : l.i ≡ 1600 = omega arith in (rw e at l.invariant.count, omega arith)
