-- A cell more is `best_step` and `best_cells`.
use Rattle.std.proofs.Common.{◌≡◌, ◌<◌, ◌≤◌, ℕ, Option, Some, unwrap_or, IfSome, refl, sym, subst, cond, arith, rules}
use Rattle.std.proofs.Math.Dec.{ltb}
use Rattle.std.proofs.lemmas.Bool.{lt-ltb, le-ltb}
use Rattle.near_field.proofs.Found.{best_none, best_step, best_cells, counted_is}
use Rattle.near_field.proofs.near.Counted.best_cell.Goals as goal
use Rattle.near_field.proofs.near.Counted.best_cell.Goals.{then-most-n, else-most-n}

-- what a better cell, and one that is not, leaves
now_better : (b b' : Option ℕ) (i m n : ℕ) → b' ≡ Some i → m < n → unwrap_or b' 1600 ≡ cond (ltb m n) i (unwrap_or b 1600)
now_better b b' i m n e h = rw (e, lt-ltb m n h)

not_better : (b b' : Option ℕ) (i m n : ℕ) → b' ≡ b → n ≤ m → unwrap_or b' 1600 ≡ cond (ltb m n) i (unwrap_or b 1600)
not_better b b' i m n e h = rw (e, le-ltb m n h)

now_most : (m m' n : ℕ) → m' ≡ n → m < n → m' ≡ cond (ltb m n) n m
now_most m m' n e h = rw (e, lt-ltb m n h)

still_most : (m m' n : ℕ) → m' ≡ m → n ≤ m → m' ≡ cond (ltb m n) n m
still_most m m' n e h = rw (e, le-ltb m n h)

pub loop-i-init : goal.loop-i-init
loop-i-init c = record { at = best_none _; cells = refl; below = search rules }

pub loop-i-preserved : goal.loop-i-preserved
loop-i-preserved c =
    let l = c.loop-i in
    let g = c.args.self.grid.now in
    let b = c.if-most-n.best in
    let n = c.unwrap_or-n.result in
    let nr = counted_is g l.i c.found_cells.ensures c.unwrap_or-n.ensures in
    let at = unwrap_or l.best 1600 in
    let lt : l.i < 1600 = omega arith in
    elim c.if-most-n.branch [
      | then-most-n w ↦
          let e = now_better l.best b l.i l.most n w.best-is w.if-most-n.true in
          record {
            at = best_step g l.i at l.most n (unwrap_or b 1600) lt l.invariant.at l.invariant.cells nr e;
            cells = best_cells g l.i at l.most n (unwrap_or b 1600) _ lt l.invariant.cells nr e (now_most l.most _ n w.most-is w.if-most-n.true);
            below = subst (λ (o : Option ℕ). IfSome o (λ k. k < 1600)) (sym w.best-is) lt;
          }
      | else-most-n w ↦
          let e = not_better l.best b l.i l.most n w.best-is w.if-most-n.false in
          record {
            at = best_step g l.i at l.most n (unwrap_or b 1600) lt l.invariant.at l.invariant.cells nr e;
            cells = best_cells g l.i at l.most n (unwrap_or b 1600) _ lt l.invariant.cells nr e (still_most l.most _ n w.most-is w.if-most-n.false);
            below = subst (λ (o : Option ℕ). IfSome o (λ k. k < 1600)) (sym w.best-is) l.invariant.below;
          }
    ]
