-- A cell more is `sum_step`, of each of the three sums.
use Rattle.std.proofs.Common.{◌≡◌, ℕ, ◌+◌, ◌∙◌, Bool, true, false, refl, sym, arith, rules}
use Rattle.cells.specs.Passes.{sum_of}
use Rattle.cells.proofs.Passes.{pass_none, sum_step}
use Rattle.plane.specs.Plane.{east_of, north_of}
use Rattle.near_field.specs.Near.{member}
use Rattle.near_field.proofs.near.Counted.group_of.Goals as goal
use Rattle.near_field.proofs.near.Counted.group_of.Goals.{then-is_member, else-is_member}

-- one that is a member, and one that is not
module _ (p : ℕ → Bool) (f : ℕ → ℕ) (n k : ℕ) (e : n ≡ sum_of p f k) where
  inside : (r m : ℕ) → p k ≡ true → r ≡ f k → m ≡ n + r → m ≡ sum_of p f (k + 1)
  inside r m h q w = w ∙ sum_step p f n r k e (rw h q)

  outside : (m : ℕ) → p k ≡ false → m ≡ n → m ≡ sum_of p f (k + 1)
  outside m h w = w ∙ (let z : n ≡ n + 0 = omega arith in z) ∙ sum_step p f n 0 k e (rw h)

pub loop-i-init : goal.loop-i-init
loop-i-init c = (sym (pass_none _ 0), sym (pass_none _ 0), sym (pass_none _ 0), search rules, search rules, search rules)

pub loop-i-preserved : goal.loop-i-preserved
loop-i-preserved c =
    let l = c.loop-i in
    let p = member c.args.self.grid.now c.args.best.i in
    elim c.if-is_member.branch [
      | then-is_member w ↦
          let yes = sym c.is_member.ensures ∙ w.if-is_member.true in (
            inside p (λ (j : ℕ). 1) l.n l.i l.invariant.0 1 _ yes refl w.n-is,
            inside p east_of l.east l.i l.invariant.1 _ _ yes w.centre-centre.ensures.0 w.east-is,
            inside p north_of l.north l.i l.invariant.2 _ _ yes w.centre-centre.ensures.1 w.north-is,
            omega arith,
            omega arith,
            omega arith,
          )
      | else-is_member w ↦
          let no = sym c.is_member.ensures ∙ w.if-is_member.false in (
            outside p (λ (j : ℕ). 1) l.n l.i l.invariant.0 _ no w.n-is,
            outside p east_of l.east l.i l.invariant.1 _ no w.east-is,
            outside p north_of l.north l.i l.invariant.2 _ no w.north-is,
            omega arith,
            omega arith,
            omega arith,
          )
    ]

pub returns : goal.returns
returns c =
    let l = c.loop-i in
    let e : l.i ≡ 1600 = omega arith in
    (rw e at l.invariant.0, rw e at l.invariant.1, rw e at l.invariant.2, omega arith, omega arith, omega arith)
