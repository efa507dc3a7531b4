-- A turn makes one row; where no row is left, the rows are the fresh ones.
use Rattle.std.proofs.Common.{◌≡◌, ℕ, ◌+◌, ◌-◌, ◌≤◌, ◌<◌, List, length, set, sym, ◌∙◌, ap, subst, length-set}
use Rattle.rows.specs.declared.Row.{Row}
use Rattle.rows.specs.Links.{fresh_of, fresh_from}
use Rattle.rows.proofs.Making.{fills_all}
use Rattle.walks.proofs.Fill.{filled, makes_one, makes_no_more}
use Rattle.chains.proofs.fresh_rows.Goals as goal

-- of the rows xs, those from the i-th of zs on are still to be made, as rows of n
abbrev Left : ℕ → ℕ → List Row → List Row → Type 0
Left n i xs zs = (length zs ≡ length xs) × (filled (fresh_of n) (length xs - i) i zs ≡ filled (fresh_of n) (length xs) 0 xs)

module _ (n there i : ℕ) (xs zs : List Row) (long : there ≡ length xs) (left : Left n i xs zs) where
  turn : (ws : List Row) (r : Row) → i < there → r ≡ fresh_of n i → ws ≡ set zs i r → Left n (i + 1) xs ws
  turn ws r h e q =
      let s : ws ≡ set zs i (fresh_of n i) = q ∙ ap {B = List Row} (set zs i) e in
      (ap {B = ℕ} length q ∙ length-set zs i r ∙ left.0, ap (filled (fresh_of n) (length xs - (i + 1)) (i + 1)) s ∙ sym (makes_one (fresh_of n) (length xs) i zs (subst (λ (k : ℕ). i < k) long h)) ∙ left.1)

  made : there ≤ i → zs ≡ fresh_from n 0 (length xs)
  made h = fills_all n xs zs (sym (makes_no_more (fresh_of n) (length xs) i zs (subst (λ (k : ℕ). k ≤ i) long h)) ∙ left.1)

pub loop-i-preserved : goal.loop-i-preserved
loop-i-preserved g c = turn c.args.n _ _ _ _ c.count-there.ensures c.loop-i.invariant _ _ c.loop-i-test.true c.fresh_row.ensures c.make.ensures

pub returns : goal.returns
returns g c = made c.args.n _ _ _ _ c.count-there.ensures c.loop-i.invariant c.loop-i-test.false
