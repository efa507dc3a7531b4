-- What a turn of `scan` does to `scanned`. Facts on lists and numbers alone.
--     goes_on_lem      where a scan goes on, its place is within the slice, one step leaves what the scan comes to, and fewer steps are left
--     stops            where it does not, it has come to its end
use mathlib.Core.Path.{◌≡◌, refl, sym, ◌∙◌, ap}
use Prim.Native.Nat.{ℕ, zero, suc, ◌<◌, ◌-◌}
use native.Mathlib.Omega.{arith}
use mathlib.Core.Bool.{Bool, true, false, cond}
use mathlib.Core.List.{List}
use lib.Dec.{ltb, eqb}
use lib.ListN.{length, get_or}
use borrow.Author.Tests.{ltb-true, eqb-false}
use Rattle.table.proofs.Tests.{clash}
use Rattle.rows.specs.declared.Row.{Row}
use Rattle.scans.specs.declared.Cursor.{Cursor}
use Rattle.rows.specs.Links.{blank}
use Rattle.rows.specs.Search.{step_of, scan_for, scanned}
use Rattle.scans.specs.Scan.{more_of}

pub picks : (f e l : Bool) → cond f (cond e false l) false ≡ true → (f ≡ true) × (e ≡ false) × (l ≡ true)
picks true true l p = clash p refl
picks true false l p = (refl, refl, p)
picks false e l p = clash p refl

pub record On (ys : List Row) (c : Cursor) : Type 0 where
  pub within : c.at < length ys
  pub same : scanned ys c ≡ scanned ys (step_of c (get_or ys c.at blank))
  pub less : (step_of c (get_or ys c.at blank)).left < c.left

pub step_left : (c : Cursor) (r : Row) → eqb c.left 0 ≡ false → (step_of c r).left ≡ c.left - 1
step_left c r e = rw e

module _ (ys : List Row) (c : Cursor) where
  abbrev next : Cursor
  next = step_of c (get_or ys c.at blank)

  one : (k : ℕ) → c.left ≡ k → eqb c.left 0 ≡ false → more_of c (length ys) ≡ true → scan_for k ys c ≡ scan_for next.left ys next
  unfolding scan_for
  one zero e n m = absurd (eqb-false c.left 0 n e)
  one (suc j) e n m =
      let l : next.left ≡ j = step_left c (get_or ys c.at blank) n ∙ omega (arith, e) in
      ap (λ (t : Bool). cond t (scan_for j ys next) c) m ∙ ap (λ (i : ℕ). scan_for i ys next) (sym l)

  pub goes_on_lem : more_of c (length ys) ≡ true → On ys c
  unfolding scanned
  goes_on_lem m =
      let p = picks c.fits (eqb c.left 0) (ltb c.at (length ys)) m in
      let l : next.left ≡ c.left - 1 = step_left c (get_or ys c.at blank) p.1 in
      record { within = ltb-true c.at (length ys) p.2; same = one c.left refl p.1 m; less = omega (arith, l, eqb-false c.left 0 p.1) }

  done_for : (k : ℕ) → more_of c (length ys) ≡ false → scan_for k ys c ≡ c
  unfolding scan_for
  done_for zero m = refl
  done_for (suc j) m = ap (λ (t : Bool). cond t (scan_for j ys next) c) m

  pub stops : more_of c (length ys) ≡ false → scanned ys c ≡ c
  unfolding scanned
  stops m = done_for c.left m
