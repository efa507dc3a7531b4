-- A judging's answers, one law for each way through the code. Assumes nothing.
use Rattle.std.specs.Prelude.{Some, None, Option}
use mathlib.Core.Path.{◌≡◌, refl, sym, ap, ◌∙◌}
use mathlib.Core.Bool.{Bool, true, false, cond}
use mathlib.Core.List.{List}
use Prim.Native.Nat.{ℕ, ◌≤◌, ◌<◌}
use borrow.Author.Tests.{lt-ltb, le-ltb}
use lib.Dec.{ltb}
use lib.Ieee.{Float}
use Rattle.view.specs.View.{kept, Unheard}
use Rattle.view.specs.declared.Far.{Far}
use Rattle.sites.specs.declared.Site.{Site}
use Rattle.past_horizon.specs.Horizon.{past_horizon}
use Rattle.around.specs.Marks.{outside_of}
use Rattle.near_field.specs.Near.{near_field}
use Rattle.near_field.proofs.Judged.{nf_unheard}
use Rattle.near_field.specs.declared.Judgment.{Judgment}
use Rattle.near_field.specs.declared.Judgment.TheVariants.{Unjudged, Wrong}
use Rattle.near_field.specs.declared.Evidence.TheVariants.{Horizon, NothingNear}
use Rattle.nearest.specs.Nothing.{places, nothing_near}
use Rattle.judge.specs.Judging.{if_outside, horizon_off, after_horizon, by_horizon, judge_cells, judge_row, judge_of}

-- ---- not past it
module _ (e : Option ℕ) (grid : List ℕ) (far : Far) (out : Bool) where
  pub after_off : (km : ℕ) → e ≡ Some km → Wrong km NothingNear ≡ after_horizon e grid far out
  unfolding after_horizon
  after_off km h = rw h

  pub after_few : (n : ℕ) → e ≡ None → n ≡ places grid far → n < 12 → Unjudged ≡ after_horizon e grid far out
  unfolding after_horizon
  after_few n h p l = rw (h, lt-ltb (places grid far) 12 (rw p at l))

  pub after_near : (n : ℕ) → e ≡ None → n ≡ places grid far → 12 ≤ n → near_field grid out ≡ after_horizon e grid far out
  unfolding after_horizon
  after_near n h p l = rw (h, le-ltb (places grid far) 12 (rw p at l))

  -- where no cell of the grid is occupied the near field finds nothing, however many bins there are
  pub after_unheard : Unheard grid → e ≡ None → Unjudged ≡ after_horizon e grid far out
  unfolding after_horizon
  after_unheard u h = rw h (by (ltb (places grid far) 12)) where
    by : (b : Bool) → Unjudged ≡ cond b Unjudged (near_field grid out)
    by true = refl
    by false = nf_unheard grid u 1 out

-- ---- the merged cells
module _
    (site : Site) (grid : List ℕ) (far : Far) (p : Option Float) (e : Option ℕ) (out : Bool) (eo : out ≡ outside_of grid far.cells)
    (ee : e ≡ if_outside out (nothing_near grid far)) (ep : p ≡ past_horizon site far) where
  is_empty : if_outside (outside_of grid far.cells) (nothing_near grid far) ≡ e
  is_empty = ap (λ (b : Bool). if_outside b (nothing_near grid far)) (sym eo) ∙ sym ee

  pub by_excess : (x : Float) (off : ℕ) → p ≡ Some x → off ≡ horizon_off e x → Wrong off Horizon ≡ judge_cells site grid far
  unfolding judge_cells by_horizon
  by_excess x off h o = rw (sym ep ∙ h, is_empty) (cc)

  pub by_none : (r : Judgment) → p ≡ None → r ≡ after_horizon e grid far out → r ≡ judge_cells site grid far
  unfolding judge_cells by_horizon
  by_none r h o = rw (sym ep ∙ h, is_empty, sym eo) o

-- ---- the row
module _ (site : Option Site) (even odd : Option ℕ) (cells : List ℕ) (now aircraft : ℕ) where
  pub no_site : site ≡ None → Unjudged ≡ judge_of site even odd cells now aircraft
  unfolding judge_of
  no_site h = rw h

  pub few_aircraft : (s : Site) → site ≡ Some s → aircraft < 15 → Unjudged ≡ judge_of site even odd cells now aircraft
  unfolding judge_of
  few_aircraft s h l = rw (h, lt-ltb aircraft 15 l)

  pub by_row :
      (s : Site) (r : Judgment) (ke ko : Bool) → site ≡ Some s → 15 ≤ aircraft → ke ≡ kept even now → ko ≡ kept odd now
      → r ≡ judge_row s cells ke ko → r ≡ judge_of site even odd cells now aircraft
  unfolding judge_of
  by_row s r ke ko h l ek eo er = rw (h, le-ltb aircraft 15 l) (cc)
