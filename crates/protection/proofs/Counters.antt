-- A row's counters and a card's run agree: check says the same of both (`says_agree`). The two counts are the newest Wrongs and the newest others in a row, stopped at
-- 255; three is below that, so the tests on them are the run's; the distance held is the last Wrong's while the run is held wrong.
use Rattle.std.specs.Prelude.{Some, None, Option}
use mathlib.Core.Path.{◌≡◌, refl}
use Prim.Native.Nat.{ℕ, suc, min}
use native.Mathlib.Omega.{arith}
use mathlib.Core.Bool.{Bool, true, false, not, cond, ◌&&◌, ◌||◌}
use mathlib.Core.List.{[], ◌∷◌}
use lib.Dec.{leb}
use Rattle.near_field.specs.declared.Judgment.{Judgment}
use Rattle.near_field.specs.declared.Judgment.TheVariants.{Unjudged, Fits, Wrong}
use Rattle.verdicts.specs.declared.Last.{Last}
use Rattle.verdicts.specs.declared.Verdict.{Verdict}
use Rattle.verdicts.specs.declared.CheckState.TheVariants as Says
use Rattle.verdicts.specs.Verdict.{up, is_held, wrongly, otherwise, judged_once, begun, plainly, says_by, says_verdict}
use Rattle.table.proofs.Tests.{leb_yes}
use Rattle.protection.specs.Run.{Run, is_wrong, is_other, three_newest, held, last_wrong, plain, says_of}

-- the verdict that a run leaves
abbrev pub verdict_of : Run → Verdict
verdict_of [] = begun
verdict_of (j ∷ r) = judged_once (verdict_of r) j

-- how many of the newest are such, in a row
abbrev lead : (Judgment → Bool) → Run → ℕ
lead p [] = 0
lead p (j ∷ r) = cond (p j) (suc (lead p r)) 0

up_min : (n : ℕ) → up (min 255 n) ≡ min 255 (suc n)
up_min n = omega arith

-- three or more of the newest are such where the three newest are
three_lead : (p : Judgment → Bool) (r : Run) → leb 3 (min 255 (lead p r)) ≡ three_newest p r
three_lead p [] = refl
three_lead p (a ∷ []) = one (p a)
  where
    one : (x : Bool) → leb 3 (min 255 (cond x 1 0)) ≡ false
    one true = refl
    one false = refl
three_lead p (a ∷ b ∷ []) = two (p a) (p b)
  where
    two : (x y : Bool) → leb 3 (min 255 (cond x (suc (cond y 1 0)) 0)) ≡ false
    two true true = refl
    two true false = refl
    two false y = refl
three_lead p (a ∷ b ∷ c ∷ r) = three (p a) (p b) (p c)
  where
    three : (x y z : Bool) → leb 3 (min 255 (cond x (suc (cond y (suc (cond z (suc (lead p r)) 0)) 0)) 0)) ≡ (x && y && z)
    three true true true = leb_yes 3 (min 255 (suc (suc (suc (lead p r))))) (omega arith)
    three true true false = refl
    three true false z = refl
    three false y z = refl

-- the newest is not such, so the three newest are not
three_out : (p : Judgment → Bool) (j : Judgment) (r : Run) → p j ≡ false → three_newest p (j ∷ r) ≡ false
three_out p j [] e = refl
three_out p j (a ∷ []) e = refl
three_out p j (a ∷ b ∷ r) e = rw e

-- WHAT THE COUNTERS HOLD
record Agree (r : Run) : Type 0 where
  wrongs : (verdict_of r).wrong_run ≡ min 255 (lead is_wrong r)
  others : (verdict_of r).other_run ≡ min 255 (lead is_other r)
  by : (verdict_of r).wrong_by ≡ cond (held r) (Some (last_wrong r)) None

held_cond : (b : Bool) (d : ℕ) → is_held (cond b (Some d) None) ≡ b
held_cond true d = refl
held_cond false d = refl

by_other : (t h : Bool) (o : Option ℕ) → cond t None (cond h o None) ≡ cond (false || (not t && h)) o None
by_other true h o = refl
by_other false h o = refl

-- one judging more: a Wrong, or any other
agree_wrong : (j : Judgment) (r : Run) (d : ℕ) → is_wrong j ≡ true → last_wrong (j ∷ r) ≡ d → verdict_of (j ∷ r) ≡ wrongly (verdict_of r) d → Agree r → Agree (j ∷ r)
unfolding wrongly
agree_wrong j r d w l v a =
    let q : up (verdict_of r).wrong_run ≡ min 255 (lead is_wrong (j ∷ r)) = rw (a.wrongs, w) (up_min (lead is_wrong r)) in
    record {
      wrongs = rw v q;
      others = rw (v, w);
      by = rw (v, q, three_lead is_wrong (j ∷ r), a.by, held_cond, l, three_out is_other j r (rw w));
    }

agree_other : (j : Judgment) (r : Run) (k : Last) → is_wrong j ≡ false → last_wrong (j ∷ r) ≡ last_wrong r → verdict_of (j ∷ r) ≡ otherwise (verdict_of r) k → Agree r → Agree (j ∷ r)
unfolding otherwise
agree_other j r k w l v a =
    let q : up (verdict_of r).other_run ≡ min 255 (lead is_other (j ∷ r)) = rw (a.others, w) (up_min (lead is_other r)) in
    record {
      wrongs = rw (v, w);
      others = rw v q;
      by = rw (v, q, three_lead is_other (j ∷ r), a.by, l, three_out is_wrong j r w) (by_other (three_newest is_other (j ∷ r)) (held r) (Some (last_wrong r)));
    }

agree : (r : Run) → Agree r
agree [] = record { wrongs = refl; others = refl; by = refl }
agree (Wrong d e ∷ r) = agree_wrong (Wrong d e) r d refl refl refl (agree r)
agree (Fits ∷ r) = agree_other Fits r Last.Fits refl refl refl (agree r)
agree (Unjudged ∷ r) = agree_other Unjudged r Last.Unjudged refl refl refl (agree r)

last_is : (j : Judgment) (r : Run) → plainly (verdict_of (j ∷ r)).last ≡ plain j
unfolding wrongly otherwise
last_is (Wrong d e) r = refl
last_is Fits r = refl
last_is Unjudged r = refl

says_cond : (b : Bool) (d : ℕ) (l : Last) → says_by (cond b (Some d) None) l ≡ cond b (Says.Wrong d) (plainly l)
says_cond true d l = refl
says_cond false d l = refl

-- CHECK SAYS THE SAME of a row's verdict and of a card's run.
pub says_agree : (j : Judgment) (r : Run) → says_verdict (verdict_of (j ∷ r)) ≡ says_of j r
says_agree j r = rw ((agree (j ∷ r)).by, says_cond, last_is)
