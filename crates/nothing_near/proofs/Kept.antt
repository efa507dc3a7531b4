-- Places left out of what is kept. A table of steps that gathers some places (`Gathers`) gathers all but the first when that one's positions are taken out
-- (`without_first`), and so does their sum; each place has positions (`Sound`), so the places from the third on are told by the sums that are left: laws `alone`,
-- `one_out` and `two_out`. Assumes nothing.
use mathlib.Core.Path.{◌≡◌, refl, sym, ap, ◌∙◌}
use mathlib.Core.Bool.{Bool, true, false, cond}
use mathlib.Core.List.{List, [], ◌∷◌}
use Prim.Native.Nat.{ℕ, zero, suc, ◌+◌, ◌-◌, ◌≤◌, ◌<◌, min}
use native.Mathlib.Omega.{arith}
use borrow.Author.Tests.{leb-false, lt-ltb, le-ltb, ltb-true, lt-leb}
use lib.Dec.{leb, ltb}
use lib.ListN.{length, get_or, set, drop, length-set}
use lib.Seq.{get_or-set_same, set-set, set-get_or}
use Rattle.cells.specs.Cells.{count_of}
use Rattle.cells.specs.Passes.{sum_of}
use Rattle.cells.proofs.Passes.{pass_all}
use Rattle.view.specs.declared.Far.{Far}
use Rattle.near_field.specs.Sorted.{ascending}
use Rattle.near_field.proofs.Sorted.{sum_where, count_where, sum_ascending, ascending_length}
use Rattle.nearest.specs.Weights.{total}
use Rattle.nearest.specs.Nothing.{Place, nearest_of, positions_of, cell_place, bin_place, places_heard, third_or_last, from_third, positions_in}
use Rattle.nearest.specs.declared.Spot.{Spot}
use Rattle.nearest.specs.declared.Nearest.{Nearest}
use Rattle.nearest.specs.Counted.{cell_step, bin_step, below, all_steps, step_of, spot_of, no_place, first_two, two_nearest}
use Rattle.nothing_near.specs.Counted.{Kept}
use Rattle.nothing_near.proofs.Weights.{where_more, total_where}
use Rattle.nearest.proofs.Steps.{step_small}
use Rattle.nearest.proofs.Gathered.{below_suc, raised, bins_below}
use Rattle.nothing_near.proofs.Counted.{both_sums, only_occupied, positions_counted}
use Rattle.view.proofs.Views.{positions_fit}

-- ---- the positions of some places by their steps
abbrev step_below : ℕ → Place → Bool
step_below k p = ltb (step_of p) k

abbrev pub Gathers : List ℕ → List Place → Type 0
Gathers at l = (k : ℕ) → below at k ≡ sum_where (step_below k) positions_of l

pub all_gathered : (grid : List ℕ) (far : Far) → Gathers (all_steps grid far.cells) (places_heard grid far)
unfolding all_steps cell_place bin_place cell_step bin_step step_of
all_gathered grid far k =
    bins_below grid far.cells 72 k
    ∙ sym
    (both_sums grid far (step_below k) positions_of (λ i. ltb (cell_step i) k) (λ j. ltb (bin_step j) k) (λ i. count_of (get_or grid i 0)) (λ j. count_of (get_or far.cells j 0))
    (λ i. only_occupied (count_of (get_or grid i 0)) (ltb (cell_step i) k)) (λ j. only_occupied (count_of (get_or far.cells j 0)) (ltb (bin_step j) k)))

pub gathers_ascending : (at : List ℕ) (l : List Place) → Gathers at l → Gathers at (ascending nearest_of l)
gathers_ascending at l g k = g k ∙ sym (sum_ascending (step_below k) positions_of nearest_of l)

pub gathers_fit : (at : List ℕ) (l : List Place) → Gathers at l → (k : ℕ) → below at k ≤ positions_in l
unfolding positions_in
gathers_fit at l g k = omega (arith, g k, total_where positions_of l, where_more (step_below k) (λ p. true) positions_of (λ p h. refl) l)

-- one number lowered by v
lowered : (at : List ℕ) (s v : ℕ) → s < length at → v ≤ get_or at s 0 → (k : ℕ) → below at k ≡ below (set at s (get_or at s 0 - v)) k + cond (ltb s k) v 0
lowered at s v l h k =
    let to = set at s (get_or at s 0 - v) in
    let here : get_or to s 0 + v ≡ get_or at s 0 = let e = get_or-set_same at s (get_or at s 0 - v) 0 l in omega arith in
    let back : set to s (get_or to s 0 + v) ≡ at = ap (set to s) here ∙ set-set at s (get_or at s 0 - v) (get_or at s 0) ∙ set-get_or at s 0 in
    ap (λ (t : List ℕ). below t k) (sym back) ∙ raised to s v (let e = length-set at s (get_or at s 0 - v) in omega arith) k

module _ (at : List ℕ) (p : Place) (l : List Place) (g : Gathers at (p ∷ l)) where
  first_there : positions_of p ≤ get_or at (step_of p) 0
  unfolding sum_where
  first_there =
      let s = step_of p in
      let here : below at (suc s) ≡ positions_of p + sum_where (step_below (suc s)) positions_of l = g (suc s) ∙ ap (λ (t : Bool). cond t (positions_of p) 0 + sum_where (step_below (suc s)) positions_of l) (lt-ltb s (suc s) (omega arith)) in
      let under : below at s ≡ 0 + sum_where (step_below s) positions_of l = g s ∙ ap (λ (t : Bool). cond t (positions_of p) 0 + sum_where (step_below s) positions_of l) (le-ltb s s (omega arith)) in
      omega (arith, below_suc at s, where_more (step_below s) (step_below (suc s)) positions_of (λ q h. lt-ltb (step_of q) (suc s) (omega (arith, ltb-true (step_of q) s h))) l)

  without_first : step_of p < length at → Gathers (set at (step_of p) (get_or at (step_of p) 0 - positions_of p)) l
  unfolding sum_where
  without_first h k = omega (arith, lowered at (step_of p) (positions_of p) h first_there k, g k)

-- ---- each place has positions
abbrev silent : Place → Bool
silent p = leb (positions_of p) 0

abbrev pub Sound : List Place → Type 0
Sound l = count_where silent l ≡ 0

heard_not_silent : (c : ℕ) → ◌≡◌ {A = ℕ} (cond (ltb 0 c) (cond (leb c 0) 1 0) 0) 0
heard_not_silent zero = refl
heard_not_silent (suc c) = rw (lt-ltb 0 (suc c) (omega arith), lt-leb (suc c) 0 (omega arith))

none_added : (n : ℕ) → sum_of (λ (i : ℕ). false) (λ (i : ℕ). 0) n ≡ 0
none_added n = pass_all (λ (i s : ℕ). cond false (s + 0) s) 0 n (λ i l s. refl)

pub heard_sound : (grid : List ℕ) (far : Far) → Sound (places_heard grid far)
unfolding cell_place bin_place
heard_sound grid far =
    both_sums grid far silent (λ p. 1) (λ i. false) (λ j. false) (λ i. 0) (λ j. 0) (λ i. heard_not_silent (count_of (get_or grid i 0))) (λ j. heard_not_silent (count_of (get_or far.cells j 0)))
    ∙ (let a = none_added 1600 in let b = none_added 72 in omega arith)

module _ (p : Place) (l : List Place) (sound : Sound (p ∷ l)) where
  sound_first : 0 < positions_of p
  unfolding sum_where
  sound_first = by (silent p) refl sound where
    by : (t : Bool) → silent p ≡ t → cond t 1 0 + count_where silent l ≡ 0 → 0 < positions_of p
    by true e h = absurd (omega arith)
    by false e h = leb-false (positions_of p) 0 e

  sound_rest : Sound l
  unfolding sum_where
  sound_rest = omega (arith, sound)

  sum_first : positions_in (p ∷ l) ≡ positions_of p + positions_in l
  unfolding positions_in total
  sum_first = refl

-- ---- what is kept of a list of places, and of all but the first
abbrev pub Keeps : List ℕ → ℕ → List Place → Type 0
Keeps at sum l = Gathers at l × Sound l × (sum ≡ positions_in l)

abbrev pub nth : List Place → ℕ → Place
nth l k = get_or l k no_place

no_sum : positions_in [] ≡ 0
unfolding positions_in total
no_sum = refl

module _ (at : List ℕ) (sum : ℕ) (l : List Place) (keeps : Keeps at sum l) (some : 0 < sum) (spot : Spot) (is : spot ≡ spot_of (nth l 0)) where
  pub first_fits : (spot.step < 161) × (spot.positions ≤ get_or at spot.step 0)
  unfolding spot_of step_of
  first_fits = rw is (by l keeps) where
    by : (l : List Place) → Keeps at sum l → (step_of (nth l 0) < 161) × (positions_of (nth l 0) ≤ get_or at (step_of (nth l 0)) 0)
    by [] k = absurd (omega (arith, k.2, no_sum))
    by (p ∷ l) k = (step_small p.typical, first_there at p l k.0)

  pub first_out : length at ≡ 161 → Keeps (set at spot.step (get_or at spot.step 0 - spot.positions)) (sum - spot.positions) (drop 1 l)
  unfolding spot_of step_of
  first_out e = rw is (by l keeps) where
    by : (l : List Place) → Keeps at sum l → Keeps (set at (step_of (nth l 0)) (get_or at (step_of (nth l 0)) 0 - positions_of (nth l 0))) (sum - positions_of (nth l 0)) (drop 1 l)
    by [] k = absurd (omega (arith, k.2, no_sum))
    by (p ∷ l) k = (without_first at p l k.0 (omega (arith, step_small p.typical)), sound_rest p l k.1, omega (arith, k.2, sum_first p l k.1))

pub fits : (at : List ℕ) (sum : ℕ) (l : List Place) → Keeps at sum l → (k : ℕ) → below at k ≤ sum
fits at sum l h k = omega (arith, gathers_fit at l h.0 k, h.2)

-- ---- the places from the third on, or the last of fewer
abbrev later : List Place → List Place
later l = drop (third_or_last l) l

pub from_third_lem : (l : List Place) → from_third l ≡ later (ascending nearest_of l)
unfolding from_third third_or_last
from_third_lem l =
    ap (λ (n : ℕ). drop (min 2 (n - 1)) (ascending nearest_of l)) (sym (ascending_length nearest_of l))

module _ (at : List ℕ) (sum : ℕ) where
  -- the first has all positions: it is alone
  pub alone : (l : List Place) → Keeps at sum l → sum ≤ positions_of (nth l 0) → later l ≡ l
  unfolding third_or_last
  alone [] k h = refl
  alone (p ∷ []) k h = refl
  alone (p ∷ q ∷ l) k h = absurd (omega (arith, k.2, sum_first p (q ∷ l) k.1, sum_first q l (sound_rest p (q ∷ l) k.1), sound_first q l (sound_rest p (q ∷ l) k.1)))

  -- the second has all that the first has not
  pub one_out : (l : List Place) → Keeps at sum l → positions_of (nth l 0) < sum → sum - positions_of (nth l 0) ≤ positions_of (nth l 1) → later l ≡ drop 1 l
  unfolding third_or_last
  one_out [] k h g = refl
  one_out (p ∷ []) k h g = absurd (omega (arith, k.2, sum_first p [] k.1, no_sum))
  one_out (p ∷ q ∷ []) k h g = refl
  one_out (p ∷ q ∷ r ∷ l) k h g =
      let s1 = sound_rest p (q ∷ r ∷ l) k.1 in
      let s2 = sound_rest q (r ∷ l) s1 in
      absurd (omega (arith, k.2, sum_first p (q ∷ r ∷ l) k.1, sum_first q (r ∷ l) s1, sum_first r l s2, sound_first r l s2))

  -- some are left
  pub two_out : (l : List Place) → Keeps at sum l → positions_of (nth l 0) < sum → positions_of (nth l 1) < sum - positions_of (nth l 0) → later l ≡ drop 1 (drop 1 l)
  unfolding third_or_last
  two_out [] k h g = refl
  two_out (p ∷ []) k h g = absurd (omega (arith, k.2, sum_first p [] k.1, no_sum))
  two_out (p ∷ q ∷ []) k h g = absurd (omega (arith, k.2, sum_first p (q ∷ []) k.1, sum_first q [] (sound_rest p (q ∷ []) k.1), no_sum))
  two_out (p ∷ q ∷ r ∷ l) k h g = let e : min 2 (suc (suc (suc (length l))) - 1) ≡ 2 = omega arith in ap (λ (n : ℕ). drop n (p ∷ q ∷ r ∷ l)) e

pub second_first : (l : List Place) → nth (drop 1 l) 0 ≡ nth l 1
second_first [] = refl
second_first (p ∷ l) = zeroth l where
  zeroth : (l : List Place) → nth l 0 ≡ nth l 0
  zeroth l = refl

-- ---- what is kept of all places is kept of them in order
pub kept_in_order :
    (at : List ℕ) (sum : ℕ) (near : Nearest) (grid : List ℕ) (far : Far) → Kept at sum near grid far
    → Keeps at sum (ascending nearest_of (places_heard grid far)) × (near ≡ first_two (ascending nearest_of (places_heard grid far))) × (sum ≤ 426360)
unfolding two_nearest positions_in
kept_in_order at sum near grid far k =
    let l = places_heard grid far in (
      (
        gathers_ascending at l (rw k.0 (all_gathered grid far)),
        sum_ascending silent (λ p. 1) nearest_of l ∙ heard_sound grid far,
        k.1 ∙ total_where positions_of l ∙ sym (sum_ascending (λ p. true) positions_of nearest_of l) ∙ sym (total_where positions_of (ascending nearest_of l)),
      ),
      k.2,
      omega (arith, k.1, positions_counted grid far, positions_fit grid 1600, positions_fit far.cells 72),
    )
