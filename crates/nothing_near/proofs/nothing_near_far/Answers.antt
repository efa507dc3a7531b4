-- The places heard are the bins; none is near (`silent_near`), no cell is gathered (`silent_steps`), and none is among the nearest (`silent_heard`).
use Rattle.std.proofs.Common.{◌≡◌, ℕ, ◌≤◌, List, [], false, length, refl, sym, ap, ◌∙◌, arith}
use Rattle.view.specs.View.{Unheard}
use Rattle.view.specs.declared.Far.{Far}
use Rattle.nearest.specs.declared.Nearest.{Nearest}
use Rattle.nearest.specs.Nothing.{places_heard, positions_in}
use Rattle.view.specs.View.{positions_among}
use Rattle.nearest.specs.Counted.{no_steps, cell_steps, all_steps, bin_spot, two_nearest, nearest_among}
use Rattle.nearest.proofs.Two.{bins_nearest}
use Rattle.nearest.proofs.Answers.{few_positions, is_off}
use Rattle.nothing_near.specs.Counted.{Kept}
use Rattle.nothing_near.proofs.Counted.{positions_counted}
use Rattle.nothing_near.proofs.Silent.{unheard, silent_positions, silent_near, silent_heard, silent_steps}
use Rattle.nothing_near.proofs.Third.{none_near}
use Rattle.nothing_near.proofs.nothing_near_far.Goals as goal

-- the bins' positions are all
sum_is :
    {n : ℕ} (grid : List ℕ) (far : Far) → Unheard grid → length far.cells ≡ 72 → n ≡ positions_among far.cells (length far.cells)
    → n ≡ positions_in (places_heard grid far)
sum_is grid far u e h = let b = rw e at h in omega (arith, positions_counted grid far, silent_positions grid u)

-- what is kept is that of all places, whichever such grid it is
kept :
    (at : List ℕ) (n : ℕ) (none near : Nearest) (grid : List ℕ) (far : Far) → Unheard grid → length far.cells ≡ 72
    → n ≡ positions_among far.cells (length far.cells) → 60 ≤ n → ((g : List ℕ) → no_steps ≡ cell_steps g → at ≡ all_steps g far.cells)
    → none ≡ two_nearest [] → near ≡ nearest_among bin_spot far.cells none 72 → Kept at n near grid far
kept at n none near grid far u e h m w o p = (
  w grid (silent_steps grid (silent_positions grid u)),
  sum_is grid far u e h,
  p ∙ bins_nearest grid far none (o ∙ sym (ap two_nearest (silent_heard grid u))),
  omega arith,
)

pub with_bins-requires : goal.with_bins-requires
unfolding no_steps
with_bins-requires c =
    let bins : length c.args.far.cells ≡ 72 = omega arith in
    (([], silent_steps [] (silent_positions [] unheard)), rw bins at c.positions_among-total.ensures.0)

pub steps_from_third-k-requires : goal.steps_from_third-k-requires
unfolding no_steps
steps_from_third-k-requires c = (
  [],
  c.args.far,
  kept _ _ _ _ [] c.args.far unheard (omega arith) c.positions_among-total.ensures.0 c.if-total-ge60.true c.with_bins.ensures c.none_nearest.ensures
      c.nearest_bins-near.ensures,
)

pub returns-then-total-ge60 : goal.returns-then-total-ge60
unfolding no_steps
returns-then-total-ge60 c =
    let far = c.args.far in
    let bins : length far.cells ≡ 72 = omega arith in
    λ grid u.
    let sum = sum_is grid far u bins c.positions_among-total.ensures.0 in
    let near = none_near grid far (omega (arith, c.if-total-ge60.true)) (silent_near grid (silent_positions grid u)) in
    is_off grid far _ sum c.if-total-ge60.true false near refl _ _
    (c.steps_from_third-k.ensures.0 _ _
    (kept _ _ _ _ grid far u bins c.positions_among-total.ensures.0 c.if-total-ge60.true c.with_bins.ensures c.none_nearest.ensures c.nearest_bins-near.ensures))
    c.steps_km.ensures

pub returns : goal.returns
returns c =
    let far = c.args.far in
    let bins : length far.cells ≡ 72 = omega arith in
    λ grid u. few_positions grid far _ (sum_is grid far u bins c.positions_among-total.ensures.0) c.if-total-ge60.false
