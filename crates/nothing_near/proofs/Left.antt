-- The ways out of the code that leaves places out: with none, one or two of the nearest taken out, what the search over the steps finds is the typical distance from
-- the third nearest place on. Assumes nothing.
use mathlib.Core.Path.{◌≡◌, sym, ap, ◌∙◌}
use mathlib.Core.List.{List}
use Prim.Native.Nat.{ℕ, ◌-◌, ◌≤◌, ◌<◌}
use native.Mathlib.Omega.{arith}
use lib.ListN.{length, get_or, set, drop, length-set}
use Rattle.cells.specs.Passes.{first}
use Rattle.plane.specs.Plane.{steps}
use Rattle.view.specs.declared.Far.{Far}
use Rattle.near_field.specs.Sorted.{ascending}
use Rattle.nearest.specs.declared.Spot.{Spot}
use Rattle.nearest.specs.declared.Nearest.{Nearest}
use Rattle.nearest.specs.Nothing.{Place, nearest_of, positions_of, places_heard, from_third, typical_in}
use Rattle.nearest.specs.Counted.{below, spot_of, first_two}
use Rattle.nothing_near.specs.Counted.{reached_at, Kept}
use Rattle.nothing_near.proofs.Kept.{Keeps, nth, second_first, first_fits, first_out, fits, from_third_lem, alone, one_out, two_out, kept_in_order}
use Rattle.nothing_near.proofs.Typical.{typical_steps}

-- the positions of a place taken out
abbrev taken : List ℕ → Spot → List ℕ
taken at spot = set at spot.step (get_or at spot.step 0 - spot.positions)

module _ (at : List ℕ) (sum : ℕ) (near : Nearest) (grid : List ℕ) (far : Far) (kept : Kept at sum near grid far) where
  abbrev in_order : List Place
  in_order = ascending nearest_of (places_heard grid far)

  abbrev typical : ℕ
  typical = steps (typical_in (from_third (places_heard grid far))) 1

  all_kept : Keeps at sum in_order
  all_kept = (kept_in_order at sum near grid far kept).0

  first_is : near.first ≡ spot_of (nth in_order 0)
  unfolding first_two
  first_is = ap (λ (n : Nearest). n.first) (kept_in_order at sum near grid far kept).1

  second_is : near.second ≡ spot_of (nth (drop 1 in_order) 0)
  unfolding first_two
  second_is = ap (λ (n : Nearest). n.second) (kept_in_order at sum near grid far kept).1 ∙ sym (ap spot_of (second_first in_order))

  first_has : near.first.positions ≡ positions_of (nth in_order 0)
  unfolding spot_of
  first_has = ap (λ (s : Spot). s.positions) first_is

  second_has : near.second.positions ≡ positions_of (nth in_order 1)
  unfolding spot_of
  second_has = ap (λ (s : Spot). s.positions) second_is ∙ ap positions_of (second_first in_order)

  -- a search over what is kept of the places from the third on
  ends : (to : List ℕ) (left : ℕ) (l : List Place) → Keeps to left l → 0 < left → from_third (places_heard grid far) ≡ l → (k : ℕ) → k ≡ first (reached_at to left) 160 → k ≡ typical
  ends to left l keeps h e k f =
      f ∙ ap (λ (n : ℕ). first (reached_at to n) 160) keeps.2 ∙ sym (typical_steps to l keeps.0 (omega (arith, keeps.2)))
      ∙ sym (ap (λ (m : List Place). steps (typical_in m) 1) e)

  fit : (to : List ℕ) (left : ℕ) (l : List Place) → Keeps to left l → left ≤ sum → (k : ℕ) → below to k ≤ 426360
  fit to left l keeps h k = omega (arith, fits to left l keeps k, (kept_in_order at sum near grid far kept).2)

  -- ---- none is left out
  pub none_fit : (k : ℕ) → below at k ≤ 426360
  none_fit = fit at sum in_order all_kept (omega arith)

  pub none_left_out : sum ≤ near.first.positions → (k : ℕ) → k ≡ first (reached_at at sum) 160 → k ≡ typical
  none_left_out h = ends at sum in_order all_kept kept.3 (from_third_lem (places_heard grid far) ∙ alone at sum in_order all_kept (omega (arith, first_has)))

  -- ---- the nearest is
  pub first_fit : (near.first.step < 161) × (near.first.positions ≤ get_or at near.first.step 0)
  first_fit = first_fits at sum in_order all_kept kept.3 near.first first_is

  module _ (size : length at ≡ 161) (more : near.first.positions < sum) (to : List ℕ) (to_is : to ≡ taken at near.first) where
    abbrev left : ℕ
    left = sum - near.first.positions

    one_kept : Keeps to left (drop 1 in_order)
    one_kept = rw to_is (first_out at sum in_order all_kept kept.3 near.first first_is size)

    pub one_fit : (k : ℕ) → below to k ≤ 426360
    one_fit = fit to left (drop 1 in_order) one_kept (omega arith)

    pub one_left_out : left ≤ near.second.positions → (k : ℕ) → k ≡ first (reached_at to left) 160 → k ≡ typical
    one_left_out h =
        ends to left (drop 1 in_order) one_kept (omega arith)
        (from_third_lem (places_heard grid far) ∙ one_out at sum in_order all_kept (omega (arith, first_has)) (omega (arith, first_has, second_has)))

    -- ---- and the next
    pub second_fit : (near.second.step < 161) × (near.second.positions ≤ get_or to near.second.step 0)
    second_fit = first_fits to left (drop 1 in_order) one_kept (omega arith) near.second second_is

    module _ (some : near.second.positions < left) (then : List ℕ) (then_is : then ≡ taken to near.second) where
      two_kept : Keeps then (left - near.second.positions) (drop 1 (drop 1 in_order))
      two_kept =
          rw then_is
          (first_out to left (drop 1 in_order) one_kept (omega arith) near.second second_is
          (rw to_is (length-set at near.first.step (get_or at near.first.step 0 - near.first.positions) ∙ size)))

      pub two_fit : (k : ℕ) → below then k ≤ 426360
      two_fit = fit then (left - near.second.positions) (drop 1 (drop 1 in_order)) two_kept (omega arith)

      pub two_left_out : (k : ℕ) → k ≡ first (reached_at then (left - near.second.positions)) 160 → k ≡ typical
      two_left_out =
          ends then (left - near.second.positions) (drop 1 (drop 1 in_order)) two_kept (omega arith)
          (from_third_lem (places_heard grid far) ∙ two_out at sum in_order all_kept (omega (arith, first_has)) (omega (arith, first_has, second_has)))
