-- P10 and the case of 01's plausible error "assuming NothingNear is far", as Item 2 has it, from the places that were heard. Assumes nothing.
use Rattle.std.specs.Prelude.{Some, None}
use mathlib.Core.Path.{◌≡◌, refl, sym, ap, ◌∙◌}
use mathlib.Core.List.{List, [], ◌∷◌}
use Prim.Native.Nat.{ℕ, ◌*◌, max}
use lib.ListN.{get_or}
use Rattle.cells.specs.Cells.{count_of}
use Rattle.view.specs.declared.Far.{Far}
use Rattle.plane.specs.Plane.{square, said}
use Rattle.near_field.specs.Sorted.{insert, ascending}
use Rattle.nearest.specs.Weights.{first_reaching, total}
use Rattle.nearest.specs.Nothing.{Place, km, edges, halfway, cell_place, bin_place, places_heard, third_or_last, third, from_third, positions_in, typical_in, nothing_near_in, nothing_near}
use Rattle.nearest.proofs.Steps.{odd, is_step, step_is}

abbrev place : ℕ → ℕ → ℕ → Place
place nearest typical positions = record { nearest = nearest; typical = typical; positions = positions }

-- ---- the answers of three lists: bin 0 alone, with 60 positions and with 59; cells (1, 1) and (1, 3) and bin 0
sixty : nothing_near_in (place 1600 2500 60 ∷ []) ≡ Some 125
unfolding nothing_near_in positions_in total third third_or_last from_third ascending insert typical_in first_reaching km square said is_step odd
sixty = ap (λ (k : ℕ). Some (5 * max 1 k)) (sym (step_is 2500 25 refl))

fifty_nine : nothing_near_in (place 1600 2500 59 ∷ []) ≡ None
unfolding nothing_near_in positions_in total
fifty_nine = refl

near_and_far : nothing_near_in (place 2 2 255 ∷ place 10 10 1 ∷ place 1600 2500 1 ∷ []) ≡ Some 125
unfolding nothing_near_in positions_in total third third_or_last from_third ascending insert typical_in first_reaching km square said is_step odd
near_and_far = ap (λ (k : ℕ). Some (5 * max 1 k)) (sym (step_is 2500 25 refl))

-- ---- and of all fields in which no other place was heard
module _ (grid : List ℕ) (far : Far) where
  -- bin 0 only
  module _ (only : places_heard grid far ≡ bin_place far.cells 0 ∷ []) where
    bin_place_lem : (n : ℕ) → count_of (get_or far.cells 0 0) ≡ n → nothing_near grid far ≡ nothing_near_in (place 1600 2500 n ∷ [])
    unfolding nothing_near bin_place km square edges halfway
    bin_place_lem n e = ap nothing_near_in (only ∙ ap (λ (n : ℕ). place 1600 2500 n ∷ []) e)

    pub p10_off : count_of (get_or far.cells 0 0) ≡ 60 → nothing_near grid far ≡ Some 125
    p10_off e = bin_place_lem 60 e ∙ sixty

    pub p10_few : count_of (get_or far.cells 0 0) ≡ 59 → nothing_near grid far ≡ None
    p10_few e = bin_place_lem 59 e ∙ fifty_nine

  -- 255 positions in cell (e, n) = (1, 1), number 820, one in (1, 3), number 860, and one in bin 0: the two cells are skipped
  pub nearest_skipped :
      places_heard grid far ≡ cell_place grid 820 ∷ cell_place grid 860 ∷ bin_place far.cells 0 ∷ []
      → count_of (get_or grid 820 0) ≡ 255 → count_of (get_or grid 860 0) ≡ 1 → count_of (get_or far.cells 0 0) ≡ 1 → nothing_near grid far ≡ Some 125
  unfolding nothing_near cell_place bin_place km square edges halfway
  nearest_skipped only a b c =
      ap nothing_near_in
      (only ∙ ap (λ (n : ℕ). place 2 2 n ∷ place 10 10 (count_of (get_or grid 860 0)) ∷ place 1600 2500 (count_of (get_or far.cells 0 0)) ∷ []) a
      ∙ ap (λ (n : ℕ). place 2 2 255 ∷ place 10 10 n ∷ place 1600 2500 (count_of (get_or far.cells 0 0)) ∷ []) b
      ∙ ap (λ (n : ℕ). place 2 2 255 ∷ place 10 10 1 ∷ place 1600 2500 n ∷ []) c)
      ∙ near_and_far
