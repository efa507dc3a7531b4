-- The counts of specs/Counted, and the sums of crate `nearest`, are what the places heard have: their number, their positions, and how many are under 60 km.
-- Assumes nothing.
use mathlib.Core.Path.{◌≡◌, refl, sym, ap, ◌∙◌}
use mathlib.Core.Bool.{Bool, true, false, ◌&&◌, cond}
use mathlib.Core.List.{List, [], ◌∷◌, ◌++◌}
use Prim.Native.Nat.{ℕ, zero, suc, ◌+◌, ◌-◌, ◌%◌}
use native.Mathlib.Nat.{mod-lt, zero-lt-suc, add-zero}
use native.Mathlib.Omega.{arith}
use borrow.Author.Tests.{ltb-true, lt-ltb, lt-leb}
use lib.Dec.{leb, ltb}
use lib.ListN.{length, get_or}
use Rattle.cells.specs.Cells.{count_of, occupied_word}
use Rattle.cells.specs.Passes.{pass, sum_of}
use Rattle.cells.proofs.Passes.{pass_all}
use Rattle.view.specs.declared.Far.{Far}
use Rattle.view.specs.View.{occupied_among}
use Rattle.plane.specs.Plane.{square, from_site}
use Rattle.near_field.specs.Near.{cells_within}
use Rattle.near_field.proofs.Sorted.{sum_where, count_where, length_where, within}
use Rattle.nearest.specs.Nothing.{Place, nearest_of, positions_of, km, edges, cell_place, bin_place, heard, places_heard, positions_in}
use Rattle.view.specs.View.{positions_among}
use Rattle.nothing_near.specs.Counted.{near_cells}
use Rattle.nothing_near.proofs.Weights.{sum_append, sum_one, total_where}
use Rattle.nearest.proofs.Sums.{sum_next}
use Rattle.nearest.proofs.Steps.{every, every_at}

-- ---- the places heard
module _ (place : ℕ → Place) (words : List ℕ) (p : Place → Bool) (w : Place → ℕ) (q : ℕ → Bool) (f : ℕ → ℕ)
    (same : (i : ℕ) → cond (occupied_word (get_or words i 0)) (cond (p (place i)) (w (place i)) 0) 0 ≡ cond (q i) (f i) 0) where
  grown : (o : Bool) (i : ℕ) (l : List Place)
      → sum_where p w (cond o (l ++ (place i ∷ [])) l) ≡ sum_where p w l + cond o (cond (p (place i)) (w (place i)) 0) 0
  grown true i l = sum_append p w l (place i ∷ []) ∙ ap (λ (n : ℕ). sum_where p w l + n) (sum_one p w (place i))
  grown false i l = omega arith

  -- the sum over the places heard, where each adds what its number adds
  pub heard_sum : (n : ℕ) → sum_where p w (heard place words n) ≡ sum_of q f n
  unfolding heard pass sum_where
  heard_sum zero = refl
  heard_sum (suc n) =
      grown (occupied_word (get_or words n 0)) n (heard place words n)
      ∙ ap (λ (m : ℕ). m + cond (occupied_word (get_or words n 0)) (cond (p (place n)) (w (place n)) 0) 0) (heard_sum n)
      ∙ ap (λ (m : ℕ). sum_of q f n + m) (same n) ∙ sym (sum_next q f n)

-- ---- a sum over the places heard is the cells' and the bins'
module _ (grid : List ℕ) (far : Far) (p : Place → Bool) (w : Place → ℕ) where
  abbrev cell_term : ℕ → ℕ
  cell_term i = cond (occupied_word (get_or grid i 0)) (cond (p (cell_place grid i)) (w (cell_place grid i)) 0) 0

  abbrev bin_term : ℕ → ℕ
  bin_term j = cond (occupied_word (get_or far.cells j 0)) (cond (p (bin_place far.cells j)) (w (bin_place far.cells j)) 0) 0

  pub both_sums : (q r : ℕ → Bool) (f g : ℕ → ℕ) → ((i : ℕ) → cell_term i ≡ cond (q i) (f i) 0) → ((j : ℕ) → bin_term j ≡ cond (r j) (g j) 0)
      → sum_where p w (places_heard grid far) ≡ sum_of q f 1600 + sum_of r g 72
  unfolding places_heard
  both_sums q r f g h k =
      sum_append p w (heard (cell_place grid) grid 1600) (heard (bin_place far.cells) far.cells 72)
      ∙ ap (λ (n : ℕ). n + sum_where p w (heard (bin_place far.cells) far.cells 72)) (heard_sum (cell_place grid) grid p w q f h 1600)
      ∙ ap (λ (n : ℕ). sum_of q f 1600 + n) (heard_sum (bin_place far.cells) far.cells p w r g k 72)

-- what is not occupied has no positions
pub only_occupied : (c : ℕ) (t : Bool) → cond (ltb 0 c) (cond t c 0) 0 ≡ cond t c 0
only_occupied zero true = refl
only_occupied zero false = refl
only_occupied (suc c) t = rw (lt-ltb 0 (suc c) (omega arith))

pub positions_counted : (grid : List ℕ) (far : Far) → positions_in (places_heard grid far) ≡ positions_among grid 1600 + positions_among far.cells 72
unfolding positions_in positions_among cell_place bin_place
positions_counted grid far =
    total_where positions_of (places_heard grid far)
    ∙ both_sums grid far (λ p. true) positions_of (λ i. true) (λ j. true) (λ i. count_of (get_or grid i 0)) (λ j. count_of (get_or far.cells j 0))
    (λ i. only_occupied (count_of (get_or grid i 0)) true) (λ j. only_occupied (count_of (get_or far.cells j 0)) true)

pub places_counted : (grid : List ℕ) (far : Far) → length (places_heard grid far) ≡ occupied_among grid 1600 + occupied_among far.cells 72
unfolding occupied_among
places_counted grid far =
    length_where (places_heard grid far)
    ∙ both_sums grid far (λ p. true) (λ p. 1) (λ i. occupied_word (get_or grid i 0)) (λ j. occupied_word (get_or far.cells j 0)) (λ i. 1) (λ j. 1) (λ i. refl) (λ j. refl)

-- ---- under 60 km: no bin is, since the first edge is 100 km
far_bin_lem : (j : ℕ) → leb (km (get_or edges (j % 9) 0)) (km 60 - 1) ≡ false
unfolding km square edges every
far_bin_lem j = lt-leb (km (get_or edges (j % 9) 0)) (km 60 - 1) (ltb-true (km 60 - 1) (km (get_or edges (j % 9) 0)) (every_at (λ (b : ℕ). ltb (km 60 - 1) (km (get_or edges b 0))) 9 refl (j % 9) (mod-lt j (zero-lt-suc 8))))

none_of : (o : Bool) → ◌≡◌ {A = ℕ} (cond o 0 0) 0
none_of true = refl
none_of false = refl

both : (o t : Bool) → ◌≡◌ {A = ℕ} (cond o (cond t 1 0) 0) (cond (o && t) 1 0)
both true t = refl
both false t = refl

pub near_counted : (grid : List ℕ) (far : Far) → count_where (within nearest_of (km 60 - 1)) (places_heard grid far) ≡ near_cells grid
unfolding near_cells cell_place bin_place
near_counted grid far =
    both_sums grid far (within nearest_of (km 60 - 1)) (λ p. 1) (λ i. occupied_word (get_or grid i 0) && leb (from_site i) (km 60 - 1)) (λ j. false) (λ i. 1) (λ j. 0)
    (λ i. both (occupied_word (get_or grid i 0)) (leb (from_site i) (km 60 - 1)))
    (λ j. ap (λ (t : Bool). cond (occupied_word (get_or far.cells j 0)) (cond t 1 0) 0) (far_bin_lem j) ∙ none_of (occupied_word (get_or far.cells j 0)))
    ∙ ap (λ (n : ℕ). cells_within grid (km 60 - 1) + n) (pass_all (λ (i s : ℕ). cond false (s + 0) s) 0 72 (λ i l s. refl))
    ∙ add-zero (cells_within grid (km 60 - 1))
