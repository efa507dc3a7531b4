-- The third nearest place, or the last of fewer, is under 60 km exactly when three places, or all of fewer, are: a law of lists in order (`element_within`),
-- so the code counts and does not sort. Assumes nothing.
use mathlib.Core.Path.{◌≡◌, refl, sym, ap, ◌∙◌}
use mathlib.Core.Bool.{Bool, true, false}
use mathlib.Core.List.{List, [], ◌∷◌}
use Prim.Native.Nat.{ℕ, suc, ◌-◌, ◌≤◌, ◌<◌, min}
use native.Mathlib.Omega.{arith}
use borrow.Author.Tests.{leb-true, leb-false, le-leb, lt-leb}
use lib.Dec.{leb, ltb, leb-suc-suc}
use lib.ListN.{length}
use Rattle.view.specs.declared.Far.{Far}
use Rattle.plane.specs.Plane.{square}
use Rattle.near_field.proofs.Sorted.{element_within}
use Rattle.nearest.specs.Weights.{total}
use Rattle.nearest.specs.Nothing.{Place, nearest_of, km, places_heard, places, third_or_last, third, positions_in}
use Rattle.nothing_near.specs.Counted.{near_cells}
use Rattle.nothing_near.proofs.Counted.{near_counted}

some_place : (l : List Place) → 0 < positions_in l → 0 < length l
unfolding positions_in total
some_place [] h = h
some_place (p ∷ l) h = omega arith

leb_same : (m n a b : ℕ) → (m ≤ n → a ≤ b) → (n < m → b < a) → leb m n ≡ leb a b
leb_same m n a b f g = by (leb m n) refl where
  by : (t : Bool) → leb m n ≡ t → leb m n ≡ leb a b
  by true e = e ∙ sym (le-leb a b (f (leb-true m n e)))
  by false e = e ∙ sym (lt-leb a b (g (leb-false m n e)))

-- it is under 60 km where three, or all of fewer, are
third_under : (grid : List ℕ) (far : Far) → 0 < positions_in (places_heard grid far) → leb (min 3 (places grid far)) (near_cells grid) ≡ ltb (third (places_heard grid far)).nearest (km 60)
unfolding third third_or_last places km square
third_under grid far h =
    let l = places_heard grid far in
    let some = some_place l h in
    leb_same (min 3 (length l)) (near_cells grid) (suc (min 2 (length l - 1))) (near_cells grid) (λ h. omega arith) (λ h. omega arith)
    ∙ sym (ap (ltb (min 2 (length l - 1))) (near_counted grid far))
    ∙ sym (element_within nearest_of (km 60 - 1) (min 2 (length l - 1)) l (record { nearest = 0; typical = 0; positions = 0 }) (omega arith))
    ∙ sym (leb-suc-suc (third l).nearest 575)

module _ (grid : List ℕ) (far : Far) (some : 0 < positions_in (places_heard grid far)) where
  pub none_near : near_cells grid ≡ 0 → false ≡ ltb (third (places_heard grid far)).nearest (km 60)
  unfolding places
  none_near e = sym (lt-leb (min 3 (places grid far)) (near_cells grid) (let h = some_place (places_heard grid far) some in omega arith)) ∙ third_under grid far some

  pub three_near : 3 ≤ near_cells grid → true ≡ ltb (third (places_heard grid far)).nearest (km 60)
  three_near h = sym (le-leb (min 3 (places grid far)) (near_cells grid) (omega arith)) ∙ third_under grid far some

  pub few_near : (n near : ℕ) → n ≡ places grid far → near ≡ near_cells grid → near < 3 → leb n near ≡ ltb (third (places_heard grid far)).nearest (km 60)
  few_near n near en e h = leb_same n near (min 3 (places grid far)) (near_cells grid) (λ l. omega arith) (λ l. omega arith) ∙ third_under grid far some
