-- The answers: one law for each way out of the code of crate `nothing_near`. Assumes nothing.
use Rattle.std.specs.Prelude.{Some, None}
use mathlib.Core.Path.{◌≡◌, sym, ap, ◌∙◌}
use mathlib.Core.Bool.{Bool, true, false}
use mathlib.Core.List.{List}
use Prim.Native.Nat.{ℕ, ◌*◌, ◌≤◌, ◌<◌, max}
use borrow.Author.Tests.{ltb-true, ltb-false, le-leb, lt-leb}
use lib.Dec.{ltb}
use Rattle.view.specs.declared.Far.{Far}
use Rattle.plane.specs.Plane.{steps, said}
use Rattle.nearest.specs.Nothing.{km, places_heard, third, from_third, positions_in, typical_in, nothing_near_in, nothing_near}

module _ (grid : List ℕ) (far : Far) (sum : ℕ) (is : sum ≡ positions_in (places_heard grid far)) where
  pub few_positions : sum < 60 → None ≡ nothing_near grid far
  unfolding nothing_near nothing_near_in
  few_positions h = rw (lt-leb 60 (positions_in (places_heard grid far)) (rw is at h))

  module _ (enough : 60 ≤ sum) (near : Bool) (third_is : near ≡ ltb (third (places_heard grid far)).nearest (km 60)) where
    pub some_near : near ≡ true → None ≡ nothing_near grid far
    unfolding nothing_near nothing_near_in
    some_near h =
        rw (
          le-leb 60 (positions_in (places_heard grid far)) (rw is at enough),
          lt-leb (km 60) (third (places_heard grid far)).nearest (ltb-true (third (places_heard grid far)).nearest (km 60) (sym third_is ∙ h)),
        )

    pub is_off : near ≡ false → (k off : ℕ) → k ≡ steps (typical_in (from_third (places_heard grid far))) 1 → off ≡ 5 * max 1 k → Some off ≡ nothing_near grid far
    unfolding nothing_near nothing_near_in said
    is_off h k off e o =
        rw (
          le-leb 60 (positions_in (places_heard grid far)) (rw is at enough),
          le-leb (km 60) (third (places_heard grid far)).nearest (ltb-false (third (places_heard grid far)).nearest (km 60) (sym third_is ∙ h)),
        )
        (ap Some (o ∙ ap (λ (n : ℕ). 5 * max 1 n) e))
