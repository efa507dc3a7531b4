-- `band_of`: the edges rise, so those that h reaches come first, and the last of them is the one that `last_reached` finds.
use Rattle.std.proofs.Common.{rules, ◌≡◌, ℕ, zero, suc, ◌+◌, ◌-◌, ◌<◌, ◌≤◌, List, [], ◌∷◌, cond, drop, get_or, leb, pos, arith, refl, sym, ap, ◌∙◌, true, false}
use Rattle.std.specs.List.Sorted.{IsPartitionPoint}
use Rattle.std.proofs.lemmas.List.Sorted.{IsPartitionedBy-leb, IsPartitionPoint-from_clause, IsNonDecreasingBy-from_all_adjacent}
use Rattle.trig.specs.Series.{sin_h, term}
use Rattle.angles.specs.Sphere.{edges, edge, at_least, last_reached, band}
use Rattle.angles.proofs.sphere.band_of.Goals as goal

abbrev computed : List ℕ
computed = 71009154916249 ∷ 159766515854884 ∷ 284019126119689 ∷ 443759419097604 ∷ 638977486224016 ∷ 869661338580441 ∷ 1135796831512225 ∷ 1774354542655744 ∷ 3476021473346436 ∷ []

turn : (h k f : ℕ) → k < 9 → last_reached (pos h) (drop k edges) k f ≡ last_reached (pos h) (drop (suc k) edges) (suc k) (cond (leb (get_or computed k 0) h) k f)
unfolding at_least edge sin_h term
turn h zero f l = refl
turn h (suc zero) f l = refl
turn h (suc (suc zero)) f l = refl
turn h (suc (suc (suc zero))) f l = refl
turn h (suc (suc (suc (suc zero)))) f l = refl
turn h (suc (suc (suc (suc (suc zero))))) f l = refl
turn h (suc (suc (suc (suc (suc (suc zero)))))) f l = refl
turn h (suc (suc (suc (suc (suc (suc (suc zero))))))) f l = refl
turn h (suc (suc (suc (suc (suc (suc (suc (suc zero)))))))) f l = refl
turn h (suc (suc (suc (suc (suc (suc (suc (suc (suc k))))))))) f l = absurd (omega arith)

rise : (k d : ℕ) → k + 1 < 9 → get_or computed k d ≤ get_or computed (k + 1) d
rise zero d l = omega arith
rise (suc zero) d l = omega arith
rise (suc (suc zero)) d l = omega arith
rise (suc (suc (suc zero))) d l = omega arith
rise (suc (suc (suc (suc zero)))) d l = omega arith
rise (suc (suc (suc (suc (suc zero))))) d l = omega arith
rise (suc (suc (suc (suc (suc (suc zero)))))) d l = omega arith
rise (suc (suc (suc (suc (suc (suc (suc zero))))))) d l = omega arith
rise (suc (suc (suc (suc (suc (suc (suc (suc k)))))))) d l = absurd (omega arith)

-- the first i are reached, and no other
module _ (h i : ℕ) (b : i ≤ 9) (p : IsPartitionPoint (λ y. leb y h ≡ true) (λ y. leb y h ≡ false) computed i) where
  reached : (k : ℕ) → k ≤ i → last_reached (pos h) edges 0 0 ≡ last_reached (pos h) (drop k edges) k (k - 1)
  reached zero l = refl
  reached (suc k) l =
      let t : leb (get_or computed k 0) h ≡ true = p.0 k 0 (omega arith) (omega arith) in
      reached k (omega arith) ∙ turn h k (k - 1) (omega arith) ∙ rw t (ap (last_reached (pos h) (drop (suc k) edges) (suc k)) (omega arith))

  others : (m k : ℕ) → m + k ≡ 9 → i ≤ k → last_reached (pos h) (drop k edges) k (i - 1) ≡ i - 1
  others zero k e l = let q : k ≡ 9 = omega (arith, e) in rw q refl
  others (suc m) k e l =
      let t : leb (get_or computed k 0) h ≡ false = p.1 k 0 l (omega arith) in
      turn h k (i - 1) (omega arith) ∙ rw t (others m (suc k) (omega (arith, e)) (omega arith))

  last : i - 1 ≡ band (pos h)
  unfolding band
  last = sym (reached i (omega arith) ∙ others (9 - i) i (omega arith) (omega arith))

pub returns : goal.returns
returns c =
    let h = c.args.h in
    let i = c.partition_point.result in
    let p = IsPartitionPoint-from_clause (λ y. leb y h) computed i c.partition_point.ensures.partitioned (IsPartitionedBy-leb (λ y. y) computed h (IsNonDecreasingBy-from_all_adjacent (λ y. y) computed rise)) (λ a r f' k. search rules) in
    (c.saturating_sub.ensures ∙ last h i c.partition_point.ensures.bound p, omega arith)
