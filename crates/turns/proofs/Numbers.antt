-- The rows that a tick names, by number: from row s the j-th is (s + j) mod C, so C of them leave none out, and two ticks in a row name what one of both lengths
-- would. Facts on numbers alone.
use mathlib.Core.Path.{◌≡◌, refl, sym, ap, ◌∙◌, subst}
use Prim.Native.Nat.{ℕ, zero, suc, ◌+◌, ◌-◌, ◌%◌, ◌≤◌, ◌<◌}
use native.Mathlib.Omega.{arith}
use native.Mathlib.Nat.{mod-eq_of_lt, add-mod_left, zero-add}
use mathlib.Core.Bool.{true, false}
use mathlib.Core.List.{List, ◌∷◌, ◌++◌}
use lib.Dec.{eqb, ltb}
use Rattle.table.specs.Questions.{among}
use Rattle.table.proofs.Tests.{by_bool, or_1, or_2, eqb_yes, eqb_true, eqb_false, ltb_yes, ltb_true, ltb_false}
use Rattle.turns.specs.Turn.{start_of, following, named}

-- the row number j steps after i
abbrev pub onward : ℕ → ℕ → ℕ → ℕ
onward C zero i = i
onward C (suc j) i = onward C j (following C i)

module _ (C : ℕ) where
  pub following_below : (i : ℕ) → i < C → following C i < C
  following_below i h = by_bool (eqb (suc i) C) (λ p. rw p (omega arith)) (λ p. rw p (omega (arith, eqb_false (suc i) C p)))

  pub start_below : (next : ℕ) → 0 < C → start_of C next < C
  start_below next h = by_bool (ltb next C) (λ p. rw p (ltb_true next C p)) (λ p. rw p h)

  pub start_is : (i : ℕ) → i < C → start_of C i ≡ i
  start_is i h = rw (ltb_yes i C h)

  -- j steps are j more, going round at C
  pub onward_is : (j i : ℕ) → i < C → onward C j i ≡ (i + j) % C
  onward_is zero i h = sym (mod-eq_of_lt (omega arith) ∙ omega arith)
  onward_is (suc j) i h =
      by_bool (eqb (suc i) C)
      (λ p. rw p (onward_is j 0 (omega arith) ∙ ap (λ (n : ℕ). n % C) (zero-add j) ∙ sym (ap (λ (n : ℕ). n % C) (round (eqb_true (suc i) C p)) ∙ add-mod_left C j)))
      (λ p. rw p (onward_is j (suc i) (omega (arith, eqb_false (suc i) C p)) ∙ ap (λ (n : ℕ). n % C) (omega arith)))
    where
      round : suc i ≡ C → i + suc j ≡ C + j
      round e = omega arith

  -- a row number that is reached in fewer than m steps is among m that are named
  pub among_named : (m j i : ℕ) → j < m → among (onward C j i) (named C i m) ≡ true
  among_named zero j i h = absurd (omega arith)
  among_named (suc m) zero i h = or_1 (eqb i i) (among i (named C (following C i) m)) (eqb_yes i i refl)
  among_named (suc m) (suc j) i h = let a = onward C j (following C i) in or_2 (eqb a i) (among a (named C (following C i) m)) (among_named m j (following C i) (omega arith))

  -- C rows or more leave none out
  pub all_named : (m s i : ℕ) → s < C → i < C → C ≤ m → among i (named C s m) ≡ true
  all_named m s i hs hi hm =
      by_bool (ltb i s)
      (λ p. reached (C - s + i) (omega (arith, ltb_true i s p)) (ap (λ (n : ℕ). n % C) (before (ltb_true i s p)) ∙ add-mod_left C i ∙ mod-eq_of_lt hi))
      (λ p. reached (i - s) (omega arith) (ap (λ (n : ℕ). n % C) (behind p) ∙ mod-eq_of_lt hi))
    where
      before : i < s → s + (C - s + i) ≡ C + i
      before h = omega arith

      behind : ltb i s ≡ false → s + (i - s) ≡ i
      behind p = omega (arith, ltb_false i s p)

      reached : (j : ℕ) → j < m → (s + j) % C ≡ i → among i (named C s m) ≡ true
      reached j h e = subst (λ (x : ℕ). among x (named C s m) ≡ true) (onward_is j s hs ∙ e) (among_named m j s h)

  sums : (a b : ℕ) → suc (a + b) ≡ suc a + b
  sums a b = omega arith

  -- a rows, and then b more
  pub named_more : (a b i : ℕ) → named C i a ++ named C (onward C a i) b ≡ named C i (a + b)
  named_more zero b i = ap (named C i) (sym (zero-add b))
  named_more (suc a) b i = ap (λ (l : List ℕ). i ∷ l) (named_more a b (following C i)) ∙ ap (named C i) (sums a b)
