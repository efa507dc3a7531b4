-- Weights of the elements of a list. In a list in order of a key, the key at which twice a running sum of weights first reaches their total is at most d exactly when
-- twice the weights of all elements with a key of at most d reach it (`reaching_within`): so the order is not asked for. Assumes nothing.
use mathlib.Core.Path.{◌≡◌, refl, sym, ap, ◌∙◌}
use mathlib.Core.Bool.{Bool, true, false, cond, true≢false}
use mathlib.Core.List.{List, [], ◌∷◌, ◌++◌}
use Prim.Native.Nat.{ℕ, ◌+◌, ◌*◌, ◌≤◌, ◌<◌}
use native.Mathlib.Nat.{zero-add}
use native.Mathlib.Omega.{arith}
use borrow.Author.Tests.{leb-true, leb-false, le-leb, lt-leb}
use lib.Dec.{leb}
use Rattle.near_field.specs.Sorted.{ascending}
use Rattle.near_field.proofs.Sorted.{sum_where, sum_ascending, From, from_ascending, within, none_within}
use Rattle.nearest.specs.Weights.{first_reaching, total}

-- ---- the weights of those that have p
module _ {A : Type 0} (p : A → Bool) (w : A → ℕ) where
  pub sum_append : (l m : List A) → sum_where p w (l ++ m) ≡ sum_where p w l + sum_where p w m
  unfolding sum_where
  sum_append [] m = omega arith
  sum_append (a ∷ l) m = let e = sum_append l m in omega arith

  pub sum_one : (a : A) → sum_where p w (a ∷ []) ≡ cond (p a) (w a) 0
  unfolding sum_where
  sum_one a = omega arith

-- what has p has q, so its weights are no more
more : (t u : Bool) (n : ℕ) → (t ≡ true → u ≡ true) → cond t n 0 ≤ cond u n 0
more true true n h = omega arith
more true false n h = absurd (true≢false (sym (h refl)))
more false u n h = omega arith

module _ {A : Type 0} (p q : A → Bool) (w : A → ℕ) where
  pub where_more : ((a : A) → p a ≡ true → q a ≡ true) → (l : List A) → sum_where p w l ≤ sum_where q w l
  unfolding sum_where
  where_more h [] = omega arith
  where_more h (a ∷ l) = omega (arith, more (p a) (q a) (w a) (h a), where_more h l)

  pub where_same : ((a : A) → p a ≡ q a) → (l : List A) → sum_where p w l ≡ sum_where q w l
  unfolding sum_where
  where_same h [] = refl
  where_same h (a ∷ l) = ap (λ (t : Bool). cond t (w a) 0 + sum_where p w l) (h a) ∙ ap (λ (n : ℕ). cond (q a) (w a) 0 + n) (where_same h l)

pub total_where : {A : Type 0} (w : A → ℕ) (l : List A) → total w l ≡ sum_where (λ a. true) w l
unfolding total sum_where
total_where w [] = refl
total_where w (a ∷ l) = ap (λ (n : ℕ). w a + n) (total_where w l)

-- ---- the key at which twice a running sum reaches the total
module _ {A : Type 0} (key : A → ℕ) where
  module _ (w : A → ℕ) (sum d : ℕ) where
    -- t: whether it is reached here; u: whether this one is within d; n: what is within d of the rest
    step : (t u : Bool) (a : A) (rest passed n : ℕ) → leb sum (2 * (passed + w a)) ≡ t → leb (key a) d ≡ u → 2 * passed < sum → (u ≡ false → n ≡ 0)
        → (t ≡ false → leb rest d ≡ leb sum (2 * (passed + w a + n)))
        → leb (cond t (key a) rest) d ≡ leb sum (2 * (passed + (cond u (w a) 0 + n)))
    step true true a rest passed n et eu lt z r = eu ∙ sym (le-leb sum (2 * (passed + (w a + n))) (omega (arith, leb-true sum (2 * (passed + w a)) et)))
    step true false a rest passed n et eu lt z r = eu ∙ sym (lt-leb sum (2 * (passed + (0 + n))) (omega (arith, z refl)))
    step false true a rest passed n et eu lt z r = let e : passed + w a + n ≡ passed + (w a + n) = omega arith in r refl ∙ ap (λ (m : ℕ). leb sum (2 * m)) e
    step false false a rest passed n et eu lt z r =
        r refl ∙ lt-leb sum (2 * (passed + w a + n)) (omega (arith, z refl, leb-false sum (2 * (passed + w a)) et)) ∙ sym (lt-leb sum (2 * (passed + (0 + n))) (omega (arith, z refl)))

    reached : (passed b : ℕ) (l : List A) → From key b l → 2 * passed < sum → sum ≤ 2 * (passed + sum_where (λ a. true) w l)
        → leb (first_reaching key w sum passed l) d ≡ leb sum (2 * (passed + sum_where (within key d) w l))
    unfolding first_reaching sum_where From
    reached passed b [] f lt ge = absurd (omega arith)
    reached passed b (a ∷ l) f lt ge =
        step (leb sum (2 * (passed + w a))) (leb (key a) d) a (first_reaching key w sum (passed + w a) l) passed (sum_where (within key d) w l) refl refl lt
        (λ e. none_within key w d (key a) l (leb-false (key a) d e) f.1)
        (λ e. reached (passed + w a) (key a) l f.1 (leb-false sum (2 * (passed + w a)) e) (omega arith))

  -- of a list sorted here, whose sums are those of the list as it was
  pub reaching_within : (w : A → ℕ) (d : ℕ) (l : List A) → 0 < total w l
      → leb (first_reaching key w (total w l) 0 (ascending key l)) d ≡ leb (total w l) (2 * sum_where (within key d) w l)
  reaching_within w d l h =
      reached w (total w l) d 0 0 (ascending key l) (from_ascending key l) (omega arith)
      (omega (arith, total_where w l, sum_ascending (λ (a : A). true) w key l))
      ∙ rw (sum_ascending (within key d) w key l) (ap (λ (n : ℕ). leb (total w l) (2 * n)) (zero-add (sum_where (within key d) w l)))
