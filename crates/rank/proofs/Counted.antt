-- Of an ascending list, x is at most number k exactly when at most k of the list are below x. So number k of a list in ascending
-- order is the largest of it that has at most k below, which is what `nth` looks for. Assumes nothing.
use mathlib.Core.Path.{◌≡◌, refl, sym, ap, ◌∙◌, subst}
use mathlib.Core.Bool.{Bool, true, false, cond, true≢false}
use mathlib.Core.List.{List, [], ◌∷◌}
use Prim.Native.Nat.{ℕ, zero, suc, ◌+◌, ◌≤◌, ◌<◌}
use native.Mathlib.Nat.{not-suc-le-zero, le_of_suc-le-suc, le_trans, le_of_eq, le_of_lt, lt_of_lt_of_le}
use native.Mathlib.Omega.{arith}
use borrow.Author.Tests.{le-ltb, ltb-true, ltb-false, eq-eqb, eqb-true}
use lib.Dec.{T, ltb, eqb}
use lib.Ieee.{Float, nan, inf, fin, binary64, of_bits, fits, div, lt}
use lib.ListN.{length, get_or}
use Rattle.root.specs.Root.{units_of, plain}
use Rattle.rank.specs.Rank.{insert, sorted, Good, AllGood, AtMost, Ascending, count}
use Rattle.root.proofs.Units.{lt_units}
use Rattle.root.proofs.Nearest.{by_units}
use Rattle.rank.proofs.Order.{no_less, weaker, sorted_good, sorted_ascending, sorted_count}

-- ---- lists
pub at_good : (l : List Float) (j : ℕ) → j < length l → AllGood l → Good (get_or l j nan)
at_good [] j h a = absurd (not-suc-le-zero h)
at_good (x ∷ l) zero h a = a.0
at_good (x ∷ l) (suc j) h a = at_good l j (le_of_suc-le-suc h) a.1

at_most : (x : Float) (l : List Float) (j : ℕ) → j < length l → AtMost x l → units_of x ≤ units_of (get_or l j nan)
at_most x [] j h a = absurd (not-suc-le-zero h)
at_most x (y ∷ l) zero h a = a.0
at_most x (y ∷ l) (suc j) h a = at_most x l j (le_of_suc-le-suc h) a.1

insert_length : (x : Float) (l : List Float) → length (insert x l) ≡ suc (length l)
unfolding insert
insert_length x [] = refl
insert_length x (y ∷ l) = ap suc (insert_length (cond (lt x y) y x) l)

pub sorted_length : (l : List Float) → length (sorted l) ≡ length l
unfolding sorted
sorted_length [] = refl
sorted_length (x ∷ l) = insert_length x (sorted l) ∙ ap suc (sorted_length l)

-- one that passes a test is somewhere, and one that is somewhere is counted
pub record Found (p : Float → Bool) (l : List Float) : Type 0 where
  pub at : ℕ
  pub inside : at < length l
  pub passes : p (get_or l at nan) ≡ true

counted : (p : Float → Bool) (l : List Float) → 1 ≤ count p l → Found p l
counted p [] h = absurd (not-suc-le-zero h)
counted p (x ∷ l) h = by (p x) refl (counted p l) h where
  by : (b : Bool) → p x ≡ b → (1 ≤ count p l → Found p l) → 1 ≤ cond b 1 0 + count p l → Found p (x ∷ l)
  by true e f h = record { at = 0; inside = omega arith; passes = e }
  by false e f h = let r = f (omega arith) in record { at = suc r.at; inside = omega (arith, r.inside); passes = r.passes }

counts : (p : Float → Bool) (l : List Float) (j : ℕ) → j < length l → p (get_or l j nan) ≡ true → 1 ≤ count p l
counts p [] j h e = absurd (not-suc-le-zero h)
counts p (x ∷ l) zero h e = let c : ◌≡◌ {A = ℕ} (cond (p x) 1 0) 1 = rw e in omega arith
counts p (x ∷ l) (suc j) h e = let c = counts p l j (le_of_suc-le-suc h) e in omega arith

-- ---- how many are below x, in an ascending list
abbrev pub below : Float → List Float → ℕ
below x l = count (λ (y : Float). lt y x) l

less : (x y : Float) → Good x → Good y → lt x y ≡ true → units_of x < units_of y
less x y g h e = ltb-true (units_of x) (units_of y) (sym (lt_units x y g.0 g.1 h.0 h.1) ∙ e)

not_less : (x y : Float) → Good x → Good y → units_of y ≤ units_of x → lt x y ≡ false
not_less x y g h u = lt_units x y g.0 g.1 h.0 h.1 ∙ le-ltb (units_of x) (units_of y) u

none_below : (x : Float) (l : List Float) → Good x → AllGood l → AtMost x l → below x l ≡ 0
none_below x [] g a s = refl
none_below x (y ∷ l) g a s = let e : ◌≡◌ {A = ℕ} (cond (lt y x) 1 0) 0 = rw (not_less y x a.0 g s.0) in omega (arith, none_below x l g a.1 s.1)

few_below : (x : Float) (l : List Float) (k : ℕ) → Good x → AllGood l → Ascending l → k < length l → units_of x ≤ units_of (get_or l k nan) → below x l ≤ k
few_below x [] k g a s h u = absurd (not-suc-le-zero h)
few_below x (y ∷ l) zero g a s h u = omega (arith, none_below x (y ∷ l) g a (u, weaker x y l u s.0))
few_below x (y ∷ l) (suc k) g a s h u = by (lt y x) refl (few_below x l k g a.1 s.1 (le_of_suc-le-suc h) u)
  where
    by : (b : Bool) → lt y x ≡ b → below x l ≤ k → cond b 1 0 + below x l ≤ suc k
    by true e f = omega arith
    by false e f = omega arith

at_least : (x : Float) (l : List Float) (k : ℕ) → Good x → AllGood l → Ascending l → k < length l → below x l ≤ k → units_of x ≤ units_of (get_or l k nan)
at_least x [] k g a s h b = absurd (not-suc-le-zero h)
at_least x (y ∷ l) zero g a s h b = by (lt y x) refl b
  where
    by : (t : Bool) → lt y x ≡ t → cond t 1 0 + below x l ≤ 0 → units_of x ≤ units_of y
    by true e b = absurd (omega arith)
    by false e b = no_less y x a.0 g e
at_least x (y ∷ l) (suc k) g a s h b = by (lt y x) refl b (at_least x l k g a.1 s.1 (le_of_suc-le-suc h))
  where
    by : (t : Bool) → lt y x ≡ t → cond t 1 0 + below x l ≤ suc k → (below x l ≤ k → units_of x ≤ units_of (get_or l k nan)) → units_of x ≤ units_of (get_or l k nan)
    by true e b f = f (omega arith)
    by false e b f = le_trans (no_less y x a.0 g e) (at_most y l k (le_of_suc-le-suc h) s.0)

-- ---- number k in ascending order of a list in any order
abbrev pub ranked : List Float → ℕ → Float
ranked l k = get_or (sorted l) k nan

-- The first i are passed. Number k lies from low up to below high, and none of those passed lies above low and not above number k.
pub record Between (l : List Float) (k i : ℕ) (low high : Float) : Type 0 where
  pub good : Good low
  pub from : units_of low ≤ units_of (ranked l k)
  pub under : (x : Float) → Good x → lt x high ≡ false → units_of (ranked l k) < units_of x
  pub passed : (j : ℕ) → j < i → units_of (get_or l j nan) ≤ units_of (ranked l k) → units_of (get_or l j nan) ≤ units_of low

module _ (l : List Float) (k : ℕ) (a : AllGood l) (h : k < length l) where
  inside : k < length (sorted l)
  inside = omega (arith, sorted_length l)

  ranked_good : Good (ranked l k)
  ranked_good = at_good (sorted l) k inside (sorted_good l a)

  within : (x : Float) → Good x → below x l ≤ k → units_of x ≤ units_of (ranked l k)
  within x g b = at_least x (sorted l) k g (sorted_good l a) (sorted_ascending l a) inside (omega (arith, sorted_count (λ (y : Float). lt y x) l))

  beyond : (x : Float) → Good x → k < below x l → units_of (ranked l k) < units_of x
  beyond x g b = by (ltb (units_of (ranked l k)) (units_of x)) refl
    where
      by : (t : Bool) → ltb (units_of (ranked l k)) (units_of x) ≡ t → units_of (ranked l k) < units_of x
      by true e = ltb-true (units_of (ranked l k)) (units_of x) e
      by false e =
          absurd (omega (arith, few_below x (sorted l) k g (sorted_good l a) (sorted_ascending l a) inside (ltb-false (units_of (ranked l k)) (units_of x) e), sorted_count (λ (y : Float). lt y x) l, b))

  -- it is one of the list
  there : Found (λ (y : Float). eqb (units_of y) (units_of (ranked l k))) l
  there =
      counted _ l
      (subst (λ (n : ℕ). 1 ≤ n) (sorted_count _ l) (counts (λ (y : Float). eqb (units_of y) (units_of (ranked l k))) (sorted l) k inside (eq-eqb (units_of (ranked l k)) (units_of (ranked l k)) refl)))

  module _ (i : ℕ) (low high : Float) (s : Between l k i low high) (in_list : i < length l) where
    abbrev x : Float
    x = get_or l i nan

    one_more_lem : (low' : Float) → units_of low ≤ units_of low' → (units_of x ≤ units_of (ranked l k) → units_of x ≤ units_of low')
        → (j : ℕ) → j < i + 1 → units_of (get_or l j nan) ≤ units_of (ranked l k) → units_of (get_or l j nan) ≤ units_of low'
    one_more_lem low' u here j q r = by (ltb j i) refl
      where
        by : (t : Bool) → ltb j i ≡ t → units_of (get_or l j nan) ≤ units_of low'
        by true e = le_trans (s.passed j (ltb-true j i e) r) u
        by false e =
            let n : i ≡ j = omega (arith, ltb-false j i e) in
            subst (λ (m : ℕ). units_of (get_or l m nan) ≤ units_of (ranked l k) → units_of (get_or l m nan) ≤ units_of low') n here r

    pub not_above : lt low x ≡ false → Between l k (i + 1) low high
    not_above e =
        record { good = s.good; from = s.from; under = s.under; passed = one_more_lem low (omega arith) (λ r. no_less low x s.good (at_good l i in_list a) e) }

    pub not_under : lt x high ≡ false → Between l k (i + 1) low high
    not_under e =
        record { good = s.good; from = s.from; under = s.under; passed = one_more_lem low (omega arith) (λ r. absurd (omega (arith, s.under x (at_good l i in_list a) e))) }

    pub raised : lt low x ≡ true → below x l ≤ k → Between l k (i + 1) x high
    raised e b =
        let g = at_good l i in_list a in
        record { good = g; from = within x g b; under = s.under; passed = one_more_lem x (le_of_lt (less low x s.good g e)) (λ r. omega arith) }

    pub lowered : k < below x l → Between l k (i + 1) low x
    lowered b =
        let g = at_good l i in_list a in
        record {
          good = s.good;
          from = s.from;
          under = λ y gy e. lt_of_lt_of_le (beyond x g b) (no_less y x gy g e);
          passed = one_more_lem low (omega arith) (λ r. absurd (omega (arith, beyond x g b)));
        }

  pub ended : (i : ℕ) (low high : Float) → Between l k i low high → length l ≤ i → low ≡ ranked l k
  ended i low high s e =
      let t = there in
      let n : units_of (get_or l t.at nan) ≡ units_of (ranked l k) = eqb-true _ _ t.passes in
      let up : units_of (get_or l t.at nan) ≤ units_of low = s.passed t.at (omega (arith, t.inside)) (le_of_eq n) in
      by_units low (ranked l k) s.good.0 s.good.1 ranked_good.0 ranked_good.1 (omega (arith, s.from))

-- none is passed: +0 is at most each, and each is below the infinity 1 / 0
pub begun : (l : List Float) (k : ℕ) → Between l k 0 (of_bits binary64 0) (div binary64 (of_bits binary64 0x3ff0_0000_0000_0000) (of_bits binary64 0))
unfolding of_bits div lt fits
begun l k = record { good = (tt, tt); from = omega arith; under = λ x g e. absurd (under x g.1 e); passed = λ j q. absurd (not-suc-le-zero q) }
  where
    under : (x : Float) → T (plain x) → lt x (inf false) ≡ false → ⊥
    under nan g e = g
    under (inf s) g e = g
    under (fin s m e) g t = let z : true ≡ false = t in true≢false z
