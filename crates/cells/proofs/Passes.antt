-- The laws of passes, sums, firsts and tables that loops are proved by: a loop over 0 .. n holds its variable equal to a pass up
-- to i, and a turn is `pass_next`, `sum_step` or `table_fill`. Assumes nothing.
use mathlib.Core.Path.{◌≡◌, refl, sym, ap, ◌∙◌}
use mathlib.Core.Bool.{Bool, true, false, ◌&&◌, ◌||◌, cond, true≢false}
use mathlib.Core.Logic.{⊎_elim}
use mathlib.Core.List.{List, [], ◌∷◌, ◌++◌}
use Prim.Native.Nat.{ℕ, zero, suc, ◌+◌, ◌≤◌, ◌<◌}
use native.Mathlib.Nat.{eq-or-lt_of_le, le_of_suc-le-suc, le_antisymm}
use native.Mathlib.Numerals.{add-one}
use native.Mathlib.Omega.{arith}
use borrow.Author.Tests.{lt-ltb, le-ltb}
use lib.Dec.{ltb}
use lib.ListN.{length, get_or, take, set, length-append, get_or-append}
use lib.Seq.{get_or_at, take-suc-set, take_all}
use Rattle.std.proofs.Math.Bool.{or-true, or-false}
use Rattle.std.proofs.lemmas.Bool.{cases_lt, or_parts}
use Rattle.cells.specs.Passes.{pass, sum_of, how_many, some, first, table}

-- ---- passes
pub pass_next : {S : Type 0} (f : ℕ → S → S) (s : S) (i : ℕ) → pass f s (i + 1) ≡ f i (pass f s i)
unfolding pass
pass_next f s i = ap (pass f s) (add-one i)

pub pass_none : {S : Type 0} (f : ℕ → S → S) (s : S) → pass f s 0 ≡ s
unfolding pass
pass_none f s = refl

-- numbers that change nothing are passed over
pub pass_skip : {S : Type 0} (f : ℕ → S → S) (s : S) (a b : ℕ) → a ≤ b → ((i : ℕ) → a ≤ i → i < b → (x : S) → f i x ≡ x) → pass f s b ≡ pass f s a
unfolding pass
pass_skip f s a zero l h = let e : zero ≡ a = omega arith in ap (pass f s) e
pass_skip f s a (suc b) l h =
    ⊎_elim (λ (e : a ≡ suc b). ap (pass f s) (sym e))
    (λ (lt : a < suc b). h b (omega arith) (omega arith) (pass f s b) ∙ pass_skip f s a b (omega arith) (λ i p q x. h i p (omega arith) x))
    (eq-or-lt_of_le l)

pub pass_all : {S : Type 0} (f : ℕ → S → S) (s : S) (n : ℕ) → ((i : ℕ) → i < n → (x : S) → f i x ≡ x) → pass f s n ≡ s
pass_all f s n h = pass_skip f s 0 n (omega arith) (λ i p q x. h i q x) ∙ pass_none f s

-- two passes whose steps agree
pub pass_same : {S : Type 0} (f g : ℕ → S → S) (s : S) (n : ℕ) → ((i : ℕ) → i < n → (x : S) → f i x ≡ g i x) → pass f s n ≡ pass g s n
unfolding pass
pass_same f g s zero h = refl
pass_same f g s (suc n) h = h n (omega arith) (pass f s n) ∙ ap (g n) (pass_same f g s n (λ i l x. h i (omega arith) x))

-- ---- sums
added : (b : Bool) (n k : ℕ) → n + cond b k 0 ≡ cond b (n + k) n
added true n k = refl
added false n k = omega arith

-- a turn of a loop that adds up: what is added is f k if k has p, and else 0
pub sum_step : (p : ℕ → Bool) (f : ℕ → ℕ) (n r k : ℕ) → n ≡ sum_of p f k → r ≡ cond (p k) (f k) 0 → n + r ≡ sum_of p f (k + 1)
sum_step p f n r k e h =
    ap (λ (m : ℕ). m + r) e ∙ ap (λ (m : ℕ). sum_of p f k + m) h ∙ added (p k) (sum_of p f k) (f k)
    ∙ sym (pass_next (λ (i s : ℕ). cond (p i) (s + f i) s) 0 k)

-- ---- some
one_more_lem : (b : Bool) (n : ℕ) → ltb 0 (cond b (n + 1) n) ≡ (ltb 0 n || b)
one_more_lem true n = lt-ltb 0 (n + 1) (omega arith) ∙ sym (or-true (ltb 0 n))
one_more_lem false n = sym (or-false (ltb 0 n))

pub some_next : (p : ℕ → Bool) (n : ℕ) → some p (suc n) ≡ (some p n || p n)
unfolding pass
some_next p n = one_more_lem (p n) (how_many p n)

-- the same of a loop, whose turn is i + 1
pub some_turn : (p : ℕ → Bool) (n : ℕ) → some p (n + 1) ≡ (some p n || p n)
some_turn p n = ap (some p) (add-one n) ∙ some_next p n

pub some_same : (p q : ℕ → Bool) (n : ℕ) → ((i : ℕ) → i < n → p i ≡ q i) → some p n ≡ some q n
some_same p q n h =
    ap (ltb 0) (pass_same (λ (i s : ℕ). cond (p i) (s + 1) s) (λ (i s : ℕ). cond (q i) (s + 1) s) 0 n (λ i l s. ap (λ (b : Bool). cond b (s + 1) s) (h i l)))

pub some_none : (p : ℕ → Bool) (n : ℕ) → ((i : ℕ) → i < n → p i ≡ false) → some p n ≡ false
some_none p n h = ap (ltb 0) (pass_all (λ (i s : ℕ). cond (p i) (s + 1) s) 0 n (λ i l s. ap (λ (b : Bool). cond b (s + 1) s) (h i l)))

pub some_not : (p : ℕ → Bool) (n : ℕ) → some p n ≡ false → (i : ℕ) → i < n → p i ≡ false
some_not p zero e i l = absurd (omega arith)
some_not p (suc n) e i l =
    let h = or_parts (some p n) (p n) (sym (some_next p n) ∙ e) in
    ⊎_elim (λ (q : i ≡ n). ap p q ∙ h.1) (λ (lt : i < n). some_not p n h.0 i lt) (eq-or-lt_of_le (le_of_suc-le-suc l))

four : (a b c d : Bool) → ((a || b) || (c || d)) ≡ ((a || c) || (b || d))
four true b c d = refl
four false b true d = or-true b ∙ refl
four false true false d = refl
four false false false d = refl

pub some_or : (p q : ℕ → Bool) (n : ℕ) → some (λ (i : ℕ). p i || q i) n ≡ (some p n || some q n)
unfolding pass
some_or p q zero = refl
some_or p q (suc n) =
    some_next (λ (i : ℕ). p i || q i) n ∙ ap (λ (b : Bool). b || (p n || q n)) (some_or p q n)
    ∙ four (some p n) (some q n) (p n) (q n) ∙ ap (λ (b : Bool). b || (some q n || q n)) (sym (some_next p n)) ∙ ap (λ (b : Bool). some p (suc n) || b) (sym (some_next q n))

pub some_and : (b : Bool) (p : ℕ → Bool) (n : ℕ) → some (λ (i : ℕ). b && p i) n ≡ (b && some p n)
some_and true p n = refl
some_and false p n = some_none (λ (i : ℕ). false) n (λ i l. refl)

-- ---- the first
first_step : (b : Bool) (m n : ℕ) → m ≤ n → cond b m (suc m) ≤ suc n
first_step true m n l = omega arith
first_step false m n l = omega arith

pub first_le : (p : ℕ → Bool) (n : ℕ) → first p n ≤ n
unfolding first
first_le p zero = omega arith
first_le p (suc n) = first_step (p (first p n)) (first p n) n (first_le p n)

step_least : (p : ℕ → Bool) (m : ℕ) → ((d : ℕ) → d < m → p d ≡ false) → (b : Bool) → p m ≡ b → (d : ℕ) → d < cond b m (suc m) → p d ≡ false
step_least p m h true e d l = h d l
step_least p m h false e d l = ⊎_elim (λ (q : d ≡ m). ap p q ∙ e) (λ (lt : d < m). h d lt) (eq-or-lt_of_le (le_of_suc-le-suc l))

pub first_least : (p : ℕ → Bool) (n d : ℕ) → d < first p n → p d ≡ false
unfolding first
first_least p zero d l = absurd (omega arith)
first_least p (suc n) d l = step_least p (first p n) (first_least p n) (p (first p n)) refl d l

step_holds : (p : ℕ → Bool) (m n : ℕ) → (m < n → p m ≡ true) → (b : Bool) → p m ≡ b → cond b m (suc m) < suc n → p (cond b m (suc m)) ≡ true
step_holds p m n h true e l = e
step_holds p m n h false e l = absurd (true≢false (sym (h (omega arith)) ∙ e))

pub first_holds : (p : ℕ → Bool) (n : ℕ) → first p n < n → p (first p n) ≡ true
unfolding first
first_holds p zero l = absurd (omega arith)
first_holds p (suc n) l = step_holds p (first p n) n (first_holds p n) (p (first p n)) refl l

-- what a search that goes up by one, or by halves, has found
pub first_unique : (p : ℕ → Bool) (n k : ℕ) → k ≤ n → ((j : ℕ) → j < k → p j ≡ false) → (k < n → p k ≡ true) → first p n ≡ k
first_unique p n k l below here =
    le_antisymm
    (⊎_elim (λ (lt : k < first p n). absurd (true≢false (sym (here (omega (arith, first_le p n))) ∙ first_least p n k lt))) (λ (ge : first p n ≤ k). ge) (cases_lt k (first p n)))
    (⊎_elim (λ (lt : first p n < k). absurd (true≢false (sym (first_holds p n (omega arith)) ∙ below (first p n) lt))) (λ (ge : k ≤ first p n). ge) (cases_lt (first p n) k))

-- where p, once held, stays, the first is at most d exactly when p holds at d
pub first_bound : (p : ℕ → Bool) → ((a b : ℕ) → a ≤ b → p a ≡ true → p b ≡ true) → (n d : ℕ) → d < n → ltb (first p n) (suc d) ≡ p d
first_bound p mono n d l = by (p d) refl where
  by : (b : Bool) → p d ≡ b → ltb (first p n) (suc d) ≡ p d
  by true e =
      lt-ltb (first p n) (suc d)
      (⊎_elim (λ (lt : d < first p n). absurd (true≢false (sym e ∙ first_least p n d lt))) (λ (ge : first p n ≤ d). omega arith) (cases_lt d (first p n)))
      ∙ sym e
  by false e =
      le-ltb (first p n) (suc d)
      (⊎_elim (λ (lt : d < first p n). omega arith) (λ (ge : first p n ≤ d). absurd (true≢false (sym (mono (first p n) d ge (first_holds p n (omega arith))) ∙ e))) (cases_lt d (first p n)))
      ∙ sym e

-- ---- tables
pub table_same : {A : Type 0} (f g : ℕ → A) (n : ℕ) → ((k : ℕ) → k < n → f k ≡ g k) → table f n ≡ table g n
unfolding table
table_same f g zero h = refl
table_same f g (suc n) h = rw (table_same f g n (λ k l. h k (omega arith)), h n (omega arith))

module _ {A : Type 0} (f : ℕ → A) (d : A) where
  pub table_length : (n : ℕ) → length (table f n) ≡ n
  unfolding table
  table_length zero = refl
  table_length (suc n) = length-append (table f n) (f n ∷ []) ∙ (let e = table_length n in omega arith)

  pub table_at : (n i : ℕ) → i < n → get_or (table f n) i d ≡ f i
  unfolding table
  table_at zero i l = absurd (omega arith)
  table_at (suc n) i l =
      ⊎_elim (λ (e : i ≡ n). ap (λ (k : ℕ). get_or (table f n ++ (f n ∷ [])) k d) e ∙ get_or_at (table f n) (f n) [] d n (table_length n) ∙ sym (ap f e))
      (λ (lt : i < n). get_or-append (table f n) (f n ∷ []) d i (let e = table_length n in omega arith) ∙ table_at n i lt)
      (eq-or-lt_of_le (le_of_suc-le-suc l))

  pub table_none : [] ≡ table f 0
  unfolding table
  table_none = refl

  -- an array that is filled from its start
  pub table_fill : (xs : List A) (i : ℕ) (v : A) → i < length xs → take i xs ≡ table f i → v ≡ f i → take (i + 1) (set xs i v) ≡ table f (i + 1)
  unfolding table
  table_fill xs i v l e h =
      ap (λ (k : ℕ). take k (set xs i v)) (add-one i) ∙ take-suc-set xs i v l ∙ ap (λ (t : List A). t ++ (v ∷ [])) e
      ∙ ap (λ (u : A). table f i ++ (u ∷ [])) h ∙ sym (ap (table f) (add-one i))

  pub table_full : (xs : List A) (n : ℕ) → length xs ≡ n → take n xs ≡ table f n → xs ≡ table f n
  table_full xs n e h = sym (take_all n xs (omega arith)) ∙ h
