-- Lists in order of a key: element k has a key of at most d exactly when more than k elements have (`element_within`), so what is counted tells what is sorted.
-- For counts, and sums of weights, do not depend on the order, and in a list in order nothing behind a key above d is within d. Assumes nothing.
use mathlib.Core.Path.{◌≡◌, refl, sym, ap, ◌∙◌}
use mathlib.Core.Bool.{Bool, true, false, ◌&&◌, cond}
use mathlib.Core.List.{List, [], ◌∷◌}
use Prim.Native.Nat.{ℕ, zero, suc, ◌+◌, ◌≤◌, ◌<◌}
use native.Mathlib.Nat.{zero-add}
use native.Mathlib.Omega.{arith}
use borrow.Author.Tests.{lt-ltb, le-ltb, ltb-true, ltb-false, lt-leb, leb-true, leb-false}
use lib.Dec.{leb, ltb}
use lib.ListN.{length, get_or}
use Rattle.std.proofs.Math.Bool.{and-true}
use Rattle.cells.specs.Passes.{pass, how_many}
use Rattle.near_field.specs.Sorted.{insert, ascending, sorted, nth, those}

-- two tests that hold together
ltb_same : (m n a b : ℕ) → (m < n → a < b) → (n ≤ m → b ≤ a) → ltb m n ≡ ltb a b
ltb_same m n a b f g = by (ltb m n) refl where
  by : (t : Bool) → ltb m n ≡ t → ltb m n ≡ ltb a b
  by true e = e ∙ sym (lt-ltb a b (f (ltb-true m n e)))
  by false e = e ∙ sym (le-ltb a b (g (ltb-false m n e)))

-- ---- the weights of those that have p
unfoldable pub sum_where : {A : Type 0} → (A → Bool) → (A → ℕ) → List A → ℕ
sum_where p w [] = 0
sum_where p w (a ∷ l) = cond (p a) (w a) 0 + sum_where p w l

-- how many have p
abbrev pub count_where : {A : Type 0} → (A → Bool) → List A → ℕ
count_where p l = sum_where p (λ a. 1) l

pub length_where : {A : Type 0} (l : List A) → length l ≡ count_where (λ (a : A). true) l
unfolding sum_where
length_where [] = refl
length_where (a ∷ l) = let e = length_where l in omega arith

module _ {A : Type 0} (p : A → Bool) (w : A → ℕ) where
  sum_put : (a b : A) (l m : List A) (t : Bool) → sum_where p w m ≡ cond (p a) (w a) 0 + sum_where p w l
      → sum_where p w (cond t (a ∷ b ∷ l) (b ∷ m)) ≡ cond (p a) (w a) 0 + sum_where p w (b ∷ l)
  unfolding sum_where
  sum_put a b l m true e = refl
  sum_put a b l m false e = omega arith

  sum_insert : (key : A → ℕ) (a : A) (l : List A) → sum_where p w (insert key a l) ≡ cond (p a) (w a) 0 + sum_where p w l
  unfolding insert sum_where
  sum_insert key a [] = refl
  sum_insert key a (b ∷ l) = sum_put a b l (insert key a l) (leb (key a) (key b)) (sum_insert key a l)

  -- sums and counts do not depend on the order
  pub sum_ascending : (key : A → ℕ) (l : List A) → sum_where p w (ascending key l) ≡ sum_where p w l
  unfolding ascending sum_where
  sum_ascending key [] = refl
  sum_ascending key (a ∷ l) = sum_insert key a (ascending key l) ∙ ap (λ (n : ℕ). cond (p a) (w a) 0 + n) (sum_ascending key l)

pub ascending_length : {A : Type 0} (key : A → ℕ) (l : List A) → length (ascending key l) ≡ length l
ascending_length key l = length_where (ascending key l) ∙ sum_ascending (λ a. true) (λ a. 1) key l ∙ sym (length_where l)

module _ {A : Type 0} (key : A → ℕ) where
  -- ---- in order, from b on
  unfoldable pub From : ℕ → List A → Type 0
  From b [] = Unit {0}
  From b (a ∷ l) = (b ≤ key a) × From (key a) l

  from_put : (b : ℕ) (a e : A) (l : List A) (t : Bool) → leb (key a) (key e) ≡ t → b ≤ key a → From b (e ∷ l)
      → (key e ≤ key a → From (key e) (insert key a l)) → From b (cond t (a ∷ e ∷ l) (e ∷ insert key a l))
  unfolding From
  from_put b a e l true h ba f r = (ba, (leb-true (key a) (key e) h, f.1))
  from_put b a e l false h ba f r = (f.0, r (omega (arith, leb-false (key a) (key e) h)))

  from_insert : (b : ℕ) (a : A) (l : List A) → b ≤ key a → From b l → From b (insert key a l)
  unfolding insert From
  from_insert b a [] h f = (h, tt)
  from_insert b a (e ∷ l) h f = from_put b a e l (leb (key a) (key e)) refl h f (λ g. from_insert (key e) a l g f.1)

  pub from_ascending : (l : List A) → From 0 (ascending key l)
  unfolding ascending From
  from_ascending [] = tt
  from_ascending (a ∷ l) = from_insert 0 a (ascending key l) (omega arith) (from_ascending l)

  -- ---- what is within d
  abbrev pub within : ℕ → A → Bool
  within d a = leb (key a) d

  -- nothing of a list in order from above d is within d
  pub none_within : (w : A → ℕ) (d b : ℕ) (l : List A) → d < b → From b l → sum_where (within d) w l ≡ 0
  unfolding sum_where From
  none_within w d b [] h f = refl
  none_within w d b (a ∷ l) h f =
      let far : leb (key a) d ≡ false = lt-leb (key a) d (omega (arith, f.0)) in
      rw far (zero-add (sum_where (within d) w l) ∙ none_within w d (key a) l (omega (arith, f.0)) f.1)

  module _ (d : ℕ) where
    here : (t : Bool) (n : ℕ) → (t ≡ false → n ≡ 0) → t ≡ ltb 0 (cond t 1 0 + n)
    here true n h = sym (lt-ltb 0 (1 + n) (omega arith))
    here false n h = let e = h refl in sym (le-ltb 0 (0 + n) (omega arith))

    later : (t : Bool) (k n : ℕ) → (t ≡ false → n ≡ 0) → ltb k n ≡ ltb (suc k) (cond t 1 0 + n)
    later true k n h = ltb_same k n (suc k) (1 + n) (λ l. omega arith) (λ l. omega arith)
    later false k n h = let e = h refl in ltb_same k n (suc k) (0 + n) (λ l. omega arith) (λ l. omega arith)

    at_most : (b : ℕ) (l : List A) (k : ℕ) (o : A) → From b l → k < length l → leb (key (get_or l k o)) d ≡ ltb k (count_where (within d) l)
    unfolding sum_where From
    at_most b [] k o f h = absurd (omega arith)
    at_most b (a ∷ l) zero o f h = here (within d a) (count_where (within d) l) (λ e. none_within (λ a. 1) d (key a) l (leb-false (key a) d e) f.1)
    at_most b (a ∷ l) (suc k) o f h =
        at_most (key a) l k o f.1 (omega arith)
        ∙ later (within d a) k (count_where (within d) l) (λ e. none_within (λ a. 1) d (key a) l (leb-false (key a) d e) f.1)

  -- element k of a list sorted here is within d exactly when more than k of the list as it was are
  pub element_within : (d k : ℕ) (l : List A) (o : A) → k < length l → leb (key (get_or (ascending key l) k o)) d ≡ ltb k (count_where (within d) l)
  element_within d k l o h =
      at_most d 0 (ascending key l) k o (from_ascending l) (omega (arith, ascending_length key l)) ∙ ap (ltb k) (sum_ascending (within d) (λ (a : A). 1) key l)

-- ---- those of the first n that have p: how many of them have q is counted number by number
module _ (p : ℕ → Bool) (f : ℕ → ℕ) (q r : ℕ → Bool) (same : (i : ℕ) → (p i && q (f i)) ≡ r i) where
  one_more_lem : (b c : Bool) (x : ℕ) (xs : List ℕ) (n : ℕ) → q x ≡ c → count_where q xs ≡ n → count_where q (cond b (x ∷ xs) xs) ≡ cond (b && c) (n + 1) n
  unfolding sum_where
  one_more_lem true true x xs n h e = rw h (omega arith)
  one_more_lem true false x xs n h e = rw h (omega arith)
  one_more_lem false c x xs n h e = e

  those_where : (n : ℕ) → count_where q (those p f n) ≡ how_many r n
  unfolding those pass sum_where
  those_where zero = refl
  those_where (suc n) =
      one_more_lem (p n) (q (f n)) (f n) (those p f n) (how_many r n) refl (those_where n) ∙ ap (λ (t : Bool). cond t (how_many r n + 1) (how_many r n)) (same n)

module _ (p : ℕ → Bool) (f : ℕ → ℕ) (n : ℕ) where
  pub those_length : length (those p f n) ≡ how_many p n
  those_length = length_where (those p f n) ∙ those_where p f (λ (x : ℕ). true) p (λ i. and-true (p i)) n

  -- element k of those with p, ascending by f, is at most d where more than k of them are
  pub those_nth : (k d : ℕ) → k < how_many p n → leb (nth k (sorted (those p f n))) d ≡ ltb k (how_many (λ (i : ℕ). p i && leb (f i) d) n)
  those_nth k d h =
      element_within (λ (x : ℕ). x) d k (those p f n) 0 (omega (arith, those_length))
      ∙ ap (ltb k) (those_where p f (λ (x : ℕ). leb x d) (λ (i : ℕ). p i && leb (f i) d) (λ i. refl) n)
