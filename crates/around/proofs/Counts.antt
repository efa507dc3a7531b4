-- Counts over a part of the numbers: what two predicates that agree there, or one that holds nowhere there, count. Assumes nothing.
use mathlib.Core.Path.{◌≡◌, refl, ap, ◌∙◌}
use mathlib.Core.Bool.{Bool, true, false, ◌||◌, cond}
use mathlib.Core.Logic.{⊎_elim}
use mathlib.Core.List.{List, [], ◌∷◌}
use Prim.Native.Nat.{ℕ, zero, suc, ◌+◌, ◌-◌, ◌≤◌, ◌<◌}
use native.Mathlib.Nat.{eq-or-lt_of_le}
use native.Mathlib.Omega.{arith}
use borrow.Author.Tests.{lt-ltb, le-ltb, ltb-true, ltb-false}
use lib.Dec.{ltb}
use lib.ListN.{get_or}
use Rattle.cells.specs.Passes.{pass, how_many, table}
use Rattle.cells.proofs.Passes.{pass_skip, table_at}
use Rattle.around.specs.Marks.{occ}
use Rattle.around.specs.Counts.{counts_of}

up : (b : Bool) (n : ℕ) → n ≤ cond b (n + 1) n
up true n = omega arith
up false n = omega arith

few : (b : Bool) (n m : ℕ) → n ≤ m → cond b (n + 1) n ≤ suc m
few true n m h = omega arith
few false n m h = omega arith

-- no more than have passed
pub count_le : (p : ℕ → Bool) (n : ℕ) → how_many p n ≤ n
unfolding pass
count_le p zero = omega arith
count_le p (suc n) = few (p n) (how_many p n) n (count_le p n)

pub count_mono : (p : ℕ → Bool) (a b : ℕ) → a ≤ b → how_many p a ≤ how_many p b
unfolding pass
count_mono p a zero l = let e : a ≡ zero = omega arith in rw e (omega arith)
count_mono p a (suc b) l =
    ⊎_elim (λ (e : a ≡ suc b). rw e (omega arith))
    (λ (lt : a < suc b). omega (arith, count_mono p a b (omega arith), up (p b) (how_many p b)))
    (eq-or-lt_of_le l)

less : (b : Bool) (n m : ℕ) → n ≤ m → cond b (n + 1) n ≤ m + 1
less true n m h = omega arith
less false n m h = omega arith

-- no more in a part than it has numbers
pub count_less : (p : ℕ → Bool) (a b : ℕ) → a ≤ b → how_many p b ≤ how_many p a + (b - a)
unfolding pass
count_less p a zero l = let e : a ≡ zero = omega arith in rw e (omega arith)
count_less p a (suc b) l =
    ⊎_elim (λ (e : a ≡ suc b). rw e (omega arith))
    (λ (lt : a < suc b). omega (arith, less (p b) (how_many p b) (how_many p a + (b - a)) (count_less p a b (omega arith))))
    (eq-or-lt_of_le l)

-- where p holds nowhere
pub count_skip : (p : ℕ → Bool) (a b : ℕ) → a ≤ b → ((i : ℕ) → a ≤ i → i < b → p i ≡ false) → how_many p b ≡ how_many p a
count_skip p a b l h = pass_skip (λ (i s : ℕ). cond (p i) (s + 1) s) 0 a b l (λ i k m s. ap (λ (t : Bool). cond t (s + 1) s) (h i k m))

both : (b : Bool) (m n j k : ℕ) → m + j ≡ k + n → cond b (m + 1) m + j ≡ k + cond b (n + 1) n
both true m n j k e = omega arith
both false m n j k e = e

-- where p and q agree, both count as many
pub count_span : (p q : ℕ → Bool) (a b : ℕ) → a ≤ b → ((i : ℕ) → a ≤ i → i < b → p i ≡ q i) → how_many p b + how_many q a ≡ how_many p a + how_many q b
unfolding pass
count_span p q a zero l h = let e : a ≡ zero = omega arith in rw e
count_span p q a (suc b) l h =
    ⊎_elim (λ (e : a ≡ suc b). rw e)
    (λ (lt : a < suc b). rw (h b (omega arith) (omega arith)) (both (q b) (how_many p b) (how_many q b) (how_many q a) (how_many p a) (count_span p q a b (omega arith) (λ i m n. h i m (omega arith)))))
    (eq-or-lt_of_le l)

-- one that has p is counted
pub some_at : (p : ℕ → Bool) (i n : ℕ) → i < n → p i ≡ true → 0 < how_many p n
unfolding pass
some_at p i n l e = omega (arith, count_mono p (suc i) n l, one (p i) (how_many p i) e) where
  one : (b : Bool) (m : ℕ) → b ≡ true → 0 < cond b (m + 1) m
  one b m h = rw h (omega arith)

-- what a sum of counts says of some
pub some_more : (m n a b : ℕ) → m + a ≡ n + b → a ≤ b → ltb 0 m ≡ (ltb 0 n || ltb a b)
some_more m zero a b e l = by (ltb a b) refl where
  by : (t : Bool) → ltb a b ≡ t → ltb 0 m ≡ t
  by true h = lt-ltb 0 m (omega (arith, ltb-true a b h))
  by false h = le-ltb 0 m (omega (arith, ltb-false a b h))
some_more m (suc n) a b e l = rw (lt-ltb 0 (suc n) (omega arith)) (lt-ltb 0 m (omega arith))

-- what is kept of a grid is what it says
pub heard_at_lem : (g : List ℕ) (hs : List ℕ) (i : ℕ) → hs ≡ counts_of g → i ≤ 1600 → get_or hs i 0 ≡ how_many (occ g) i
unfolding counts_of
heard_at_lem g hs i e l = ap (λ (t : List ℕ). get_or t i 0) e ∙ table_at (λ (j : ℕ). how_many (occ g) j) 0 1601 i (omega arith)

pub heard_none : (g : List ℕ) → 0 ∷ [] ≡ table (λ (i : ℕ). how_many (occ g) i) 1
unfolding table pass
heard_none g = refl
