-- Sums over numbered things: bounds, and a loop that ends with the last of them. Assumes nothing.
use mathlib.Core.Path.{◌≡◌, refl}
use mathlib.Core.Bool.{Bool, true, false, cond}
use mathlib.Core.Logic.{⊎_elim}
use mathlib.Core.List.{List}
use Prim.Native.Nat.{ℕ, zero, suc, ◌+◌, ◌*◌, ◌≤◌, ◌<◌}
use native.Mathlib.Nat.{eq-or-lt_of_le}
use native.Mathlib.Omega.{arith}
use borrow.Author.Tests.{ltb-false}
use lib.ListN.{get_or}
use Rattle.cells.specs.Cells.{count_of, occupied_word}
use Rattle.cells.specs.Passes.{pass, sum_of}
use Rattle.cells.proofs.Passes.{sum_step}
use Rattle.view.specs.View.{positions_among}

bounded : (b : Bool) (s k n : ℕ) → k ≤ 255 → s ≤ 255 * n → cond b (s + k) s ≤ 255 * suc n
bounded true s k n h l = omega arith
bounded false s k n h l = omega arith

-- n numbers of at most 255 each
pub sum_le : (p : ℕ → Bool) (f : ℕ → ℕ) → ((i : ℕ) → f i ≤ 255) → (n : ℕ) → sum_of p f n ≤ 255 * n
unfolding pass
sum_le p f h zero = omega arith
sum_le p f h (suc n) = bounded (p n) (sum_of p f n) (f n) n (h n) (sum_le p f h n)

added : (b : Bool) (s k : ℕ) → cond b (s + k) s ≡ s + cond b k 0
added true s k = refl
added false s k = omega arith

-- one more, added at the end
pub sum_next : (p : ℕ → Bool) (f : ℕ → ℕ) (n : ℕ) → sum_of p f (suc n) ≡ sum_of p f n + cond (p n) (f n) 0
unfolding pass
sum_next p f n = added (p n) (sum_of p f n) (f n)

-- a sum of more is no less
pub sum_more : (p : ℕ → Bool) (f : ℕ → ℕ) (m n : ℕ) → m ≤ n → sum_of p f m ≤ sum_of p f n
sum_more p f m zero l = let e : m ≡ zero = omega arith in rw e (omega arith)
sum_more p f m (suc n) l =
    ⊎_elim (λ (e : m ≡ suc n). rw e (omega arith))
    (λ (lt : m < suc n). omega (arith, sum_more p f m n (omega arith), sum_next p f n))
    (eq-or-lt_of_le l)

-- ---- a loop that goes on until all positions are seen
module _ (words : List ℕ) (j n : ℕ) where
  pub none_behind : positions_among words n ≤ positions_among words j → (i : ℕ) → j ≤ i → i < n → count_of (get_or words i 0) ≡ 0
  unfolding positions_among
  none_behind h i p q =
      omega (
        arith,
        sum_more (λ (i : ℕ). true) (λ (i : ℕ). count_of (get_or words i 0)) j i p,
        sum_next (λ (i : ℕ). true) (λ (i : ℕ). count_of (get_or words i 0)) i,
        sum_more (λ (i : ℕ). true) (λ (i : ℕ). count_of (get_or words i 0)) (suc i) n q,
      )

module _ (words : List ℕ) where
  pub none_seen : 0 ≡ positions_among words 0
  unfolding positions_among pass
  none_seen = refl

  pub seen_one : (seen c i : ℕ) → seen ≡ positions_among words i → c ≡ count_of (get_or words i 0) → seen + c ≡ positions_among words (i + 1)
  unfolding positions_among
  seen_one seen c i e h = sum_step (λ (i : ℕ). true) (λ (i : ℕ). count_of (get_or words i 0)) seen c i e h

  pub seen_none : (seen i : ℕ) → seen ≡ positions_among words i → occupied_word (get_or words i 0) ≡ false → seen ≡ positions_among words (i + 1)
  seen_none seen i e h = omega (arith, seen_one seen (count_of (get_or words i 0)) i e refl, ltb-false 0 (count_of (get_or words i 0)) h)
