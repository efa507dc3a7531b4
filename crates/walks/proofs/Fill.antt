-- A loop that makes each element of a slice in turn, in pure terms: what is left when k more elements are made, from the i-th on.
-- It says nothing of the crates above. Assumes nothing.
use Rattle.std.proofs.Common.{◌≡◌, ℕ, zero, suc, ◌+◌, ◌-◌, ◌<◌, ◌≤◌, List, ap, arith}
use lib.ListN.{set}

unfoldable pub filled : {X : Type 0} → (ℕ → X) → ℕ → ℕ → List X → List X
filled f zero i xs = xs
filled f (suc k) i xs = filled f k (i + 1) (set xs i (f i))

pub makes_one : {X : Type 0} (f : ℕ → X) (n i : ℕ) (zs : List X) → i < n → filled f (n - i) i zs ≡ filled f (n - (i + 1)) (i + 1) (set zs i (f i))
unfolding filled
makes_one f n i zs h =
    let e : n - i ≡ suc (n - (i + 1)) = omega arith in
    ap (λ (k : ℕ). filled f k i zs) e

pub makes_no_more : {X : Type 0} (f : ℕ → X) (n i : ℕ) (zs : List X) → n ≤ i → filled f (n - i) i zs ≡ zs
unfolding filled
makes_no_more f n i zs h =
    let e : n - i ≡ 0 = omega arith in
    ap (λ (k : ℕ). filled f k i zs) e
