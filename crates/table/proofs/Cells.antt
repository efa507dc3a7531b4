-- The cells of one row in the cells of all: a write to one row's cells, and what it leaves of the others.
use mathlib.Core.Path.{◌≡◌, refl, ◌∙◌}
use mathlib.Core.Logic.{◌≢◌}
use Prim.Native.Nat.{ℕ, suc, ◌+◌, ◌*◌, ◌-◌, ◌≤◌, ◌<◌}
use native.Mathlib.Omega.{arith}
use native.Mathlib.Nat.{mul-le-mul_left}
use mathlib.Core.List.{List, [], ◌∷◌, ◌++◌, append_assoc}
use lib.Dec.{ltb}
use lib.ListN.{length, set, take, drop, length-drop}
use lib.Seq.{sets, sets-eq, drop-set-lt, drop-set-add, take-set-le, drop_at, take_at, length-take-le}
use Rattle.table.proofs.Tests.{by_bool, ltb_true, ltb_false}

-- a slice of W from b, after writes outside of it
slice_set : (W b : ℕ) (l : List ℕ) (i a : ℕ) → i < b → take W (drop b (set l i a)) ≡ take W (drop b l)
slice_set W b l i a h = rw (drop-set-lt b l i a)

slice_set_after : (W b c : ℕ) (l : List ℕ) (a : ℕ) → W ≤ c → take W (drop b (set l (b + c) a)) ≡ take W (drop b l)
slice_set_after W b c l a h = rw (drop-set-add b l c a, take-set-le W (drop b l) c a)

slice_before : (W b : ℕ) (vs l : List ℕ) (i : ℕ) → i + length vs ≤ b → take W (drop b (sets l i vs)) ≡ take W (drop b l)
slice_before W b [] l i h = refl
slice_before W b (v ∷ vs) l i h = slice_before W b vs (set l i v) (suc i) (omega arith) ∙ slice_set W b l i v (omega arith)

slice_after : (W b c : ℕ) (vs l : List ℕ) → W ≤ c → take W (drop b (sets l (b + c) vs)) ≡ take W (drop b l)
slice_after W b c [] l h = refl
slice_after W b c (v ∷ vs) l h =
    let e : suc (b + c) ≡ b + suc c = omega arith in
    rw e (slice_after W b (suc c) vs (set l (b + c) v) (omega arith) ∙ slice_set_after W b c l v h)

next_row : (W : ℕ) {i j : ℕ} → i < j → W * i + W ≤ W * j
next_row W h = omega (arith, mul-le-mul_left W h)

-- row i's cells are what was written
pub cells_same : (W i : ℕ) (l vs : List ℕ) → length vs ≡ W → W * i + W ≤ length l → take W (drop (W * i) (sets l (W * i) vs)) ≡ vs
cells_same W i l vs e h =
    rw (sets-eq vs l (W * i) (omega arith), append_assoc, drop_at (take (W * i) l) (vs ++ drop (W * i + length vs) l) (W * i) (length-take-le (W * i) l (omega arith)))
    (take_at vs (drop (W * i + length vs) l) W e)

-- and row j's stay
pub cells_other : (W i j : ℕ) (l vs : List ℕ) → length vs ≡ W → j ≢ i → take W (drop (W * j) (sets l (W * i) vs)) ≡ take W (drop (W * j) l)
cells_other W i j l vs e n =
    by_bool (ltb i j)
    (λ p. slice_before W (W * j) vs l (W * i) (omega (arith, next_row W (ltb_true i j p))))
    (λ p.
    let less : j < i = omega (arith, ltb_false i j p) in
    let far : W * j + W ≤ W * i = next_row W less in
    let q : W * i ≡ W * j + (W * i - W * j) = omega arith in
    rw q (slice_after W (W * j) (W * i - W * j) vs l (omega arith)))

-- a row's cells are W
pub cells_length : (W i C : ℕ) (l : List ℕ) → length l ≡ W * C → i < C → length (take W (drop (W * i) l)) ≡ W
cells_length W i C l e h = length-take-le W (drop (W * i) l) (omega (arith, length-drop (W * i) l, next_row W h))
