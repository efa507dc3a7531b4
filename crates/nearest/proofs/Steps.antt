-- Distances in steps of 5 km: at most k steps is below 2k + 1 half cells. A table of steps is right where one computed test passes at each entry. Assumes nothing.
use mathlib.Core.Path.{◌≡◌, refl, sym, ap, ◌∙◌}
use mathlib.Core.Bool.{Bool, true, ◌&&◌}
use mathlib.Core.Logic.{⊎_elim}
use mathlib.Core.List.{List, [], ◌∷◌}
use Prim.Native.Nat.{ℕ, zero, suc, ◌+◌, ◌-◌, ◌*◌, ◌≤◌, ◌<◌, ◌%◌}
use native.Mathlib.Nat.{eq-or-lt_of_le, le_of_suc-le-suc, mod-lt, zero-lt-suc}
use native.Mathlib.Omega.{arith}
use borrow.Author.Tests.{leb-true, ltb-true, lt-ltb, le-ltb}
use lib.Dec.{leb, ltb, leb-suc-suc}
use lib.ListN.{get_or}
use Rattle.std.specs.Cmp.{first_so, second_so}
use Rattle.cells.proofs.Passes.{first_le, first_bound, first_unique}
use Rattle.plane.specs.Plane.{square, steps, from_site}
use Rattle.plane.proofs.Squares.{square_le}
use Rattle.nearest.specs.Nothing.{km, edges, halfway}
use Rattle.nearest.specs.Counted.{cell_step, bin_step}

-- ---- a test that passes at every number below n
unfoldable pub every : (ℕ → Bool) → ℕ → Bool
every p zero = true
every p (suc n) = p n && every p n

pub every_at : (p : ℕ → Bool) (n : ℕ) → every p n ≡ true → (k : ℕ) → k < n → p k ≡ true
unfolding every
every_at p zero e k l = absurd (omega arith)
every_at p (suc n) e k l =
    ⊎_elim (λ (q : k ≡ n). ap p q ∙ first_so (p n) (every p n) e) (λ (lt : k < n). every_at p n (second_so (p n) (every p n) e) k lt) (eq-or-lt_of_le (le_of_suc-le-suc l))

-- ---- steps
unfoldable pub odd : ℕ → ℕ
odd k = square ((2 * k + 1) * 1)

unfoldable pub limit : ℕ → ℕ
limit k = odd k - 1

odd_pos : (k : ℕ) → 1 ≤ odd k
unfolding odd square
odd_pos k = square_le {m = 1} {n = (2 * k + 1) * 1} (omega arith)

pub steps_within : (d k : ℕ) → k < 160 → leb d (limit k) ≡ ltb (steps d 1) (suc k)
unfolding steps limit odd
steps_within d k l =
    sym (leb-suc-suc d (odd k - 1)) ∙ ap (ltb d) (let h = odd_pos k in let e : suc (odd k - 1) ≡ odd k = omega arith in e)
    ∙ sym (first_bound (λ (k : ℕ). ltb d (odd k)) (λ a b h e. lt-ltb d (odd b) (omega (arith, ltb-true d (odd a) e, square_le {m = (2 * a + 1) * 1} {n = (2 * b + 1) * 1} (omega arith)))) 160 k l)

pub step_small : (d : ℕ) → steps d 1 < 161
unfolding steps
step_small d = omega (arith, first_le (λ (k : ℕ). ltb d (square ((2 * k + 1) * 1))) 160)

-- t, at least one, is the number of steps of d
unfoldable pub is_step : ℕ → ℕ → Bool
is_step d t = leb 1 t && (leb t 160 && (leb (odd (t - 1)) d && ltb d (odd t)))

pub step_is : (d t : ℕ) → is_step d t ≡ true → t ≡ steps d 1
unfolding is_step odd steps
step_is d t e =
    let e2 = second_so (leb 1 t) (leb t 160 && (leb (odd (t - 1)) d && ltb d (odd t))) e in
    let e3 = second_so (leb t 160) (leb (odd (t - 1)) d && ltb d (odd t)) e2 in
    let one : 1 ≤ t = leb-true 1 t (first_so (leb 1 t) (leb t 160 && (leb (odd (t - 1)) d && ltb d (odd t))) e) in
    let low : odd (t - 1) ≤ d = leb-true (odd (t - 1)) d (first_so (leb (odd (t - 1)) d) (ltb d (odd t)) e3) in
    sym
    (first_unique (λ (k : ℕ). ltb d (odd k)) 160 t (leb-true t 160 (first_so (leb t 160) (leb (odd (t - 1)) d && ltb d (odd t)) e2))
    (λ j l. le-ltb d (odd j) (omega (arith, square_le {m = (2 * j + 1) * 1} {n = (2 * (t - 1) + 1) * 1} (omega arith))))
    (λ l. second_so (leb (odd (t - 1)) d) (ltb d (odd t)) e3))

-- ---- cells and bins
pub bin_below : (j : ℕ) → bin_step j < 161
unfolding bin_step
bin_below j = step_small (km (get_or (halfway edges) (j % 9) 0))

pub cell_below : (i : ℕ) → cell_step i < 161
unfolding cell_step
cell_below i = step_small (from_site i)

-- ---- the nine bands
-- the code's table: the square of the edge, and the steps of the typical distance
unfoldable pub bands : List (ℕ × ℕ)
bands = (1600, 25) ∷ (3600, 35) ∷ (6400, 45) ∷ (10000, 55) ∷ (14400, 65) ∷ (19600, 75) ∷ (25600, 90) ∷ (40000, 120) ∷ (78400, 160) ∷ []

bands_right : every (λ (b : ℕ). is_step (km (get_or (halfway edges) b 0)) (get_or bands b (0, 0)).1) 9 ≡ true
unfolding bands every is_step odd km square edges halfway
bands_right = refl

pub band_steps : (j : ℕ) → (get_or bands (j % 9) (0, 0)).1 ≡ bin_step j
unfolding bin_step
band_steps j =
    step_is (km (get_or (halfway edges) (j % 9) 0)) (get_or bands (j % 9) (0, 0)).1
    (every_at (λ (b : ℕ). is_step (km (get_or (halfway edges) b 0)) (get_or bands b (0, 0)).1) 9 bands_right (j % 9) (mod-lt j (zero-lt-suc 8)))
