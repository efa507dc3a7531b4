-- Columns and what is left beyond them in one number: a × 64 + c is c columns and a units of 64 mm. A column is 5,000,000 mm, which is 78,125 such units.
-- Assumes nothing.
use mathlib.Core.Path.{◌≡◌, sym, ap, ◌∙◌, subst}
use Prim.Native.Nat.{ℕ, ◌+◌, ◌-◌, ◌*◌, ◌/◌, ◌%◌, ◌≤◌, ◌<◌}
use native.Mathlib.Nat.{div-div-eq-div-mul}
use native.Mathlib.Omega.{arith}
use Rattle.angles.specs.Plane.{together}

parts : (v : ℕ) → v ≡ v / 64 * 64 + v % 64
parts v = omega arith

columns : (a c : ℕ) → c < 64 → (a * 64 + c) % 64 ≡ c
columns a c h = omega arith

units : (a c : ℕ) → c < 64 → (a * 64 + c) / 64 ≡ a
units a c h = omega arith

pub of_parts : (a c : ℕ) → c < 64 → together (a * 64 + c) ≡ c * 78125 + a
of_parts a c h = ap (λ (k : ℕ). k * 78125 + (a * 64 + c) / 64) (columns a c h) ∙ ap (λ (k : ℕ). c * 78125 + k) (units a c h)

pub few : (v : ℕ) → together v < 40 * 78125 → v % 64 < 40
few v = go (v % 64) (v / 64)
  where
    go : (c a : ℕ) → c * 78125 + a < 40 * 78125 → c < 40
    go c a h = omega arith

-- a column is left, and not two
pub found_more : (v : ℕ) → 5000000 ≤ v → v / 64 < 2 * 78125 → together v / 78125 ≡ v % 64 + 1
found_more v h = go (v % 64) (v / 64) (reach v h)
  where
    reach : (v : ℕ) → 5000000 ≤ v → 78125 ≤ v / 64
    reach v h = omega arith

    go : (c a : ℕ) → 78125 ≤ a → a < 2 * 78125 → (c * 78125 + a) / 78125 ≡ c + 1
    go c a l h = omega arith

-- the 20 columns up to the site, and n mm
pub from_site_lem : (n : ℕ) → (20 * 78125 + n / 64) / 78125 ≡ (100000000 + n) / 5000000
from_site_lem n = ap (λ (k : ℕ). k / 78125) (further n) ∙ div-div-eq-div-mul (100000000 + n) 64 78125
  where
    further : (n : ℕ) → 20 * 78125 + n / 64 ≡ (100000000 + n) / 64
    further n = omega arith

-- ---- one step of n columns

-- n columns fit, of a number that is a × 64 + c
module _ (v n a c : ℕ) (e : v ≡ a * 64 + c) (h : c < 40) (k : n ≤ 16) (fit : n * 5000000 ≤ v) where
  reach : n * 78125 ≤ a
  reach = omega arith

  room : c + n < 64
  room = omega arith

  moved : v - (n * 5000000 - n) ≡ (a - n * 78125) * 64 + (c + n)
  moved = go reach
    where
      go : n * 78125 ≤ a → v - (n * 5000000 - n) ≡ (a - n * 78125) * 64 + (c + n)
      go r = omega arith

  same : together (v - (n * 5000000 - n)) ≡ c * 78125 + a
  same = ap together moved ∙ of_parts (a - n * 78125) (c + n) room ∙ go a c n reach
    where
      go : (a c n : ℕ) → n * 78125 ≤ a → (c + n) * 78125 + (a - n * 78125) ≡ c * 78125 + a
      go a c n r = omega arith

  less : a < 2 * n * 78125 → (v - (n * 5000000 - n)) / 64 < n * 78125
  less l = subst (λ (q : ℕ). q < n * 78125) (sym (ap (λ (r : ℕ). r / 64) moved ∙ units (a - n * 78125) (c + n) room)) (go a n reach l)
    where
      go : (a n : ℕ) → n * 78125 ≤ a → a < 2 * n * 78125 → a - n * 78125 < n * 78125
      go a n r l = omega arith

pub stays : (v n : ℕ) → together v < 40 * 78125 → n ≤ 16 → n * 5000000 ≤ v → together (v - (n * 5000000 - n)) ≡ together v
stays v n b k fit = same v n (v / 64) (v % 64) (parts v) (few v b) k fit

pub left : (v n : ℕ) → together v < 40 * 78125 → n ≤ 16 → n * 5000000 ≤ v → v / 64 < 2 * n * 78125 → (v - (n * 5000000 - n)) / 64 < n * 78125
left v n b k fit = less v n (v / 64) (v % 64) (parts v) (few v b) k fit
