-- The sector of a cell seen from a place, by how far it lies east or west and north or south: a law for each. Assumes nothing.
use mathlib.Core.Path.{◌≡◌, refl, ap}
use mathlib.Core.Bool.{Bool, true, false, cond}
use mathlib.Core.Logic.{⊎_elim}
use Prim.Native.Nat.{ℕ, zero, suc, ◌-◌, ◌≤◌, ◌<◌}
use native.Mathlib.Omega.{arith}
use borrow.Author.Tests.{lt-ltb, le-ltb}
use lib.Dec.{ltb}
use lib.IntN.{ℤ, pos, negsuc, ◌-ℤ◌}
use Rattle.angles.specs.Bearing.{sector}
use Rattle.std.proofs.lemmas.Bool.{cases_lt}
use Rattle.plane.specs.Plane.{sector_from}

-- a difference by its sign
plus : (a b : ℕ) → b ≤ a → pos a -ℤ pos b ≡ pos (a - b)
plus a zero h = ap pos (omega arith)
plus a (suc b) h = rw (le-ltb a (suc b) h)

minus : (a b : ℕ) → a < b → pos a -ℤ pos b ≡ negsuc (b - suc a)
minus a zero h = absurd (omega arith)
minus a (suc b) h = rw (lt-ltb a (suc b) h)

-- ---- of an east e and a north n, by their sizes
north_east : (e n : ℕ) → e < n → sector (pos e) (pos n) ≡ 0
unfolding sector
north_east zero zero h = refl
north_east zero (suc n) h = refl
north_east (suc e) zero h = absurd (omega arith)
north_east (suc e) (suc n) h = rw (lt-ltb (suc e) (suc n) h)

east_north : (e n : ℕ) → 0 < n → n ≤ e → sector (pos e) (pos n) ≡ 1
unfolding sector
east_north e zero h l = absurd (omega arith)
east_north zero (suc n) h l = absurd (omega arith)
east_north (suc e) (suc n) h l = rw (le-ltb (suc e) (suc n) l)

due_east : (e n : ℕ) → 0 < e → n ≡ 0 → sector (pos e) (pos n) ≡ 2
unfolding sector
due_east zero n h l = absurd (omega arith)
due_east (suc e) zero h l = refl
due_east (suc e) (suc n) h l = absurd (omega arith)

east_south : (e n : ℕ) → suc n < e → sector (pos e) (negsuc n) ≡ 2
unfolding sector
east_south zero n h = absurd (omega arith)
east_south (suc e) n h = rw (lt-ltb (suc n) (suc e) h)

south_east : (e n : ℕ) → 0 < e → e ≤ suc n → sector (pos e) (negsuc n) ≡ 3
unfolding sector
south_east zero n h l = absurd (omega arith)
south_east (suc e) n h l = rw (le-ltb (suc n) (suc e) l)

due_south : (e n : ℕ) → e ≡ 0 → sector (pos e) (negsuc n) ≡ 4
unfolding sector
due_south zero n h = refl
due_south (suc e) n h = absurd (omega arith)

south_west : (e n : ℕ) → e < n → sector (negsuc e) (negsuc n) ≡ 4
unfolding sector
south_west e n h = rw (lt-ltb (suc e) (suc n) (omega arith))

west_south : (e n : ℕ) → n ≤ e → sector (negsuc e) (negsuc n) ≡ 5
unfolding sector
west_south e n h = rw (le-ltb (suc e) (suc n) (omega arith))

west_north : (e n : ℕ) → n < suc e → sector (negsuc e) (pos n) ≡ 6
unfolding sector
west_north e zero h = refl
west_north e (suc n) h = rw (lt-ltb (suc n) (suc e) h)

north_west : (e n : ℕ) → suc e ≤ n → sector (negsuc e) (pos n) ≡ 7
unfolding sector
north_west e zero h = absurd (omega arith)
north_west e (suc n) h = rw (le-ltb (suc n) (suc e) h)

-- ---- there are eight
either : (t : Bool) (a b : ℕ) → a < 8 → b < 8 → cond t a b < 8
either true a b p q = p
either false a b p q = q

pub sector_below : (e n : ℤ) → sector e n < 8
unfolding sector
sector_below (pos zero) (pos zero) = omega arith
sector_below (pos zero) (pos (suc n)) = omega arith
sector_below (pos zero) (negsuc n) = omega arith
sector_below (pos (suc e)) (pos zero) = omega arith
sector_below (pos (suc e)) (pos (suc n)) = either (ltb (suc e) (suc n)) 0 1 (omega arith) (omega arith)
sector_below (pos (suc e)) (negsuc n) = either (ltb (suc n) (suc e)) 2 3 (omega arith) (omega arith)
sector_below (negsuc e) (pos zero) = omega arith
sector_below (negsuc e) (pos (suc n)) = either (ltb (suc n) (suc e)) 6 7 (omega arith) (omega arith)
sector_below (negsuc e) (negsuc n) = either (ltb (suc e) (suc n)) 4 5 (omega arith) (omega arith)

-- ---- of a cell at (cx, cy) seen from (x, y)
module _ (cx cy x y : ℕ) where
  pub in_0 : x ≤ cx → cx - x < cy - y → sector_from cx cy x y ≡ 0
  in_0 h l = rw (plus cx x h, plus cy y (omega arith)) (north_east (cx - x) (cy - y) l)

  pub in_1 : y < cy → cy - y ≤ cx - x → sector_from cx cy x y ≡ 1
  in_1 h l = rw (plus cx x (omega arith), plus cy y (omega arith)) (east_north (cx - x) (cy - y) (omega arith) l)

  pub in_2 : cy ≤ y → y - cy < cx - x → sector_from cx cy x y ≡ 2
  in_2 h l =
      ⊎_elim
      (λ (lt : cy < y). rw (plus cx x (omega arith), minus cy y lt) (east_south (cx - x) (y - suc cy) (omega arith)))
      (λ (ge : y ≤ cy). rw (plus cx x (omega arith), plus cy y ge) (due_east (cx - x) (cy - y) (omega arith) (omega arith)))
      (cases_lt cy y)

  pub in_3 : x < cx → cx - x ≤ y - cy → sector_from cx cy x y ≡ 3
  in_3 h l = rw (plus cx x (omega arith), minus cy y (omega arith)) (south_east (cx - x) (y - suc cy) (omega arith) (omega arith))

  pub in_4 : cx ≤ x → x - cx < y - cy → sector_from cx cy x y ≡ 4
  in_4 h l =
      ⊎_elim
      (λ (lt : cx < x). rw (minus cx x lt, minus cy y (omega arith)) (south_west (x - suc cx) (y - suc cy) (omega arith)))
      (λ (ge : x ≤ cx). rw (plus cx x ge, minus cy y (omega arith)) (due_south (cx - x) (y - suc cy) (omega arith)))
      (cases_lt cx x)

  pub in_5 : cy < y → y - cy ≤ x - cx → sector_from cx cy x y ≡ 5
  in_5 h l = rw (minus cx x (omega arith), minus cy y h) (west_south (x - suc cx) (y - suc cy) (omega arith))

  pub in_6 : y ≤ cy → cy - y < x - cx → sector_from cx cy x y ≡ 6
  in_6 h l = rw (minus cx x (omega arith), plus cy y h) (west_north (x - suc cx) (cy - y) (omega arith))

  pub in_7 : cx < x → x - cx ≤ cy - y → sector_from cx cy x y ≡ 7
  in_7 h l = rw (minus cx x h, plus cy y (omega arith)) (north_west (x - suc cx) (cy - y) (omega arith))
