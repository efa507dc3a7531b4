-- The spans of a row around a place. A row m half cells north or south of the place reaches h half cells east and west, and its cells lie in at most
-- four sectors, one after the other. Assumes nothing.
use mathlib.Core.Path.{◌≡◌, refl, sym, ap, ◌∙◌}
use mathlib.Core.Bool.{Bool, false}
use mathlib.Core.List.{List, [], ◌∷◌}
use Prim.Native.Nat.{ℕ, zero, suc, ◌+◌, ◌-◌, ◌*◌, ◌%◌, ◌≤◌, ◌<◌, min}
use native.Mathlib.Omega.{arith}
use lib.ListN.{get_or}
use borrow.Author.Tests.{lt-ltb, le-leb, lt-leb}
use Rattle.std.proofs.Math.Bool.{and-true, and-false}
use Rattle.plane.specs.Plane.{east_of, north_of, apart, square, dist, over3, sector_from}
use Rattle.around.specs.Marks.{occ, near, marks_of}
use Rattle.around.specs.Counts.{Reach, counts_of, cut_at, span_of, spans_of}
use Rattle.plane.proofs.Squares.{square_le, far_square, two_apart}
use Rattle.plane.proofs.Sectors.{in_0, in_1, in_2, in_3, in_4, in_5, in_6, in_7}
use Rattle.around.proofs.Marked.{Lies, near_none, low_none, marks_skip, span_marks}

-- the reaches by how far north or south a row lies
unfoldable pub reaches : List ℕ
reaches = 10 ∷ 9 ∷ 9 ∷ 9 ∷ 9 ∷ 8 ∷ 8 ∷ 7 ∷ 6 ∷ 4 ∷ 0 ∷ []

pub reach_at : (m : ℕ) → m ≤ 10 → Reach m (get_or reaches m 0)
unfolding reaches square
reach_at zero l = (omega arith, omega arith, omega arith)
reach_at (suc zero) l = (omega arith, omega arith, omega arith)
reach_at (suc (suc zero)) l = (omega arith, omega arith, omega arith)
reach_at (suc (suc (suc zero))) l = (omega arith, omega arith, omega arith)
reach_at (suc (suc (suc (suc zero)))) l = (omega arith, omega arith, omega arith)
reach_at (suc (suc (suc (suc (suc zero))))) l = (omega arith, omega arith, omega arith)
reach_at (suc (suc (suc (suc (suc (suc zero)))))) l = (omega arith, omega arith, omega arith)
reach_at (suc (suc (suc (suc (suc (suc (suc zero))))))) l = (omega arith, omega arith, omega arith)
reach_at (suc (suc (suc (suc (suc (suc (suc (suc zero)))))))) l = (omega arith, omega arith, omega arith)
reach_at (suc (suc (suc (suc (suc (suc (suc (suc (suc zero))))))))) l = (omega arith, omega arith, omega arith)
reach_at (suc (suc (suc (suc (suc (suc (suc (suc (suc (suc zero)))))))))) l = (omega arith, omega arith, omega arith)
reach_at (suc (suc (suc (suc (suc (suc (suc (suc (suc (suc (suc m))))))))))) l = absurd (omega arith)

-- ---- where a row is cut
pub cut_start : (row z : ℕ) → 40 * row ≤ cut_at row z
unfolding cut_at
cut_start row z = omega arith

pub cut_end : (row z : ℕ) → cut_at row z ≤ 40 * (row + 1)
unfolding cut_at
cut_end row z = omega arith

pub cut_mono : (row a b : ℕ) → a ≤ b → cut_at row a ≤ cut_at row b
unfolding cut_at
cut_mono row a b l = omega arith

-- the spans of a row m half cells north of x, of one m south, and of its own: h is the reach
abbrev pub north_spans : List ℕ → List Bool → ℕ → ℕ → ℕ → ℕ → List Bool
north_spans hs ms row x m h = spans_of hs ms row ((x - h) ∷ (x - min m h) ∷ x ∷ (x + min m (h + 1)) ∷ (x + h + 1) ∷ []) (6 ∷ 7 ∷ 0 ∷ 1 ∷ []) 4

abbrev pub south_spans : List ℕ → List Bool → ℕ → ℕ → ℕ → ℕ → List Bool
south_spans hs ms row x m h = spans_of hs ms row ((x - h) ∷ (x + 1 - min m (h + 1)) ∷ (x + 1) ∷ (x + min m h + 1) ∷ (x + h + 1) ∷ []) (5 ∷ 4 ∷ 3 ∷ 2 ∷ []) 4

abbrev pub level_spans : List ℕ → List Bool → ℕ → ℕ → ℕ → List Bool
level_spans hs ms row x h = span_of hs (span_of hs ms (cut_at row (x - h)) (cut_at row x) 6) (cut_at row (x + 1)) (cut_at row (x + h + 1)) 2

-- four spans by their ends, where those are known
pub four_spans :
    (hs : List ℕ) (ms d : List Bool) (row p0 p1 p2 p3 p4 q0 q1 q2 q3 q4 : ℕ) (ss : List ℕ)
    → d ≡ spans_of hs ms row (p0 ∷ p1 ∷ p2 ∷ p3 ∷ p4 ∷ []) ss 4 → p0 ≡ q0 → p1 ≡ q1 → p2 ≡ q2 → p3 ≡ q3 → p4 ≡ q4
    → d ≡ spans_of hs ms row (q0 ∷ q1 ∷ q2 ∷ q3 ∷ q4 ∷ []) ss 4
four_spans hs ms d row p0 p1 p2 p3 p4 q0 q1 q2 q3 q4 ss e e0 e1 e2 e3 e4 = cc

-- four spans one after the other, from p to p of sectors s to v, where these are known to be q and s' to v'
pub in_turn :
    (hs : List ℕ) (ms a b c d : List Bool) (p0 p1 p2 p3 p4 q0 q1 q2 q3 q4 s t u v s' t' u' v' : ℕ)
    → a ≡ span_of hs ms p0 p1 s → b ≡ span_of hs a p1 p2 t → c ≡ span_of hs b p2 p3 u → d ≡ span_of hs c p3 p4 v
    → p0 ≡ q0 → p1 ≡ q1 → p2 ≡ q2 → p3 ≡ q3 → p4 ≡ q4 → s ≡ s' → t ≡ t' → u ≡ u' → v ≡ v'
    → d ≡ span_of hs (span_of hs (span_of hs (span_of hs ms q0 q1 s') q1 q2 t') q2 q3 u') q3 q4 v'
in_turn hs ms a b c d p0 p1 p2 p3 p4 q0 q1 q2 q3 q4 s t u v s' t' u' v' ea eb ec ed e0 e1 e2 e3 e4 es et eu ev = cc

-- two spans with a gap between them
pub two_spans :
    (hs : List ℕ) (ms a b : List Bool) (p0 p1 p2 p3 q0 q1 q2 q3 s t : ℕ)
    → a ≡ span_of hs ms p0 p1 s → b ≡ span_of hs a p2 p3 t → p0 ≡ q0 → p1 ≡ q1 → p2 ≡ q2 → p3 ≡ q3
    → b ≡ span_of hs (span_of hs ms q0 q1 s) q2 q3 t
two_spans hs ms a b p0 p1 p2 p3 q0 q1 q2 q3 s t ea eb e0 e1 e2 e3 = cc

-- the cells of a part of a row, by their centres
part : (row a b i : ℕ) → cut_at row a ≤ i → i < cut_at row b → (north_of i ≡ 2 * row + 1) × (a ≤ east_of i) × (east_of i < b)
unfolding cut_at
part row a b i p q = (omega arith, omega arith, omega arith)

lies :
    (x y s cx cy m h : ℕ) → Reach m h → apart cy y ≡ m → apart cx x ≤ h → 2 ≤ apart cx x + m → sector_from cx cy x y ≡ s
    → Lies x y s cx cy
lies x y s cx cy m h r em l t q = (
  rw em (le-leb (square (apart cx x) + square m) 100 (omega (arith, square_le l, r.0))),
  rw em (lt-ltb 144 (100 * (square (apart cx x) + square m)) (two_apart (apart cx x) m t)),
  q,
)

-- a place's column and row are both odd or both even, so no cell is one half cell away
two_more : (d m : ℕ) → 0 < m → 2 ≤ suc d + m
two_more d m h = omega arith

not_apart : (a b : ℕ) → apart a b ≡ 0 → a ≡ b
not_apart a b h = omega arith

two_even : (cy y m : ℕ) → apart cy y ≡ m → 0 < m → cy % 2 ≡ y % 2 → 2 ≤ 0 + m
two_even cy y m e h p = omega arith

not_one : (x y cx cy m : ℕ) → apart cy y ≡ m → 0 < m → x % 2 ≡ y % 2 → cx % 2 ≡ cy % 2 → 2 ≤ apart cx x + m
not_one x y cx cy m e h ev od = by (apart cx x) refl where
  by : (d : ℕ) → apart cx x ≡ d → 2 ≤ d + m
  by zero q = two_even cy y m e h (sym od ∙ ap (λ (n : ℕ). n % 2) (not_apart cx x q) ∙ ev)
  by (suc d) q = two_more d m h

-- ---- a cell at (cx, cy) in the row, by the part of the row
module _ (x y cx cy m h : ℕ) (r : Reach m h) where
  module _ (e : cy ≡ y + m) (up : 0 < m) where
    north_6 : x - h ≤ cx → cx < x - min m h → Lies x y 6 cx cy
    north_6 p q = lies x y 6 cx cy m h r (omega arith) (omega arith) (omega arith) (in_6 cx cy x y (omega arith) (omega arith))

    north_7 : x - min m h ≤ cx → cx < x → Lies x y 7 cx cy
    north_7 p q = lies x y 7 cx cy m h r (omega arith) (omega arith) (omega arith) (in_7 cx cy x y (omega arith) (omega arith))

    north_0 : x % 2 ≡ y % 2 → cx % 2 ≡ cy % 2 → x ≤ cx → cx < x + min m (h + 1) → Lies x y 0 cx cy
    north_0 ev od p q = let n : apart cy y ≡ m = omega arith in lies x y 0 cx cy m h r n (omega arith) (not_one x y cx cy m n up ev od) (in_0 cx cy x y (omega arith) (omega arith))

    north_1 : x + min m (h + 1) ≤ cx → cx < x + h + 1 → Lies x y 1 cx cy
    north_1 p q = lies x y 1 cx cy m h r (omega arith) (omega arith) (omega arith) (in_1 cx cy x y (omega arith) (omega arith))

  module _ (e : y ≡ cy + m) (up : 0 < m) where
    south_5 : x - h ≤ cx → cx < x + 1 - min m (h + 1) → Lies x y 5 cx cy
    south_5 p q = lies x y 5 cx cy m h r (omega arith) (omega arith) (omega arith) (in_5 cx cy x y (omega arith) (omega arith))

    south_4 : x % 2 ≡ y % 2 → cx % 2 ≡ cy % 2 → x + 1 - min m (h + 1) ≤ cx → cx < x + 1 → Lies x y 4 cx cy
    south_4 ev od p q = let n : apart cy y ≡ m = omega arith in lies x y 4 cx cy m h r n (omega arith) (not_one x y cx cy m n up ev od) (in_4 cx cy x y (omega arith) (omega arith))

    south_3 : x + 1 ≤ cx → cx < x + min m h + 1 → Lies x y 3 cx cy
    south_3 p q = lies x y 3 cx cy m h r (omega arith) (omega arith) (omega arith) (in_3 cx cy x y (omega arith) (omega arith))

    south_2 : x + min m h + 1 ≤ cx → cx < x + h + 1 → Lies x y 2 cx cy
    south_2 p q = lies x y 2 cx cy m h r (omega arith) (omega arith) (omega arith) (in_2 cx cy x y (omega arith) (omega arith))

  module _ (e : cy ≡ y) (lv : m ≡ 0) (ev : x % 2 ≡ y % 2) (od : cx % 2 ≡ cy % 2) where
    level_6 : x - h ≤ cx → cx < x → Lies x y 6 cx cy
    level_6 p q = lies x y 6 cx cy m h r (omega arith) (omega arith) (omega arith) (in_6 cx cy x y (omega arith) (omega arith))

    level_2 : x + 1 ≤ cx → cx < x + h + 1 → Lies x y 2 cx cy
    level_2 p q = lies x y 2 cx cy m h r (omega arith) (omega arith) (omega arith) (in_2 cx cy x y (omega arith) (omega arith))

-- a place's own cell is not over 3 km away
own : (x y i : ℕ) → apart (east_of i) x ≡ 0 → apart (north_of i) y ≡ 0 → over3 (dist (east_of i) (north_of i) x y) ≡ false
unfolding square
own x y i p q = rw (p, q)

-- ---- near, or not
pub far_off : (g : List ℕ) (x y i : ℕ) → 100 < dist (east_of i) (north_of i) x y → near g x y i ≡ false
unfolding near
far_off g x y i h = rw (lt-leb (dist (east_of i) (north_of i) x y) 100 h, and-false (occ g i))

pub rows_off : (g : List ℕ) (x y i : ℕ) → 11 ≤ apart (north_of i) y → near g x y i ≡ false
rows_off g x y i h = far_off g x y i (omega (arith, far_square (apart (north_of i) y) h))

module _ (g : List ℕ) (x y row m h : ℕ) (hx : x < 80) (hr : row < 40) (em : m ≡ apart (2 * row + 1) y) (r : Reach m h) where
  -- beside the reach
  off : (i : ℕ) → north_of i ≡ 2 * row + 1 → h + 1 ≤ apart (east_of i) x → near g x y i ≡ false
  off i e l =
      let n : apart (north_of i) y ≡ m = omega arith in
      far_off g x y i (rw n (omega (arith, square_le l, r.1)))

  pub west_off : (i : ℕ) → 40 * row ≤ i → i < cut_at row (x - h) → near g x y i ≡ false
  unfolding cut_at
  west_off i p q = off i (omega arith) (omega arith)

  pub east_off : (i : ℕ) → cut_at row (x + h + 1) ≤ i → i < 40 * (row + 1) → near g x y i ≡ false
  unfolding cut_at
  east_off i p q = off i (omega arith) (omega arith)

  -- within it
  near_by : (cx : ℕ) → x - h ≤ cx → cx < x + h + 1 → apart cx x ≤ h
  near_by cx p q = omega arith

  pub within : (i : ℕ) → cut_at row (x - h) ≤ i → i < cut_at row (x + h + 1) → near g x y i ≡ occ g i
  unfolding near
  within i p q =
      let t = part row (x - h) (x + h + 1) i p q in
      let n : apart (north_of i) y ≡ m = ap (λ (z : ℕ). apart z y) t.0 ∙ sym em in
      rw (n, le-leb (square (apart (east_of i) x) + square m) 100 (omega (arith, square_le (near_by (east_of i) t.1 t.2), r.0))) (and-true (occ g i))

  start : (ms : List Bool) → ms ≡ marks_of g x y (40 * row) → ms ≡ marks_of g x y (cut_at row (x - h))
  start ms e = e ∙ marks_skip g x y (40 * row) (cut_at row (x - h)) (cut_start row (x - h)) (λ i p q. near_none g x y i (west_off i p q))

  end : (ms : List Bool) → ms ≡ marks_of g x y (cut_at row (x + h + 1)) → ms ≡ marks_of g x y (40 * (row + 1))
  end ms e = e ∙ marks_skip g x y (cut_at row (x + h + 1)) (40 * (row + 1)) (cut_end row (x + h + 1)) (λ i p q. near_none g x y i (east_off i p q))

  module _ (hs : List ℕ) (eh : hs ≡ counts_of g) (even : x % 2 ≡ y % 2) where
    -- one span
    spanned :
        (a b s : ℕ) (ms : List Bool) → s < 8 → a ≤ b → ((i : ℕ) → north_of i ≡ 2 * row + 1 → a ≤ east_of i → east_of i < b → Lies x y s (east_of i) (north_of i))
        → ms ≡ marks_of g x y (cut_at row a) → span_of hs ms (cut_at row a) (cut_at row b) s ≡ marks_of g x y (cut_at row b)
    spanned a b s ms n l f e =
        span_marks g x y hs eh (cut_at row a) (cut_at row b) s ms (cut_mono row a b l) (omega (arith, cut_end row b)) n
        (λ i p q. let t = part row a b i p q in f i t.0 t.1 t.2) e

    pub north_marks : (ms : List Bool) → y < 2 * row + 1 → ms ≡ marks_of g x y (40 * row) → north_spans hs ms row x m h ≡ marks_of g x y (40 * (row + 1))
    north_marks ms up e =
        end _
        (spanned (x + min m (h + 1)) (x + h + 1) 1 _ (omega arith) (omega arith)
        (λ i n p q. north_1 x y (east_of i) (north_of i) m h r (omega arith) (omega arith) p q)
        (spanned x (x + min m (h + 1)) 0 _ (omega arith) (omega arith)
        (λ i n p q. north_0 x y (east_of i) (north_of i) m h r (omega arith) (omega arith) even (omega arith) p q)
        (spanned (x - min m h) x 7 _ (omega arith) (omega arith)
        (λ i n p q. north_7 x y (east_of i) (north_of i) m h r (omega arith) (omega arith) p q)
        (spanned (x - h) (x - min m h) 6 _ (omega arith) (omega arith)
        (λ i n p q. north_6 x y (east_of i) (north_of i) m h r (omega arith) (omega arith) p q)
        (start ms e)))))

    pub south_marks : (ms : List Bool) → 2 * row + 1 < y → ms ≡ marks_of g x y (40 * row) → south_spans hs ms row x m h ≡ marks_of g x y (40 * (row + 1))
    south_marks ms up e =
        end _
        (spanned (x + min m h + 1) (x + h + 1) 2 _ (omega arith) (omega arith)
        (λ i n p q. south_2 x y (east_of i) (north_of i) m h r (omega arith) (omega arith) p q)
        (spanned (x + 1) (x + min m h + 1) 3 _ (omega arith) (omega arith)
        (λ i n p q. south_3 x y (east_of i) (north_of i) m h r (omega arith) (omega arith) p q)
        (spanned (x + 1 - min m (h + 1)) (x + 1) 4 _ (omega arith) (omega arith)
        (λ i n p q. south_4 x y (east_of i) (north_of i) m h r (omega arith) (omega arith) even (omega arith) p q)
        (spanned (x - h) (x + 1 - min m (h + 1)) 5 _ (omega arith) (omega arith)
        (λ i n p q. south_5 x y (east_of i) (north_of i) m h r (omega arith) (omega arith) p q)
        (start ms e)))))

    -- the place's own row, and its own cell, which is not over 3 km away
    pub level_marks : (ms : List Bool) → y ≡ 2 * row + 1 → ms ≡ marks_of g x y (40 * row) → level_spans hs ms row x h ≡ marks_of g x y (40 * (row + 1))
    level_marks ms lv e =
        end _
        (spanned (x + 1) (x + h + 1) 2 _ (omega arith) (omega arith)
        (λ i n p q. level_2 x y (east_of i) (north_of i) m h r (omega arith) (omega arith) even (omega arith) p q)
        (spanned (x - h) x 6 _ (omega arith) (omega arith)
        (λ i n p q. level_6 x y (east_of i) (north_of i) m h r (omega arith) (omega arith) even (omega arith) p q) (start ms e)
        ∙ marks_skip g x y (cut_at row x) (cut_at row (x + 1)) (cut_mono row x (x + 1) (omega arith))
        (λ i p q. let t = part row x (x + 1) i p q in low_none g x y i (own x y i (omega arith) (omega arith)))))
