-- The eight marks as a table over the sectors: one sector marked more changes it at one place, and a span of cells that lie in one sector marks
-- it where the counts before the span's ends differ. Assumes nothing.
use mathlib.Core.Path.{◌≡◌, refl, sym, ap, ◌∙◌}
use mathlib.Core.Bool.{Bool, true, false, ◌&&◌, ◌||◌, cond}
use mathlib.Core.List.{List}
use Prim.Native.Nat.{ℕ, ◌≤◌, ◌<◌}
use native.Mathlib.Omega.{arith}
use borrow.Author.Tests.{eqb-true, eqb-false}
use lib.Dec.{ltb, eqb}
use lib.ListN.{length, get_or, set, replicate, length-set}
use lib.Seq.{ext_get_or, get_or-set_same, get_or-set_other}
use Rattle.std.proofs.Math.Bool.{or-true, or-false, and-true, and-false}
use Rattle.cells.specs.Passes.{pass, how_many, some, table}
use Rattle.cells.proofs.Passes.{table_same, table_length, table_at}
use Rattle.plane.specs.Plane.{east_of, north_of, dist, within25, over3, sector_from}
use Rattle.around.specs.Marks.{occ, near, in_sector, marks_of}
use Rattle.around.specs.Counts.{counts_of, span_of}
use Rattle.around.proofs.Counts.{count_mono, count_skip, count_span, some_more, heard_at_lem}

same : (b t : Bool) → cond b t t ≡ t
same true t = refl
same false t = refl

-- t tells whether sector s is marked
pub mark_table :
    (f f' : ℕ → Bool) (n s : ℕ) (t : Bool) → s < n → ((k : ℕ) → f' k ≡ cond (eqb s k) (f k || t) (f k))
    → cond t (set (table f n) s true) (table f n) ≡ table f' n
mark_table f f' n s false l h = table_same f f' n (λ k m. sym (h k ∙ ap (λ (u : Bool). cond (eqb s k) u (f k)) (or-false (f k)) ∙ same (eqb s k) (f k)))
mark_table f f' n s true l h =
    ext_get_or false (set (table f n) s true) (table f' n) (len ∙ sym (table_length f' false n))
    (λ i m. at i (omega (arith, len)) (eqb s i) refl ∙ sym (table_at f' false n i (omega (arith, len)))) where
      len : length (set (table f n) s true) ≡ n
      len = length-set (table f n) s true ∙ table_length f false n

      at : (i : ℕ) → i < n → (b : Bool) → eqb s i ≡ b → get_or (set (table f n) s true) i false ≡ f' i
      at i m true e =
          ap (λ (k : ℕ). get_or (set (table f n) s true) k false) (sym (eqb-true s i e))
          ∙ get_or-set_same (table f n) s true false (let e2 = table_length f false n in omega arith)
          ∙ sym (h i ∙ ap (λ (b : Bool). cond b (f i || true) (f i)) e ∙ or-true (f i))
      at i m false e =
          get_or-set_other (table f n) s i true false (λ q. eqb-false s i e (sym q)) ∙ table_at f false n i m
          ∙ sym (h i ∙ ap (λ (b : Bool). cond b (f i || true) (f i)) e)

-- ---- what a cell marks, seen from (x, y)
-- a cell at (cx, cy) is within 25 km, over 3 km away and in sector s
abbrev pub Lies : ℕ → ℕ → ℕ → ℕ → ℕ → Type 0
Lies x y s cx cy = (within25 (dist cx cy x y) ≡ true) × (over3 (dist cx cy x y) ≡ true) × (sector_from cx cy x y ≡ s)

module _ (g : List ℕ) (x y : ℕ) where
  abbrev marks : ℕ → ℕ → Bool
  marks k i = near g x y i && in_sector x y k i

  lies_marks : (s k i : ℕ) → Lies x y s (east_of i) (north_of i) → marks k i ≡ (occ g i && eqb s k)
  unfolding near in_sector
  lies_marks s k i l = rw (l.0, l.1, l.2, and-true (occ g i))

  pub near_none : (i : ℕ) → near g x y i ≡ false → (k : ℕ) → marks k i ≡ false
  near_none i e k = ap (λ (b : Bool). b && in_sector x y k i) e

  pub low_none : (i : ℕ) → over3 (dist (east_of i) (north_of i) x y) ≡ false → (k : ℕ) → marks k i ≡ false
  unfolding in_sector
  low_none i e k = rw (e, and-false (near g x y i))

  pub marks_skip : (a b : ℕ) → a ≤ b → ((i : ℕ) → a ≤ i → i < b → (k : ℕ) → marks k i ≡ false) → marks_of g x y a ≡ marks_of g x y b
  unfolding marks_of
  marks_skip a b l h =
      table_same (λ (k : ℕ). some (marks k) a) (λ (k : ℕ). some (marks k) b) 8
      (λ k q. ap (ltb 0) (sym (count_skip (marks k) a b l (λ i m n. h i m n k))))

  span_each :
      (a b s k : ℕ) → a ≤ b → ((i : ℕ) → a ≤ i → i < b → Lies x y s (east_of i) (north_of i))
      → some (marks k) b ≡ cond (eqb s k) (some (marks k) a || ltb (how_many (occ g) a) (how_many (occ g) b)) (some (marks k) a)
  span_each a b s k l h = by (eqb s k) refl where
    by : (t : Bool) → eqb s k ≡ t → some (marks k) b ≡ cond t (some (marks k) a || ltb (how_many (occ g) a) (how_many (occ g) b)) (some (marks k) a)
    by true e =
        some_more (how_many (marks k) b) (how_many (marks k) a) (how_many (occ g) a) (how_many (occ g) b)
        (count_span (marks k) (occ g) a b l (λ i m n. lies_marks s k i (h i m n) ∙ ap (λ (u : Bool). occ g i && u) e ∙ and-true (occ g i)))
        (count_mono (occ g) a b l)
    by false e =
        ap (ltb 0) (count_skip (marks k) a b l (λ i m n. lies_marks s k i (h i m n) ∙ ap (λ (u : Bool). occ g i && u) e ∙ and-false (occ g i)))

  -- a span of a row whose cells lie in sector s, from the counts before its ends
  pub span_marks :
      (hs : List ℕ) → hs ≡ counts_of g → (a b s : ℕ) (ms : List Bool) → a ≤ b → b ≤ 1600 → s < 8 → ((i : ℕ) → a ≤ i → i < b → Lies x y s (east_of i) (north_of i))
      → ms ≡ marks_of g x y a → span_of hs ms a b s ≡ marks_of g x y b
  unfolding marks_of span_of
  span_marks hs e a b s ms l m n h em =
      rw (heard_at_lem g hs a e (omega arith), heard_at_lem g hs b e m, em)
      (mark_table (λ (k : ℕ). some (marks k) a) (λ (k : ℕ). some (marks k) b) 8 s (ltb (how_many (occ g) a) (how_many (occ g) b)) n
      (λ k. span_each a b s k l h))

-- no cell, no mark
pub marks_none : (g : List ℕ) (x y : ℕ) → replicate 8 false ≡ marks_of g x y 0
unfolding marks_of table pass
marks_none g x y = refl
