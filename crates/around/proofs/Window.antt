-- What a place's rows leave out changes nothing: marks, cells and bits of the rows around are those of the whole grid. Assumes nothing.
use mathlib.Core.Path.{◌≡◌, refl, sym, ap, ◌∙◌}
use mathlib.Core.Bool.{Bool, true, false, cond}
use mathlib.Core.Logic.{⊎_elim}
use mathlib.Core.List.{List}
use Prim.Native.Nat.{ℕ, zero, suc, ◌+◌, ◌-◌, ◌*◌, ◌/◌, ◌%◌, ◌^◌, ◌≤◌, ◌<◌, max}
use native.Mathlib.Nat.{eq-or-lt_of_le, pow-suc}
use native.Mathlib.Omega.{arith}
use borrow.Author.Tests.{le-leb, lt-leb}
use lib.Bits.{bit_or, or_step}
use lib.Count.{ones, ones_step}
use lib.Dec.{leb}
use lib.ListN.{length, get_or, replicate}
use Rattle.std.proofs.Common.{drop, length-drop, length-take, slice_range}
use Rattle.std.proofs.lemmas.List.{get_or-take, get_or-drop}
use Rattle.cells.specs.Cells.{bits_of, occupied_word}
use Rattle.cells.specs.Passes.{pass, how_many}
use Rattle.cells.proofs.Passes.{pass_none, pass_next, pass_skip}
use Rattle.plane.specs.Plane.{apart}
use Rattle.around.specs.declared.Nearby.{Nearby}
use Rattle.around.specs.Marks.{occ, near, marks_of, bits_in, around_of}
use Rattle.around.specs.Counts.{Reach, counts_of, under, cut_at}
use Rattle.around.proofs.Counts.{count_mono, count_skip, count_span, count_less, heard_at_lem}
use Rattle.around.proofs.Marked.{near_none, marks_skip, marks_none}
use Rattle.around.proofs.Rows.{rows_off, west_off, east_off, within, cut_mono, cut_start, cut_end}

-- ---- the rows before and behind
module _ (g : List ℕ) (x y row : ℕ) (hy : y < 80) where
  before : row ≡ under (y - 10) → (i : ℕ) → i < 40 * row → near g x y i ≡ false
  before e i q = rows_off g x y i (omega arith)

  behind : row ≡ under (y + 11) → (i : ℕ) → 40 * row ≤ i → i < 1600 → near g x y i ≡ false
  behind e i p q = rows_off g x y i (omega arith)

  pub marks_start : row ≡ under (y - 10) → replicate 8 false ≡ marks_of g x y (40 * row)
  marks_start e = marks_none g x y ∙ marks_skip g x y 0 (40 * row) (omega arith) (λ i p q. near_none g x y i (before e i q))

  pub marks_end : row ≡ under (y + 11) → marks_of g x y (40 * row) ≡ marks_of g x y 1600
  marks_end e = marks_skip g x y (40 * row) 1600 (omega arith) (λ i p q. near_none g x y i (behind e i p q))

  pub cells_start : row ≡ under (y - 10) → 0 ≡ how_many (near g x y) (40 * row)
  cells_start e = sym (count_skip (near g x y) 0 (40 * row) (omega arith) (λ i p q. before e i q) ∙ pass_none _ 0)

  pub cells_end : row ≡ under (y + 11) → how_many (near g x y) (40 * row) ≡ how_many (near g x y) 1600
  cells_end e = sym (count_skip (near g x y) (40 * row) 1600 (omega arith) (behind e))

-- ---- the words of a part of a grid
module _ (g : List ℕ) (a b : ℕ) (l : b ≤ length g) where
  pub words_in : length (slice_range g a b) ≡ b - a
  words_in = simp (length-take, length-drop) (omega arith)

  pub word_at : (j : ℕ) → j < length (slice_range g a b) → get_or (slice_range g a b) j 0 ≡ get_or g (a + j) 0
  word_at j h = get_or-take (b - a) (drop a g) j 0 (omega (arith, words_in)) ∙ get_or-drop a g j 0

-- ---- bits
or_bits : List ℕ → (ℕ → Bool) → ℕ → ℕ → ℕ
or_bits g p i bits = cond (p i) (bit_or bits (bits_of (get_or g i 0))) bits

pub bits_skip : (p : ℕ → Bool) (g : List ℕ) (a b : ℕ) → a ≤ b → ((i : ℕ) → a ≤ i → i < b → p i ≡ false) → bits_in p g a ≡ bits_in p g b
unfolding or_bits
bits_skip p g a b l h = sym (pass_skip (or_bits g p) 0 a b l (λ i k m s. ap (λ (t : Bool). cond t (bit_or s (bits_of (get_or g i 0))) s) (h i k m)))

-- a cell more
pub bits_step :
    (p : ℕ → Bool) (g : List ℕ) (i out w r : ℕ) → p i ≡ occ g i → out ≡ bits_in p g i → w ≡ get_or g i 0
    → r ≡ cond (occupied_word w) (bit_or out (bits_of w)) out → r ≡ bits_in p g (i + 1)
unfolding or_bits
bits_step p g i out w r h e ew er = rw (pass_next (or_bits g p) 0 i, h) (cc)

module _ (g : List ℕ) (x y row : ℕ) (hy : y < 80) where
  pub bits_start : row ≡ under (y - 10) → 0 ≡ bits_in (near g x y) g (40 * row)
  unfolding or_bits
  bits_start e = sym (pass_none (or_bits g (near g x y)) 0) ∙ bits_skip (near g x y) g 0 (40 * row) (omega arith) (λ i p q. before g x y row hy e i q)

  pub bits_end : row ≡ under (y + 11) → bits_in (near g x y) g (40 * row) ≡ bits_in (near g x y) g 1600
  bits_end e = bits_skip (near g x y) g (40 * row) 1600 (omega arith) (behind g x y row hy e)

-- ---- more bits, more ones
below_pow : (n : ℕ) → n < 2 ^ n
below_pow zero = omega arith
below_pow (suc n) = omega (arith, pow-suc 2 n, below_pow n)

pub ones_zero : ones 0 ≡ 0
unfolding ones
ones_zero = refl

ones_or_in : (k a b : ℕ) → a < 2 ^ k → ones a ≤ ones (bit_or a b)
ones_or_in zero a b h = let e : a ≡ 0 = omega arith in rw e (omega (arith, ones_zero))
ones_or_in (suc k) a b h =
    let e = or_step a b in
    let half : bit_or a b / 2 ≡ bit_or (a / 2) (b / 2) = omega arith in
    let odd : bit_or a b % 2 ≡ max (a % 2) (b % 2) = omega arith in
    rw (ones_step a, ones_step (bit_or a b), half, odd) (omega (arith, ones_or_in k (a / 2) (b / 2) (omega (arith, pow-suc 2 k))))

ones_or : (a b : ℕ) → ones a ≤ ones (bit_or a b)
ones_or a b = ones_or_in a a b (below_pow a)

grown : (t : Bool) (a b : ℕ) → ones a ≤ ones (cond t (bit_or a b) a)
grown true a b = ones_or a b
grown false a b = omega arith

pub ones_grow : (p : ℕ → Bool) (g : List ℕ) (a b : ℕ) → a ≤ b → ones (bits_in p g a) ≤ ones (bits_in p g b)
unfolding pass
ones_grow p g a zero l = let e : a ≡ zero = omega arith in rw e (omega arith)
ones_grow p g a (suc b) l =
    ⊎_elim (λ (e : a ≡ suc b). rw e (omega arith))
    (λ (lt : a < suc b). omega (arith, ones_grow p g a b (omega arith), grown (p b) (bits_in p g b) (bits_of (get_or g b 0))))
    (eq-or-lt_of_le l)

-- eight bits are enough, before the end too
pub enough : (p : ℕ → Bool) (g : List ℕ) (a bits : ℕ) → a ≤ 1600 → bits ≡ bits_in p g a → 8 ≤ ones bits → true ≡ leb 8 (ones (bits_in p g 1600))
enough p g a bits l e h = sym (le-leb 8 (ones (bits_in p g 1600)) (omega (arith, ones_grow p g a 1600 l, rw e at h)))

pub not_enough : (p : ℕ → Bool) (g : List ℕ) (bits : ℕ) → bits ≡ bits_in p g 1600 → ones bits < 8 → false ≡ leb 8 (ones (bits_in p g 1600))
not_enough p g bits e h = sym (lt-leb 8 (ones (bits_in p g 1600)) (rw e at h))

-- ---- all three
pub around_is :
    (g : List ℕ) (x y : ℕ) (ms : List Bool) (bits n : ℕ) → ms ≡ marks_of g x y 1600 → bits ≡ bits_in (near g x y) g 1600 → n ≡ how_many (near g x y) 1600
    → ◌≡◌ {A = Nearby} (record { marks = ms; aircraft = bits; cells = n }) (around_of g x y)
unfolding around_of
around_is g x y ms bits n p q r = λ i. record { marks = p i; aircraft = q i; cells = r i }

-- ---- the cells of a row
module _ (g : List ℕ) (x y row m h : ℕ) (hx : x < 80) (hr : row < 40) (em : m ≡ apart (2 * row + 1) y) (r : Reach m h) where
  pub row_count :
      (hs : List ℕ) (u v : ℕ) → hs ≡ counts_of g → u ≡ get_or hs (cut_at row (x - h)) 0 → v ≡ get_or hs (cut_at row (x + h + 1)) 0
      → (u ≤ v) × (how_many (near g x y) (40 * row) + (v - u) ≡ how_many (near g x y) (40 * (row + 1))) × (v - u ≤ 40)
  row_count hs u v e eu ev =
      let l = cut_mono row (x - h) (x + h + 1) (omega arith) in
      let s = cut_start row (x - h) in
      let t = cut_end row (x + h + 1) in
      let a : u ≡ how_many (occ g) (cut_at row (x - h)) = eu ∙ heard_at_lem g hs (cut_at row (x - h)) e (omega arith) in
      let b : v ≡ how_many (occ g) (cut_at row (x + h + 1)) = ev ∙ heard_at_lem g hs (cut_at row (x + h + 1)) e (omega arith) in
      let west = count_skip (near g x y) (40 * row) (cut_at row (x - h)) s (west_off g x y row m h hx hr em r) in
      let span = count_span (near g x y) (occ g) (cut_at row (x - h)) (cut_at row (x + h + 1)) l (within g x y row m h hx hr em r) in
      let east = count_skip (near g x y) (cut_at row (x + h + 1)) (40 * (row + 1)) t (east_off g x y row m h hx hr em r) in
      counted (how_many (near g x y) (40 * row)) (how_many (near g x y) (cut_at row (x - h))) (how_many (near g x y) (cut_at row (x + h + 1))) (how_many (near g x y) (40 * (row + 1)))
      (how_many (occ g) (cut_at row (x - h))) (how_many (occ g) (cut_at row (x + h + 1))) u v a b west span east
      (count_mono (occ g) (cut_at row (x - h)) (cut_at row (x + h + 1)) l)
      (omega (arith, count_less (occ g) (cut_at row (x - h)) (cut_at row (x + h + 1)) l)) where
        counted :
            (n0 n1 n2 n3 o1 o2 u v : ℕ) → u ≡ o1 → v ≡ o2 → n1 ≡ n0 → n2 + o1 ≡ n1 + o2 → n3 ≡ n2 → o1 ≤ o2 → o2 ≤ o1 + 40
            → (u ≤ v) × (n0 + (v - u) ≡ n3) × (v - u ≤ 40)
        counted n0 n1 n2 n3 o1 o2 u v a b c d e f k = (omega arith, omega arith, omega arith)
