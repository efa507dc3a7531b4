-- The marks of all that is heard, seen from the site: those of the cells, one after the other, then those of the nine bins of each sector.
-- Assumes nothing.
use mathlib.Core.Path.{◌≡◌, refl, sym, ap, ◌∙◌}
use mathlib.Core.Bool.{Bool, true, false, ◌&&◌, ◌||◌, cond}
use mathlib.Core.List.{List}
use Prim.Native.Nat.{ℕ, zero, suc, ◌+◌, ◌*◌, ◌/◌, ◌≤◌, ◌<◌}
use native.Mathlib.Numerals.{add-one}
use native.Mathlib.Omega.{arith}
use borrow.Author.Tests.{lt-ltb, le-ltb, ltb-true, ltb-false, eq-eqb, ne_eqb, eqb-true, eqb-false}
use lib.Dec.{ltb, eqb}
use lib.IntN.{pos, ◌-ℤ◌}
use lib.ListN.{length, get_or, set, replicate}
use Rattle.std.proofs.Common.{slice_range}
use Rattle.std.proofs.Math.Bool.{or-false, and-true, and-false}
use Rattle.cells.specs.Cells.{occupied_word}
use Rattle.cells.specs.Passes.{pass, some, table}
use Rattle.cells.proofs.Passes.{some_next, some_none, table_same}
use Rattle.view.specs.View.{Unheard, heard_word, heard_at}
use Rattle.view.proofs.Views.{part_heard}
use Rattle.plane.specs.Plane.{east_of, north_of, from_site, over3, sector_from}
use Rattle.around.specs.Marks.{occ, in_sector, cell_in, bin_in}
use Rattle.around.proofs.Counts.{count_skip}
use Rattle.plane.proofs.Sectors.{sector_below}
use Rattle.around.proofs.Marked.{mark_table}

-- a cell, or a bin, more
cell_more : (b o v e : Bool) → (b || (o && (v && e))) ≡ cond e (b || (o && v)) b
cell_more b o v true = ap (λ (t : Bool). b || (o && t)) (and-true v)
cell_more b o v false = ap (λ (t : Bool). b || (o && t)) (and-false v) ∙ ap (λ (t : Bool). b || t) (and-false o) ∙ or-false b

pub cells_step :
    (g : List ℕ) (i w : ℕ) (ms r : List Bool) → w ≡ get_or g i 0 → ms ≡ table (λ (k : ℕ). some (cell_in g k) i) 8
    → r ≡ cond (occupied_word w && over3 (from_site i)) (set ms (sector_from (east_of i) (north_of i) 40 40) true) ms
    → r ≡ table (λ (k : ℕ). some (cell_in g k) (i + 1)) 8
unfolding cell_in in_sector
cells_step g i w ms r ew em er =
    er ∙ rw (ew, em)
    (mark_table (λ (k : ℕ). some (cell_in g k) i) (λ (k : ℕ). some (cell_in g k) (i + 1)) 8 (sector_from (east_of i) (north_of i) 40 40)
    (occ g i && over3 (from_site i)) (sector_below (pos (east_of i) -ℤ pos 40) (pos (north_of i) -ℤ pos 40))
    (λ k. ap (some (cell_in g k)) (add-one i) ∙ some_next (cell_in g k) i
    ∙ cell_more (some (cell_in g k) i) (occ g i) (over3 (from_site i)) (eqb (sector_from (east_of i) (north_of i) 40 40) k)))

-- the nine bins of sector k: none before them is of it, each of them is, and none after
module _ (bins : List ℕ) (k : ℕ) where
  apart : (j : ℕ) → (j / 9 ≡ k → ⊥) → bin_in bins k j ≡ false
  unfolding bin_in
  apart j h = rw (ne_eqb (j / 9) k h, and-false (occ bins j))

  -- up to the m-th of them
  up_to : (m : ℕ) → m ≤ 9 → some (bin_in bins k) (9 * k + m) ≡ some (heard_at bins (9 * k)) m
  unfolding bin_in
  up_to zero l =
      let e : 9 * k + zero ≡ 9 * k = omega arith in
      ap (some (bin_in bins k)) e ∙ some_none (bin_in bins k) (9 * k) (λ j h. apart j (λ e. omega arith)) ∙ sym (some_none (heard_at bins (9 * k)) 0 (λ i h. absurd (omega arith)))
  up_to (suc m) l =
      let e : 9 * k + suc m ≡ suc (9 * k + m) = omega arith in
      ap (some (bin_in bins k)) e ∙ some_next (bin_in bins k) (9 * k + m) ∙ ap (λ (b : Bool). b || bin_in bins k (9 * k + m)) (up_to m (omega arith))
      ∙ ap (λ (b : Bool). some (heard_at bins (9 * k)) m || b) (ap (λ (b : Bool). occ bins (9 * k + m) && b) (eq-eqb ((9 * k + m) / 9) k (omega arith)) ∙ and-true (occ bins (9 * k + m)))
      ∙ sym (some_next (heard_at bins (9 * k)) m)

  pub nine_heard : (end : ℕ) → 9 * k + 9 ≡ end → end ≤ 72 → length bins ≡ 72 → some (heard_word (slice_range bins (9 * k) end)) (length (slice_range bins (9 * k) end)) ≡ some (bin_in bins k) 72
  nine_heard end e l n =
      part_heard bins (9 * k) 9 end e (omega arith) ∙ sym (up_to 9 (omega arith))
      ∙ ap (ltb 0) (sym (count_skip (bin_in bins k) (9 * k + 9) 72 (omega arith) (λ j p q. apart j (λ e. omega arith))))

-- the sectors below k with what t says of them
abbrev pub marked : (ℕ → Bool) → (ℕ → Bool) → ℕ → ℕ → Bool
marked f t k j = f j || (ltb j k && t j)

module _ (f t : ℕ → Bool) where
  pub marked_none : (ms : List Bool) → ms ≡ table f 8 → ms ≡ table (marked f t 0) 8
  marked_none ms e = e ∙ table_same f (marked f t 0) 8 (λ j l. sym (rw (le-ltb j 0 (omega arith), or-false (f j))))

  pub marked_more : (k : ℕ) (ms r : List Bool) → k < 8 → ms ≡ table (marked f t k) 8 → r ≡ cond (t k) (set ms k true) ms → r ≡ table (marked f t (k + 1)) 8
  marked_more k ms r l em er =
      er ∙ rw em (mark_table (marked f t k) (marked f t (k + 1)) 8 k (t k) l (λ j. by j (eqb k j) refl)) where
        by : (j : ℕ) (b : Bool) → eqb k j ≡ b → marked f t (k + 1) j ≡ cond b (marked f t k j || t k) (marked f t k j)
        by j true e =
            let q = eqb-true k j e in
            rw (lt-ltb j (k + 1) (omega arith), le-ltb j k (omega arith), or-false (f j)) (ap (λ (i : ℕ). f j || t i) (sym q))
        by j false e = ap (λ (b : Bool). f j || (b && t j)) (same_side j (eqb-false k j e)) where
          same_side : (j : ℕ) → (k ≡ j → ⊥) → ltb j (k + 1) ≡ ltb j k
          same_side j d = side (ltb j k) refl where
            side : (b : Bool) → ltb j k ≡ b → ltb j (k + 1) ≡ ltb j k
            side true h = lt-ltb j (k + 1) (omega (arith, ltb-true j k h)) ∙ sym h
            side false h = le-ltb j (k + 1) (past j (ltb-false j k h) d) ∙ sym h where
              past : (j : ℕ) → k ≤ j → (k ≡ j → ⊥) → k + 1 ≤ j
              past j l d = omega arith

  pub marked_all : table (marked f t 8) 8 ≡ table (λ (j : ℕ). f j || t j) 8
  marked_all = table_same (marked f t 8) (λ (j : ℕ). f j || t j) 8 (λ j l. rw (lt-ltb j 8 l))

pub cells_none : (g : List ℕ) → replicate 8 false ≡ table (λ (k : ℕ). some (cell_in g k) 0) 8
unfolding table pass
cells_none g = refl

-- no cell occupied, no mark
pub unheard_none : (g : List ℕ) → Unheard g → replicate 8 false ≡ table (λ (k : ℕ). some (cell_in g k) 1600) 8
unfolding cell_in
unheard_none g u =
    cells_none g
    ∙ table_same (λ (k : ℕ). some (cell_in g k) 0) (λ (k : ℕ). some (cell_in g k) 1600) 8
    (λ k l. some_none (cell_in g k) 0 (λ i l. absurd (omega arith)) ∙ sym (some_none (cell_in g k) 1600 (λ i l. ap (λ (b : Bool). b && in_sector 40 40 k i) (u i l))))
