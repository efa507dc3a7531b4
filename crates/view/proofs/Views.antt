-- What the merged grid and bins hold, and how many positions the bins can have. Assumes nothing.
use mathlib.Core.Path.{◌≡◌, refl, sym, ap, ap₂, ◌∙◌}
use mathlib.Core.Bool.{Bool, true, false, ◌&&◌, ◌||◌, cond}
use mathlib.Core.List.{List}
use Prim.Native.Nat.{ℕ, zero, suc, ◌+◌, ◌-◌, ◌*◌, ◌^◌, ◌≤◌, ◌<◌}
use native.Mathlib.Nat.{zero-add}
use native.Mathlib.Omega.{arith}
use lib.Bits.{bit_or}
use lib.ListN.{length, get_or}
use Rattle.std.proofs.Common.{take, drop, length-drop, length-take, slice_range}
use Rattle.std.proofs.lemmas.List.{get_or-take, get_or-drop}
use Rattle.cells.specs.Cells.{empty_word, occupied_word}
use Rattle.cells.specs.Passes.{pass, some, table}
use Rattle.cells.proofs.Passes.{some_turn, some_same, some_none, some_not, some_or, some_and, table_length, table_at, table_same}
use Rattle.cells.proofs.Words.{count_small, zero_free, empty_count, empty_fits, empty_merged, merged_empty, merged_occupied, both_occupied}
use Rattle.view.specs.declared.Far.{Far}
use Rattle.view.specs.View.{merged_of, merged_at, grid_of, heard_in, Unheard, heard_word, heard_at, bins_of, positions_of, positions_among, far_of}

module _ (cells : List ℕ) (even odd : Bool) where
  pub grid_at : (i : ℕ) → i < 1600 → get_or (grid_of cells even odd) i 0 ≡ merged_at cells even odd i
  unfolding grid_of
  grid_at i l = table_at (merged_at cells even odd) 0 1600 i l

  pub bins_length : length (bins_of cells even odd) ≡ 72
  unfolding bins_of
  bins_length = table_length (λ (j : ℕ). merged_at cells even odd (1600 + j)) 0 72

  pub bins_at : (j : ℕ) → j < 72 → get_or (bins_of cells even odd) j 0 ≡ merged_at cells even odd (1600 + j)
  unfolding bins_of
  bins_at j l = table_at (λ (k : ℕ). merged_at cells even odd (1600 + k)) 0 72 j l

-- of one half alone, its cell stays; of none, the empty cell
pub even_alone : (a b : ℕ) → a < 2 ^ 32 → merged_of true false a b ≡ a
unfolding merged_of
even_alone a b h = merged_empty a h

pub neither : (a b : ℕ) → merged_of false false a b ≡ empty_word
unfolding merged_of
neither a b = empty_merged empty_word empty_fits

-- ---- a cell of the merged grid is occupied where it is in a half that is merged
chosen : (keep : Bool) (w : ℕ) → occupied_word (cond keep w empty_word) ≡ (keep && occupied_word w)
chosen true w = refl
chosen false w = rw empty_count

module _ (cells : List ℕ) (even odd : Bool) where
  merged_heard : (i : ℕ) → i < 1600 → occupied_word (get_or (grid_of cells even odd) i 0) ≡ ((even && heard_at cells 0 i) || (odd && heard_at cells 1672 i))
  unfolding merged_at merged_of
  merged_heard i l =
      ap occupied_word (grid_at cells even odd i l)
      ∙ merged_occupied (cond even (get_or cells i 0) empty_word) (cond odd (get_or cells (1672 + i) 0) empty_word)
      ∙ ap (λ (b : Bool). b || occupied_word (cond odd (get_or cells (1672 + i) 0) empty_word)) (chosen even (get_or cells i 0) ∙ ap (λ (k : ℕ). even && occupied_word (get_or cells k 0)) (sym (zero-add i)))
      ∙ ap (λ (b : Bool). (even && heard_at cells 0 i) || b) (chosen odd (get_or cells (1672 + i) 0))

  pub grid_heard : heard_in (grid_of cells even odd) ≡ ((even && some (heard_at cells 0) 1600) || (odd && some (heard_at cells 1672) 1600))
  unfolding heard_in
  grid_heard =
      some_same _ (λ (i : ℕ). (even && heard_at cells 0 i) || (odd && heard_at cells 1672 i)) 1600 merged_heard
      ∙ some_or (λ (i : ℕ). even && heard_at cells 0 i) (λ (i : ℕ). odd && heard_at cells 1672 i) 1600
      ∙ ap (λ (b : Bool). b || some (λ (i : ℕ). odd && heard_at cells 1672 i) 1600) (some_and even (heard_at cells 0) 1600)
      ∙ ap (λ (b : Bool). (even && some (heard_at cells 0) 1600) || b) (some_and odd (heard_at cells 1672) 1600)

pub unheard : (grid : List ℕ) → heard_in grid ≡ false → Unheard grid
unfolding heard_in
unheard grid e i l = some_not (λ (j : ℕ). occupied_word (get_or grid j 0)) 1600 e i l

-- the loop over some words, at its start and in a turn
pub none_yet : (words : List ℕ) → occupied_word 0 ≡ some (heard_word words) 0
none_yet words = zero_free ∙ sym (some_none (heard_word words) 0 (λ i l. absurd (omega arith)))

pub one_more_lem : (words : List ℕ) (i all w : ℕ) → occupied_word all ≡ some (heard_word words) i → w ≡ get_or words i 0 → occupied_word (bit_or all w) ≡ some (heard_word words) (i + 1)
one_more_lem words i all w e h =
    both_occupied all w ∙ ap (λ (b : Bool). b || occupied_word w) e ∙ ap (λ (v : ℕ). some (heard_word words) i || occupied_word v) h
    ∙ sym (some_turn (heard_word words) i)

-- n words from `start` on, as a part of some
pub part_heard : (words : List ℕ) (start n end : ℕ) → start + n ≡ end → end ≤ length words → some (heard_word (slice_range words start end)) (length (slice_range words start end)) ≡ some (heard_at words start) n
part_heard words start n end e l =
    let k : length (take (end - start) (drop start words)) ≡ n = simp (length-take, length-drop) (omega arith) in
    rw k
    (some_same (heard_word (slice_range words start end)) (heard_at words start) n
    (λ i h. ap occupied_word (get_or-take (end - start) (drop start words) i 0 (omega arith) ∙ get_or-drop start words i 0)))

-- counts of at most 255
pub positions_fit : (words : List ℕ) (n : ℕ) → positions_among words n ≤ 255 * n
unfolding positions_among pass
positions_fit words zero = omega arith
positions_fit words (suc n) = omega (arith, positions_fit words n, count_small (get_or words n 0))

-- what the loops that fill the grid and the bins leave
pub grid_is : (cells : List ℕ) (even odd : Bool) → table (λ (i : ℕ). merged_at cells even odd (0 + i)) 1600 ≡ grid_of cells even odd
unfolding grid_of
grid_is cells even odd = table_same (λ (i : ℕ). merged_at cells even odd (0 + i)) (merged_at cells even odd) 1600 (λ i l. ap (merged_at cells even odd) (zero-add i))

pub bins_is : (cells : List ℕ) (even odd : Bool) → table (λ (j : ℕ). merged_at cells even odd (1600 + j)) 72 ≡ bins_of cells even odd
unfolding bins_of
bins_is cells even odd = refl

-- the bins with their sum
pub far_is : (cells : List ℕ) (even odd : Bool) (bins : List ℕ) (n : ℕ) → bins ≡ bins_of cells even odd → n ≡ positions_among bins (length bins) → ◌≡◌ {A = Far} (record { cells = bins; positions = n }) (far_of cells even odd)
unfolding far_of positions_of positions_among
far_is cells even odd bins n e p =
    let q : n ≡ positions_of (bins_of cells even odd) = p ∙ ap₂ positions_among e (ap length e ∙ bins_length cells even odd) in
    λ i. record { cells = e i; positions = q i }
