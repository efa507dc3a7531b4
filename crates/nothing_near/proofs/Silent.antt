-- Where the code need not look: rows that are 60 km off, and a grid with no positions. Assumes nothing.
use mathlib.Core.Path.{◌≡◌, refl, sym, ap, ◌∙◌}
use mathlib.Core.Bool.{Bool, true, false, ◌&&◌, cond}
use mathlib.Core.List.{List, [], ◌∷◌, ◌++◌}
use Prim.Native.Nat.{ℕ, suc, ◌+◌, ◌≤◌, ◌<◌}
use native.Mathlib.Omega.{arith}
use borrow.Author.Tests.{lt-leb, le-ltb, ltb-false}
use lib.Dec.{leb}
use lib.ListN.{get_or}
use Rattle.cells.specs.Cells.{count_of, occupied_word}
use Rattle.cells.specs.Passes.{how_many}
use Rattle.cells.proofs.Passes.{pass_all, pass_skip}
use Rattle.cells.proofs.Words.{zero_free}
use Rattle.view.specs.View.{Unheard}
use Rattle.plane.specs.Plane.{north_of, apart, square, from_site}
use Rattle.plane.proofs.Squares.{square_le}
use Rattle.nearest.specs.Nothing.{Place, km, cell_place, heard}
use Rattle.view.specs.View.{positions_among}
use Rattle.nearest.specs.Counted.{cell_step, no_steps, gather, cell_steps}
use Rattle.nothing_near.specs.Counted.{near_cells}
use Rattle.nearest.proofs.Sums.{sum_next, sum_more}
use Rattle.nearest.proofs.Gathered.{gather_none}

hidden : (o : Bool) → (o && false) ≡ false
hidden true = refl
hidden false = refl

module _ (grid : List ℕ) where
  abbrev pub is_near : ℕ → Bool
  is_near i = occupied_word (get_or grid i 0) && leb (from_site i) 575

  pub near_is : near_cells grid ≡ how_many is_near 1600
  unfolding near_cells km square
  near_is = refl

  -- ---- 25 half cells north or south are over 60 km
  far_square : (n : ℕ) → 25 ≤ n → 625 ≤ square n
  unfolding square
  far_square n h = square_le {m = 25} {n = n} h

  far_row : (i : ℕ) → 25 ≤ apart (north_of i) 40 → is_near i ≡ false
  far_row i h =
      ap (λ (t : Bool). occupied_word (get_or grid i 0) && t) (lt-leb (from_site i) 575 (omega (arith, far_square (apart (north_of i) 40) h)))
      ∙ hidden (occupied_word (get_or grid i 0))

  unchanged : (i s : ℕ) → is_near i ≡ false → cond (is_near i) (s + 1) s ≡ s
  unchanged i s e = ap (λ (t : Bool). cond t (s + 1) s) e

  pub rows_before : how_many is_near 320 ≡ 0
  rows_before = pass_all (λ (i s : ℕ). cond (is_near i) (s + 1) s) 0 320 (λ i l s. unchanged i s (far_row i (omega arith)))

  pub rows_after : how_many is_near 1600 ≡ how_many is_near 1280
  rows_after = pass_skip (λ (i s : ℕ). cond (is_near i) (s + 1) s) 0 1280 1600 (omega arith) (λ i p q s. unchanged i s (far_row i (omega arith)))

  -- ---- no cell is occupied
  pub silent_positions : Unheard grid → positions_among grid 1600 ≡ 0
  unfolding positions_among
  silent_positions u =
      pass_all (λ (i s : ℕ). cond true (s + count_of (get_or grid i 0)) s) 0 1600 (λ i l s. omega (arith, ltb-false 0 (count_of (get_or grid i 0)) (u i l)))

  silent : (n : ℕ) → positions_among grid n ≡ 0 → (i : ℕ) → i < n → count_of (get_or grid i 0) ≡ 0
  unfolding positions_among
  silent n e i l =
      omega (
        arith,
        sum_more (λ (i : ℕ). true) (λ (i : ℕ). count_of (get_or grid i 0)) (suc i) n l,
        sum_next (λ (i : ℕ). true) (λ (i : ℕ). count_of (get_or grid i 0)) i,
      )

  pub silent_near : positions_among grid 1600 ≡ 0 → near_cells grid ≡ 0
  silent_near e =
      near_is
      ∙ pass_all (λ (i s : ℕ). cond (is_near i) (s + 1) s) 0 1600
      (λ i l s. unchanged i s (ap (λ (t : Bool). t && leb (from_site i) 575) (le-ltb 0 (count_of (get_or grid i 0)) (let z = silent 1600 e i l in omega arith))))

  pub silent_heard : Unheard grid → heard (cell_place grid) grid 1600 ≡ []
  unfolding heard
  silent_heard u =
      pass_all (λ (i : ℕ) (l : List Place). cond (occupied_word (get_or grid i 0)) (l ++ (cell_place grid i ∷ [])) l) [] 1600
      (λ i h l. ap (λ (t : Bool). cond t (l ++ (cell_place grid i ∷ [])) l) (u i h))

  pub silent_steps : positions_among grid 1600 ≡ 0 → no_steps ≡ cell_steps grid
  unfolding cell_steps gather
  silent_steps e =
      sym (pass_all (gather cell_step grid) no_steps 1600 (λ i l at. sym (gather_none at (cell_step i) (count_of (get_or grid i 0)) (silent 1600 e i l))))

-- the empty list is such a grid
pub unheard : Unheard []
unheard i l = zero_free
