-- Where no half is merged, every cell and bin is empty: nothing is past the horizon, nothing was heard, and no place is left. So the
-- answer is Unjudged, by 4. Assumes nothing.
use Rattle.std.specs.Prelude.{None}
use mathlib.Core.Path.{◌≡◌, refl, sym, ap, ◌∙◌}
use mathlib.Core.Bool.{Bool, true, false, ◌||◌}
use mathlib.Core.List.{List, []}
use Prim.Native.Nat.{ℕ, ◌+◌, ◌<◌}
use native.Mathlib.Omega.{arith}
use lib.ListN.{get_or}
use Rattle.cells.specs.Cells.{empty_word}
use Rattle.cells.proofs.Passes.{pass_all}
use Rattle.view.specs.View.{merged_at, grid_of, far_of}
use Rattle.view.specs.declared.Far.{Far}
use Rattle.view.proofs.Views.{grid_at, bins_at, neither}
use Rattle.sites.specs.declared.Site.{Site}
use Rattle.around.specs.Marks.{outside_of}
use Rattle.near_field.specs.declared.Judgment.TheVariants.{Unjudged}
use Rattle.nearest.specs.Nothing.{Place, cell_place, bin_place, heard, places_heard, places, positions_in, nothing_near_in, nothing_near}
use Rattle.nearest.specs.Weights.{total}
use Rattle.judge.specs.Judging.{if_outside, judge_cells, judge_row}
use Rattle.judge.proofs.Few.{skip_place, none_past, low_free}
use Rattle.judge.proofs.Ways.{after_few, by_none}

-- no place is heard of empty words
pub none_heard : (place : ℕ → Place) (words : List ℕ) (n : ℕ) → ((i : ℕ) → i < n → get_or words i 0 ≡ empty_word) → heard place words n ≡ []
unfolding heard
none_heard place words n free = pass_all _ [] n (λ i l x. skip_place (get_or words i 0) (place i) (free i l) x)

-- ---- an empty grid and empty bins
module _
    (site : Site) (grid : List ℕ) (far : Far) (grid_free : (i : ℕ) → i < 1600 → get_or grid i 0 ≡ empty_word)
    (bins_free : (j : ℕ) → j < 72 → get_or far.cells j 0 ≡ empty_word) where
  no_places : places_heard grid far ≡ []
  unfolding places_heard
  no_places = rw (none_heard (cell_place grid) grid 1600 grid_free, none_heard (bin_place far.cells) far.cells 72 bins_free)

  heard_all : nothing_near grid far ≡ None
  unfolding nothing_near nothing_near_in positions_in total
  heard_all = rw no_places

  no_place_lem : places grid far ≡ 0
  unfolding places
  no_place_lem = rw no_places

  none_outside : (b : Bool) → if_outside b None ≡ None
  unfolding if_outside
  none_outside true = refl
  none_outside false = refl

  pub unheard : Unjudged ≡ judge_cells site grid far
  unheard =
      by_none site grid far None None (outside_of grid far.cells) refl
      (sym (none_outside (outside_of grid far.cells)) ∙ ap (if_outside (outside_of grid far.cells)) (sym heard_all)) (none_past site far (λ j l. low_free (get_or far.cells j 0) (bins_free j l))) Unjudged refl
      (after_few None grid far (outside_of grid far.cells) 0 refl (sym no_place_lem) (omega arith))

-- ---- neither half
module _ (cells : List ℕ) where
  unmerged : (i : ℕ) → merged_at cells false false i ≡ empty_word
  unfolding merged_at
  unmerged i = neither (get_or cells i 0) (get_or cells (1672 + i) 0)

  bins_unmerged : (j : ℕ) → j < 72 → get_or (far_of cells false false).cells j 0 ≡ empty_word
  unfolding far_of
  bins_unmerged j l = bins_at cells false false j l ∙ unmerged (1600 + j)

pub nothing_kept : (site : Site) (cells : List ℕ) (even odd : Bool) → (even || odd) ≡ false → Unjudged ≡ judge_row site cells even odd
unfolding judge_row
nothing_kept site cells true odd h = cc
nothing_kept site cells false true h = cc
nothing_kept site cells false false h =
    unheard site (grid_of cells false false) (far_of cells false false) (λ i l. grid_at cells false false i l ∙ unmerged cells i) (bins_unmerged cells)
