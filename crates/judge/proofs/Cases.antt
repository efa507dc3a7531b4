-- 01's proved sheet, P10, and the case of its plausible error "Assuming NothingNear is far", as theorems about the definitions. In each row the
-- even half alone is merged, at now_ms 0; few of its cells are occupied. Assumes nothing.
use Rattle.std.specs.Prelude.{Some, None}
use mathlib.Core.Path.{◌≡◌, refl, sym, ap, ◌∙◌}
use mathlib.Core.Bool.{Bool, true, false, ◌||◌, cond}
use mathlib.Core.List.{List, [], ◌∷◌}
use Prim.Native.Nat.{ℕ, zero, suc, ◌+◌, ◌^◌, ◌≤◌, ◌<◌}
use native.Mathlib.Omega.{arith}
use borrow.Author.Tests.{lt-ltb}
use lib.Dec.{ltb, leb, eqb}
use lib.ListN.{length, get_or, set, replicate, length-replicate, get_or-replicate, length-set}
use lib.Seq.{get_or-set_same, get_or-set_other}
use Rattle.angles.specs.Bearing.{sector}
use Rattle.cells.specs.Cells.{packed, empty_word, count_of, low_of, occupied_word}
use Rattle.cells.specs.Passes.{pass, how_many, some, table}
use Rattle.cells.proofs.Passes.{pass_all, table_same}
use Rattle.cells.proofs.Words.{Parts, packed_parts, empty_fits}
use Rattle.view.specs.View.{kept, merged_of, merged_at, grid_of, far_of}
use Rattle.view.specs.declared.Far.{Far}
use Rattle.view.proofs.Views.{grid_at, bins_at, even_alone}
use Rattle.sites.specs.declared.Site.{Site}
use Rattle.past_horizon.specs.Horizon.{past_horizon}
use Rattle.plane.specs.Plane.{square}
use Rattle.around.specs.Marks.{in_sector, sectors_in, cell_in, bin_in, outside_of}
use Rattle.near_field.specs.declared.Judgment.TheVariants.{Unjudged, Wrong}
use Rattle.near_field.specs.declared.Evidence.TheVariants.{NothingNear}
use Rattle.nearest.specs.Nothing.{cell_place, bin_place, heard, places_heard, places, nothing_near}
use Rattle.nearest.proofs.Cases.{p10_off, p10_few, nearest_skipped as places_skipped}
use Rattle.judge.specs.Judging.{if_outside, judge_cells, judge_row, judge_of}
use Rattle.judge.proofs.Few.{pass_one, pass_two, skip_place, skip_count, none_past, low_free}
use Rattle.judge.proofs.Unheard.{none_heard}
use Rattle.judge.proofs.Ways.{after_off, after_few, by_none}

-- ---- rows
-- a word of n positions without altitude, of some aircraft
unfoldable pub heard_word : ℕ → ℕ → ℕ
heard_word n bits = packed (record { count = n; low = 255; aircraft = bits })

word : (n bits : ℕ) → n ≤ 255 → bits < 2 ^ 16 → Parts (heard_word n bits) n 255 bits
unfolding heard_word
word n bits l b = packed_parts (record { count = n; low = 255; aircraft = bits }) (record { count = l; low = omega arith; bits = b })

-- a row in which nothing was heard
unfoldable pub empty_row : List ℕ
empty_row = replicate 3344 empty_word

row_length : length empty_row ≡ 3344
unfolding empty_row
row_length = length-replicate {A = ℕ} 3344 empty_word

row_free : (i : ℕ) → i < 3344 → get_or empty_row i 0 ≡ empty_word
unfolding empty_row
row_free i l = get_or-replicate 3344 i empty_word 0 l

-- what its merged cells are
module _ (cells : List ℕ) where
  even_at : (i w : ℕ) → get_or cells i 0 ≡ w → w < 2 ^ 32 → merged_at cells true false i ≡ w
  unfolding merged_at
  even_at i w e h = ap (λ (v : ℕ). merged_of true false v (get_or cells (1672 + i) 0)) e ∙ even_alone w (get_or cells (1672 + i) 0) h

  cell_at : (i w : ℕ) → i < 1600 → get_or cells i 0 ≡ w → w < 2 ^ 32 → get_or (grid_of cells true false) i 0 ≡ w
  cell_at i w l e h = grid_at cells true false i l ∙ even_at i w e h

  bin_at : (j w : ℕ) → j < 72 → get_or cells (1600 + j) 0 ≡ w → w < 2 ^ 32 → get_or (far_of cells true false).cells j 0 ≡ w
  unfolding far_of
  bin_at j w l e h = bins_at cells true false j l ∙ even_at (1600 + j) w e h

-- ---- bins of which only the first is occupied, without altitude
module _ (far : Far) (w n : ℕ) (here : get_or far.cells 0 0 ≡ w) (count : count_of w ≡ suc n) (low : low_of w ≡ 255)
    (free : (j : ℕ) → j < 72 → (j ≡ 0 → ⊥) → get_or far.cells j 0 ≡ empty_word) where
  holds : occupied_word w ≡ true
  holds = lt-ltb 0 (count_of w) (omega (arith, count))

  pub bin_heard : heard (bin_place far.cells) far.cells 72 ≡ bin_place far.cells 0 ∷ []
  unfolding heard
  bin_heard =
      pass_one _ [] 0 72 (omega arith) (λ j l d x. skip_place (get_or far.cells j 0) (bin_place far.cells j) (free j l d) x)
      ∙ ap (λ (b : Bool). cond b (bin_place far.cells 0 ∷ []) []) (ap occupied_word here ∙ holds)

  pub bin_low : (j : ℕ) → j < 72 → low_of (get_or far.cells j 0) ≡ 255
  bin_low zero l = ap low_of here ∙ low
  bin_low (suc j) l = low_free (get_or far.cells (suc j) 0) (free (suc j) l (λ e. omega arith))

  -- bin 0 lies in sector 0
  pub bin_sector : (k : ℕ) → how_many (bin_in far.cells k) 72 ≡ cond (eqb 0 k) 1 0
  unfolding bin_in
  bin_sector k =
      pass_one _ 0 0 72 (omega arith) (λ j l d x. skip_count (get_or far.cells j 0) _ (free j l d) x)
      ∙ rw (here, holds)

-- ---- eight marks that agree with others, of which few are set
few_sectors : (f g : ℕ → Bool) → table f 8 ≡ table g 8 → leb (sectors_in (table g 8)) 4 ≡ true → leb (sectors_in (table f 8)) 4 ≡ true
few_sectors f g e h = ap (λ (marks : List Bool). leb (sectors_in marks) 4) e ∙ h

-- sector 0, and sectors 0 and 1
abbrev in_one : ℕ → Bool
in_one k = ltb 0 (cond (eqb 0 k) 1 0)

one_sector : leb (sectors_in (table in_one 8)) 4 ≡ true
unfolding sectors_in table pass
one_sector = refl

abbrev in_two : ℕ → Bool
in_two k = ltb 0 (cond (eqb 0 k) (cond (eqb 1 k) 1 0 + 1) (cond (eqb 1 k) 1 0)) || ltb 0 (cond (eqb 0 k) 1 0)

two_sectors : leb (sectors_in (table in_two 8)) 4 ≡ true
unfolding sectors_in table pass
two_sectors = refl

-- ---- from the parts to the judgment
module _ (site : Site) (grid : List ℕ) (far : Far) (eo : outside_of grid far.cells ≡ true) (ep : None ≡ past_horizon site far) where
  to_off : (d : ℕ) → nothing_near grid far ≡ Some d → Wrong d NothingNear ≡ judge_cells site grid far
  unfolding if_outside
  to_off d e = by_none site grid far None (Some d) true (sym eo) (sym e) ep (Wrong d NothingNear) refl (after_off (Some d) grid far true d refl)

  to_few : (n : ℕ) → nothing_near grid far ≡ None → n ≡ places grid far → n < 12 → Unjudged ≡ judge_cells site grid far
  unfolding if_outside
  to_few n e p l = by_none site grid far None None true (sym eo) (sym e) ep Unjudged refl (after_few None grid far true n refl p l)

-- ---- P10: bin 0 only
unfoldable pub row_p10 : ℕ → ℕ → List ℕ
row_p10 n bits = set empty_row 1600 (heard_word n bits)

module _ (n bits : ℕ) (few : suc n ≤ 255) (fit : bits < 2 ^ 16) where
  abbrev row : List ℕ
  row = row_p10 (suc n) bits

  abbrev grid10 : List ℕ
  grid10 = grid_of (row_p10 (suc n) bits) true false

  abbrev far10 : Far
  far10 = far_of (row_p10 (suc n) bits) true false

  elsewhere : (i : ℕ) → i < 3344 → (i ≡ 1600 → ⊥) → get_or row i 0 ≡ empty_word
  unfolding row_p10
  elsewhere i l d = get_or-set_other empty_row 1600 i (heard_word (suc n) bits) 0 d ∙ row_free i l

  grid_free : (i : ℕ) → i < 1600 → get_or grid10 i 0 ≡ empty_word
  grid_free i l = cell_at row i empty_word l (elsewhere i (omega arith) (λ e. omega arith)) empty_fits

  bin_here : get_or far10.cells 0 0 ≡ heard_word (suc n) bits
  unfolding row_p10
  bin_here = bin_at row 0 (heard_word (suc n) bits) (omega arith) (get_or-set_same empty_row 1600 (heard_word (suc n) bits) 0 (omega (arith, row_length))) (word (suc n) bits few fit).fits

  bin_free : (j : ℕ) → j < 72 → (j ≡ 0 → ⊥) → get_or far10.cells j 0 ≡ empty_word
  bin_free j l d = bin_at row j empty_word l (elsewhere (1600 + j) (omega arith) (λ e. omega arith)) empty_fits

  places10 : places_heard grid10 far10 ≡ bin_place far10.cells 0 ∷ []
  unfolding places_heard
  places10 =
      rw (none_heard (cell_place grid10) grid10 1600 grid_free)
      (bin_heard far10 (heard_word (suc n) bits) n bin_here (word (suc n) bits few fit).count (word (suc n) bits few fit).low bin_free)

  count10 : count_of (get_or far10.cells 0 0) ≡ suc n
  count10 = ap count_of bin_here ∙ (word (suc n) bits few fit).count

  no_cells_lem : (k : ℕ) → how_many (cell_in grid10 k) 1600 ≡ 0
  unfolding cell_in
  no_cells_lem k = pass_all _ 0 1600 (λ i l x. skip_count (get_or grid10 i 0) _ (grid_free i l) x)

  outside10 : outside_of grid10 far10.cells ≡ true
  unfolding outside_of
  outside10 =
      few_sectors (λ (k : ℕ). some (cell_in grid10 k) 1600 || some (bin_in far10.cells k) 72) in_one
      (table_same (λ (k : ℕ). some (cell_in grid10 k) 1600 || some (bin_in far10.cells k) 72) in_one 8
      (λ k l. rw (no_cells_lem k, bin_sector far10 (heard_word (suc n) bits) n bin_here (word (suc n) bits few fit).count (word (suc n) bits few fit).low bin_free k))) one_sector

  past10 : (site : Site) → None ≡ past_horizon site far10
  past10 site = none_past site far10 (bin_low far10 (heard_word (suc n) bits) n bin_here (word (suc n) bits few fit).count (word (suc n) bits few fit).low bin_free)

-- 60 positions, no altitude, bin 0 only, 15 aircraft: Wrong 125, NothingNear
pub p10 : (site : Site) (bits : ℕ) → bits < 2 ^ 16 → judge_of (Some site) (Some 0) None (row_p10 60 bits) 0 15 ≡ Wrong 125 NothingNear
unfolding judge_of judge_row kept
p10 site bits b =
    let l : 60 ≤ 255 = omega arith in
    sym (to_off site (grid10 59 bits l b) (far10 59 bits l b) (outside10 59 bits l b) (past10 59 bits l b site) 125
    (p10_off (grid10 59 bits l b) (far10 59 bits l b) (places10 59 bits l b) (count10 59 bits l b)))

-- 59: Unjudged
pub p10_59 : (site : Site) (bits : ℕ) → bits < 2 ^ 16 → judge_of (Some site) (Some 0) None (row_p10 59 bits) 0 15 ≡ Unjudged
unfolding judge_of judge_row kept places
p10_59 site bits b =
    let l : 59 ≤ 255 = omega arith in
    sym (to_few site (grid10 58 bits l b) (far10 58 bits l b) (outside10 58 bits l b) (past10 58 bits l b site) 1
    (p10_few (grid10 58 bits l b) (far10 58 bits l b) (places10 58 bits l b) (count10 58 bits l b)) (ap length (sym (places10 58 bits l b))) (omega arith))

-- or 14 aircraft: Unjudged
pub p10_14 : (site : Site) (bits : ℕ) → judge_of (Some site) (Some 0) None (row_p10 60 bits) 0 14 ≡ Unjudged
unfolding judge_of
p10_14 site bits = refl

-- ---- Plausible errors: 15 aircraft, no altitudes, 255 positions in cell (e, n) = (1,1), one in (1,3), one in bin 0 give, since Item 2, Wrong by 125
-- (cells 820 and 860: column 20, rows 20 and 21)
unfoldable pub row_near : ℕ → List ℕ
row_near bits = set (set (set empty_row 820 (heard_word 255 bits)) 860 (heard_word 1 bits)) 1600 (heard_word 1 bits)

module _ (bits : ℕ) (fit : bits < 2 ^ 16) where
  abbrev most : ℕ
  most = heard_word 255 bits

  abbrev one : ℕ
  one = heard_word 1 bits

  abbrev grid_n : List ℕ
  grid_n = grid_of (row_near bits) true false

  abbrev far_n : Far
  far_n = far_of (row_near bits) true false

  one_set : length (set empty_row 820 most) ≡ 3344
  one_set = length-set empty_row 820 most ∙ row_length

  two_set : length (set (set empty_row 820 most) 860 one) ≡ 3344
  two_set = length-set (set empty_row 820 most) 860 one ∙ one_set

  -- what the row holds at each place
  row_1600 : get_or (row_near bits) 1600 0 ≡ one
  unfolding row_near
  row_1600 = get_or-set_same (set (set empty_row 820 most) 860 one) 1600 one 0 (omega (arith, two_set))

  row_860 : get_or (row_near bits) 860 0 ≡ one
  unfolding row_near
  row_860 = get_or-set_other (set (set empty_row 820 most) 860 one) 1600 860 one 0 (λ e. omega arith) ∙ get_or-set_same (set empty_row 820 most) 860 one 0 (omega (arith, one_set))

  row_820 : get_or (row_near bits) 820 0 ≡ most
  unfolding row_near
  row_820 =
      get_or-set_other (set (set empty_row 820 most) 860 one) 1600 820 one 0 (λ e. omega arith)
      ∙ get_or-set_other (set empty_row 820 most) 860 820 one 0 (λ e. omega arith)
      ∙ get_or-set_same empty_row 820 most 0 (omega (arith, row_length))

  row_else : (i : ℕ) → i < 3344 → (i ≡ 820 → ⊥) → (i ≡ 860 → ⊥) → (i ≡ 1600 → ⊥) → get_or (row_near bits) i 0 ≡ empty_word
  unfolding row_near
  row_else i l a b d =
      get_or-set_other (set (set empty_row 820 most) 860 one) 1600 i one 0 d
      ∙ get_or-set_other (set empty_row 820 most) 860 i one 0 b
      ∙ get_or-set_other empty_row 820 i most 0 a
      ∙ row_free i l

  -- its merged cells and bins
  near_820 : get_or grid_n 820 0 ≡ most
  near_820 = cell_at (row_near bits) 820 most (omega arith) row_820 (word 255 bits (omega arith) fit).fits

  near_860 : get_or grid_n 860 0 ≡ one
  near_860 = cell_at (row_near bits) 860 one (omega arith) row_860 (word 1 bits (omega arith) fit).fits

  near_free : (i : ℕ) → i < 1600 → (i ≡ 820 → ⊥) → (i ≡ 860 → ⊥) → get_or grid_n i 0 ≡ empty_word
  near_free i l a b = cell_at (row_near bits) i empty_word l (row_else i (omega arith) a b (λ e. omega arith)) empty_fits

  far_here : get_or far_n.cells 0 0 ≡ one
  far_here = bin_at (row_near bits) 0 one (omega arith) row_1600 (word 1 bits (omega arith) fit).fits

  far_free : (j : ℕ) → j < 72 → (j ≡ 0 → ⊥) → get_or far_n.cells j 0 ≡ empty_word
  far_free j l d = bin_at (row_near bits) j empty_word l (row_else (1600 + j) (omega arith) (λ e. omega arith) (λ e. omega arith) (λ e. omega arith)) empty_fits

  count_most : count_of most ≡ 255
  count_most = (word 255 bits (omega arith) fit).count

  count_one : count_of one ≡ 1
  count_one = (word 1 bits (omega arith) fit).count

  -- the three places heard
  cells_heard : heard (cell_place grid_n) grid_n 1600 ≡ cell_place grid_n 820 ∷ cell_place grid_n 860 ∷ []
  unfolding heard
  cells_heard =
      pass_two _ [] 820 860 1600 (omega arith) (omega arith) (λ i l a b x. skip_place (get_or grid_n i 0) (cell_place grid_n i) (near_free i l a b) x)
      ∙ rw (near_820, near_860, count_most, count_one)

  places_near : places_heard grid_n far_n ≡ cell_place grid_n 820 ∷ cell_place grid_n 860 ∷ bin_place far_n.cells 0 ∷ []
  unfolding places_heard
  places_near = rw (cells_heard, bin_heard far_n one 0 far_here count_one (word 1 bits (omega arith) fit).low far_free)

  off_125 : nothing_near grid_n far_n ≡ Some 125
  off_125 =
      places_skipped grid_n far_n places_near (ap count_of near_820 ∙ count_most) (ap count_of near_860 ∙ count_one) (ap count_of far_here ∙ count_one)

  -- (1,1) lies in sector 1, (1,3) in sector 0
  cell_sectors : (k : ℕ) → how_many (cell_in grid_n k) 1600 ≡ cond (eqb 0 k) (cond (eqb 1 k) 1 0 + 1) (cond (eqb 1 k) 1 0)
  unfolding cell_in in_sector square sector
  cell_sectors k =
      pass_two _ 0 820 860 1600 (omega arith) (omega arith) (λ i l a b x. skip_count (get_or grid_n i 0) _ (near_free i l a b) x)
      ∙ rw (near_820, near_860, count_most, count_one)

  outside_near : outside_of grid_n far_n.cells ≡ true
  unfolding outside_of
  outside_near =
      few_sectors (λ (k : ℕ). some (cell_in grid_n k) 1600 || some (bin_in far_n.cells k) 72) in_two
      (table_same (λ (k : ℕ). some (cell_in grid_n k) 1600 || some (bin_in far_n.cells k) 72) in_two 8
      (λ k l. rw (cell_sectors k, bin_sector far_n one 0 far_here count_one (word 1 bits (omega arith) fit).low far_free k))) two_sectors

pub nearest_skipped : (site : Site) (bits : ℕ) → bits < 2 ^ 16 → judge_of (Some site) (Some 0) None (row_near bits) 0 15 ≡ Wrong 125 NothingNear
unfolding judge_of judge_row kept
nearest_skipped site bits b =
    sym (to_off site (grid_n bits b) (far_n bits b) (outside_near bits b)
    (none_past site (far_n bits b) (bin_low (far_n bits b) (one bits b) 0 (far_here bits b) (count_one bits b) (word 1 bits (omega arith) b).low (far_free bits b))) 125 (off_125 bits b))
