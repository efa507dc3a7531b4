-- What is found, the best of it, and its members: a found cell has a cell around it, itself at least, so that 0 tells that a cell is not found. Assumes nothing.
use Rattle.std.specs.Prelude.{Option, Some, None, unwrap_or}
use Rattle.std.specs.Option.{is_some}
use mathlib.Core.Path.{◌≡◌, refl, sym, ap, ◌∙◌}
use mathlib.Core.Bool.{Bool, true, false, ◌&&◌, ◌||◌, cond, true≢false}
use mathlib.Core.List.{List}
use Prim.Native.Nat.{ℕ, ◌+◌, ◌≤◌, ◌<◌}
use native.Mathlib.Omega.{arith}
use borrow.Author.Tests.{lt-ltb, le-ltb, le-leb, lt-leb, ne_eqb}
use lib.Count.{ones}
use lib.Dec.{leb, ltb, eqb, leb-suc-suc}
use Rattle.std.proofs.Math.Bool.{and-true, and-false}
use Rattle.cells.specs.Passes.{how_many}
use Rattle.cells.proofs.Passes.{pass_none, pass_next}
use lib.ListN.{length}
use Rattle.view.specs.View.{occupied_among}
use Rattle.near_field.specs.Sorted.{sorted, nth}
use Rattle.plane.specs.Plane.{square, apart, east_of, north_of, dist, from_site, within25}
use Rattle.around.specs.Marks.{occ, near, marks_of, bits_in, around_of, sectors_in}
use Rattle.near_field.specs.Near.{cells_within, cell_distances, no_hole, found, cells_around, better, best_of, member}
use Rattle.near_field.proofs.Sorted.{those_length, those_nth}
use Rattle.around.proofs.Counts.{some_at}

-- ---- cells within a distance of the site
pub all_counted : (g : List ℕ) (n : ℕ) → length g ≡ 1600 → n ≡ occupied_among g (length g) → n ≡ how_many (occ g) 1600
unfolding occupied_among
all_counted g n e h = h ∙ ap (how_many (occ g)) e

-- with three cells or more, the third nearest is under 6 half cells away where three are at most √35 away
pub hole_many : (g : List ℕ) (n m : ℕ) → n ≡ how_many (occ g) 1600 → 3 ≤ n → m ≡ cells_within g 35 → leb 3 m ≡ no_hole g
unfolding no_hole cell_distances square
hole_many g n m e h k =
    rw (those_length (occ g) from_site 1600, le-ltb (how_many (occ g) 1600) 3 (rw e at h))
    (ap (leb 3) k ∙ sym (those_nth (occ g) from_site 1600 2 35 (rw e at h)) ∙ sym (leb-suc-suc (nth 2 (sorted (cell_distances g))) 35))

pub hole_few : (g : List ℕ) (n : ℕ) → n ≡ how_many (occ g) 1600 → n < 3 → true ≡ no_hole g
unfolding no_hole cell_distances
hole_few g n e h = rw (those_length (occ g) from_site 1600, lt-ltb (how_many (occ g) 1600) 3 (rw e at h))

-- ---- found
-- what the code has for a cell
abbrev pub found_cells : List ℕ → ℕ → Option ℕ
found_cells g i = cond (found g i) (Some (cells_around g i)) None

none_of : (o b : Bool) (n : Option ℕ) → None ≡ cond (o && (false && b)) n None
none_of true b n = refl
none_of false b n = refl

none_of_both : (o s : Bool) (n : Option ℕ) → None ≡ cond (o && (s && false)) n None
none_of_both true true n = refl
none_of_both true false n = refl
none_of_both false s n = refl

module _ (g : List ℕ) (i : ℕ) where
  pub f_empty : occ g i ≡ false → None ≡ found_cells g i
  unfolding found
  f_empty o = rw o

  pub f_sectors : (s : ℕ) → s ≡ sectors_in (marks_of g (east_of i) (north_of i) 1600) → s < 7 → None ≡ found_cells g i
  unfolding found around_of
  f_sectors s e h = rw (lt-leb 7 (sectors_in (marks_of g (east_of i) (north_of i) 1600)) (rw e at h)) (none_of (occ g i) (leb 8 (ones (bits_in (near g (east_of i) (north_of i)) g 1600))) (Some (cells_around g i)))

  pub f_bits : (b : Bool) → b ≡ leb 8 (ones (bits_in (near g (east_of i) (north_of i)) g 1600)) → b ≡ false → None ≡ found_cells g i
  unfolding found around_of
  f_bits b e h = rw (sym e ∙ h) (none_of_both (occ g i) (leb 7 (sectors_in (marks_of g (east_of i) (north_of i) 1600))) (Some (cells_around g i)))

  pub f_found :
      (s n : ℕ) (b : Bool) → occ g i ≡ true → s ≡ sectors_in (marks_of g (east_of i) (north_of i) 1600) → 7 ≤ s
      → b ≡ leb 8 (ones (bits_in (near g (east_of i) (north_of i)) g 1600)) → b ≡ true → n ≡ how_many (near g (east_of i) (north_of i)) 1600
      → Some n ≡ found_cells g i
  unfolding found cells_around around_of
  f_found s n b o e h eb hb en = rw (o, le-leb 7 (sectors_in (marks_of g (east_of i) (north_of i) 1600)) (rw e at h), sym eb ∙ hb) (ap Some en)

near_itself : (a b : ℕ) → within25 (dist a b a b) ≡ true
unfolding square
near_itself a b =
    let e : apart a a ≡ 0 = omega arith in
    let f : apart b b ≡ 0 = omega arith in
    rw (e, f)

occupied : (o t : Bool) → (o && t) ≡ true → o ≡ true
occupied true t e = refl
occupied false t e = e

pub own_cell : (g : List ℕ) (i : ℕ) → i < 1600 → found g i ≡ true → 0 < cells_around g i
unfolding found cells_around around_of near
own_cell g i l f =
    some_at (near g (east_of i) (north_of i)) i 1600 l
    (rw (occupied (occ g i) (leb 7 (sectors_in (marks_of g (east_of i) (north_of i) 1600)) && leb 8 (ones (bits_in (near g (east_of i) (north_of i)) g 1600))) f, near_itself (east_of i) (north_of i)))

-- ---- the best
-- as a number: 0 where it is not found
abbrev pub counted_cells : List ℕ → ℕ → ℕ
counted_cells g i = cond (found g i) (cells_around g i) 0

pub counted_is : {o : Option ℕ} {n : ℕ} (g : List ℕ) (i : ℕ) → o ≡ found_cells g i → n ≡ unwrap_or o 0 → n ≡ counted_cells g i
counted_is {o} {n} g i e h = h ∙ ap (λ (t : Option ℕ). unwrap_or t 0) e ∙ by (found g i) (cells_around g i) where
  by : (b : Bool) (k : ℕ) → unwrap_or (cond b (Some k) None) 0 ≡ cond b k 0
  by true k = refl
  by false k = refl

-- what the code keeps with it
abbrev pub most : List ℕ → ℕ → ℕ
most g b = cond (eqb b 1600) 0 (cells_around g b)

pub best_none : (g : List ℕ) → 1600 ≡ best_of g 0
best_none g = sym (pass_none (better g) 1600)

more : (b : Bool) (c n : ℕ) → 0 < n → (b || ltb c n) ≡ ltb (cond b 0 c) n
more true c n h = sym (lt-ltb 0 n h)
more false c n h = refl

test : (g : List ℕ) (i at : ℕ) → i < 1600 → (found g i && (eqb at 1600 || ltb (cells_around g at) (cells_around g i))) ≡ ltb (most g at) (counted_cells g i)
test g i at l = by (found g i) refl where
  by : (f : Bool) → found g i ≡ f → (f && (eqb at 1600 || ltb (cells_around g at) (cells_around g i))) ≡ ltb (most g at) (cond f (cells_around g i) 0)
  by true e = more (eqb at 1600) (cells_around g at) (cells_around g i) (own_cell g i l e)
  by false e = sym (le-ltb (most g at) 0 (omega arith))

pub best_step :
    (g : List ℕ) (i at cells n at' : ℕ) → i < 1600 → at ≡ best_of g i → cells ≡ most g at → n ≡ counted_cells g i → at' ≡ cond (ltb cells n) i at
    → at' ≡ best_of g (i + 1)
unfolding better
best_step g i at cells n at' l e m f h = rw (pass_next (better g) 1600 i, sym e, test g i at l) (cc)

none_less : (n : ℕ) → ltb n 0 ≡ false
none_less n = le-ltb n 0 (omega arith)

pub best_cells :
    (g : List ℕ) (i at cells n at' cells' : ℕ) → i < 1600 → cells ≡ most g at → n ≡ counted_cells g i → at' ≡ cond (ltb cells n) i at → cells' ≡ cond (ltb cells n) n cells
    → cells' ≡ most g at'
best_cells g i at cells n at' cells' l m f ea ec = by (ltb cells n) refl (found g i) refl where
  by : (t : Bool) → ltb cells n ≡ t → (u : Bool) → found g i ≡ u → cells' ≡ most g at'
  by true e true q =
      ec ∙ ap (λ (t : Bool). cond t n cells) e ∙ f ∙ ap (λ (b : Bool). cond b (cells_around g i) 0) q
      ∙ sym (ap (λ (b : Bool). cond b 0 (cells_around g i)) (ne_eqb i 1600 (λ z. omega arith))) ∙ sym (ap (most g) (ea ∙ ap (λ (t : Bool). cond t i at) e))
  by true e false q = absurd (true≢false (sym e ∙ ap (ltb cells) (f ∙ ap (λ (b : Bool). cond b (cells_around g i) 0) q) ∙ none_less cells))
  by false e u q = ec ∙ ap (λ (t : Bool). cond t n cells) e ∙ m ∙ sym (ap (most g) (ea ∙ ap (λ (t : Bool). cond t i at) e))

-- ---- members
pub member_far : (g : List ℕ) (best i d : ℕ) → d ≡ dist (east_of i) (north_of i) (east_of best) (north_of best) → 100 < d → false ≡ member g best i
unfolding member
member_far g best i d e h = rw (lt-leb (dist (east_of i) (north_of i) (east_of best) (north_of best)) 100 (rw e at h)) (sym (and-false (found g i)))

pub member_near :
    (g : List ℕ) (best i d : ℕ) (b : Bool) (o : Option ℕ) → d ≡ dist (east_of i) (north_of i) (east_of best) (north_of best) → d ≤ 100 → o ≡ found_cells g i
    → b ≡ is_some o → b ≡ member g best i
unfolding member
member_near g best i d b o e h f s =
    rw (le-leb (dist (east_of i) (north_of i) (east_of best) (north_of best)) 100 (rw e at h)) (s ∙ ap is_some f ∙ by (found g i) (cells_around g i) ∙ sym (and-true (found g i))) where
      by : (u : Bool) (k : ℕ) → is_some (cond u (Some k) None) ≡ u
      by true k = refl
      by false k = refl
