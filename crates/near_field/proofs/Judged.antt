-- The near field's answers, one law for each way. Assumes nothing.
use mathlib.Core.Path.{◌≡◌, refl, sym, ap, ◌∙◌}
use mathlib.Core.Bool.{◌&&◌, Bool, true, false, cond}
use mathlib.Core.List.{List, [], ◌∷◌}
use Prim.Native.Nat.{ℕ, ◌*◌, ◌≤◌, ◌<◌}
use native.Mathlib.Omega.{arith}
use borrow.Author.Tests.{lt-ltb, le-ltb, le-leb, lt-leb, eq-eqb, ne_eqb}
use lib.Dec.{leb, eqb}
use Rattle.cells.specs.Passes.{pass, some, table}
use Rattle.cells.proofs.Passes.{pass_all, some_none, table_same}
use Rattle.view.specs.View.{Unheard}
use Rattle.near_field.specs.Sorted.{those}
use Rattle.plane.specs.Plane.{square, said, from_site}
use Rattle.around.specs.declared.Nearby.{Nearby}
use Rattle.around.specs.Marks.{occ, near, in_sector, marks_of, around_of, sectors_in}
use Rattle.near_field.specs.Near.{cell_distances, no_hole, best_of, members, mean_square, found_of, best_or_none, near_field_by}
use Rattle.near_field.specs.declared.Judgment.TheVariants.{Unjudged, Fits, Wrong}
use Rattle.near_field.specs.declared.Evidence.TheVariants.{NearField}

four : (s : ℕ) → s < 5 → 3 < s → s ≡ 4
four s h k = omega arith

not_four : (s : ℕ) → s ≤ 3 → s ≡ 4 → ⊥
not_four s h e = omega arith

-- s sectors around the site
module _ (scale : ℕ) (g : List ℕ) (s : ℕ) (a : Nearby) (is : a ≡ around_of g 40 40) (many : s ≡ sectors_in a.marks) where
  e : s ≡ sectors_in (around_of g 40 40).marks
  e = many ∙ ap (λ (a : Nearby). sectors_in a.marks) is

  under_5 : s < 5 → leb 5 (sectors_in (around_of g 40 40).marks) ≡ false
  under_5 h = lt-leb 5 (sectors_in (around_of g 40 40).marks) (rw e at h)

  under_4 : s ≤ 3 → eqb (sectors_in (around_of g 40 40).marks) 4 ≡ false
  under_4 h = ne_eqb (sectors_in (around_of g 40 40).marks) 4 (rw e at (not_four s h))

  pub nf_fits : (out : Bool) → 5 ≤ s → Fits ≡ near_field_by scale g out
  unfolding near_field_by
  nf_fits out h = rw (le-leb 5 (sectors_in (around_of g 40 40).marks) (rw e at h))

  pub nf_four : (out : Bool) → s < 5 → 3 < s → Unjudged ≡ near_field_by scale g out
  unfolding near_field_by
  nf_four out h h2 = rw (under_5 h, eq-eqb (sectors_in (around_of g 40 40).marks) 4 (rw e at (four s h h2)))

  pub nf_inside : (out : Bool) → s < 5 → s ≤ 3 → out ≡ false → Unjudged ≡ near_field_by scale g out
  unfolding near_field_by
  nf_inside out h h2 o = rw (o, under_5 h, under_4 h2)

  pub nf_hole : (out : Bool) → s < 5 → s ≤ 3 → out ≡ true → no_hole g ≡ true → Unjudged ≡ near_field_by scale g out
  unfolding near_field_by
  nf_hole out h h2 o n = rw (o, under_5 h, under_4 h2, n)

  pub nf_rest : (out : Bool) → s < 5 → s ≤ 3 → out ≡ true → no_hole g ≡ false → best_or_none scale g (best_of g 1600) ≡ near_field_by scale g out
  unfolding near_field_by
  nf_rest out h h2 o n = rw (o, under_5 h, under_4 h2, n)

-- ---- no cell is occupied: no sector, and the third nearest cell is missing
module _ (g : List ℕ) (u : Unheard g) where
  no_sector : sectors_in (around_of g 40 40).marks ≡ 0
  unfolding around_of marks_of near sectors_in table pass
  no_sector =
      ap sectors_in
      (table_same (λ (k : ℕ). some (λ (i : ℕ). near g 40 40 i && in_sector 40 40 k i) 1600) (λ (k : ℕ). false) 8
      (λ k l. some_none (λ (i : ℕ). near g 40 40 i && in_sector 40 40 k i) 1600 (λ i m. rw (u i m))))

  no_cell : no_hole g ≡ true
  unfolding no_hole cell_distances those
  no_cell = rw (pass_all (λ (i : ℕ) (xs : List ℕ). cond (occ g i) (from_site i ∷ xs) xs) [] 1600 (λ i l xs. rw (u i l)))

  pub nf_unheard : (scale : ℕ) (out : Bool) → Unjudged ≡ near_field_by scale g out
  nf_unheard scale true = nf_hole scale g 0 _ refl (sym no_sector) true (omega arith) (omega arith) refl no_cell
  nf_unheard scale false = nf_inside scale g 0 _ refl (sym no_sector) false (omega arith) (omega arith) refl

pub no_best : (scale : ℕ) (g : List ℕ) (b : ℕ) → b ≡ 1600 → Unjudged ≡ best_or_none scale g b
unfolding best_or_none
no_best scale g b e = rw (eq-eqb b 1600 e)

pub a_best : (scale : ℕ) (g : List ℕ) (b : ℕ) → (b ≡ 1600 → ⊥) → found_of scale g b ≡ best_or_none scale g b
unfolding best_or_none
a_best scale g b d = rw (ne_eqb b 1600 d)

pub mean_under : (scale : ℕ) (g : List ℕ) (best m n : ℕ) → m ≡ mean_square g best → n ≡ members g best → m < 10 * n * (10 * n) → Unjudged ≡ found_of scale g best
unfolding found_of square
mean_under scale g best m n e f h = rw (lt-ltb (mean_square g best) (10 * members g best * (10 * members g best)) (rw (e, f) at h))

pub mean_over :
    (scale : ℕ) (g : List ℕ) (best m n off : ℕ) → m ≡ mean_square g best → n ≡ members g best → 10 * n * (10 * n) ≤ m → off ≡ said (scale * m) n
    → Wrong off NearField ≡ found_of scale g best
unfolding found_of square
mean_over scale g best m n off e f h o =
    rw (le-ltb (mean_square g best) (10 * members g best * (10 * members g best)) (rw (e, f) at h)) (cc)
