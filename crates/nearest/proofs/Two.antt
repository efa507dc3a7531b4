-- The two nearest of places that come one by one: one more goes behind its equals (`ascending_last`), so the first two of the list in order are told by the first
-- two before it (`two_more`), and a pass over the words that keeps two places finds those of all (`among_heard`). Assumes nothing.
use mathlib.Core.Path.{◌≡◌, refl, sym, ap, ◌∙◌}
use mathlib.Core.Bool.{Bool, true, false, cond}
use mathlib.Core.Logic.{⊎_elim}
use mathlib.Core.List.{List, [], ◌∷◌, ◌++◌, append-nil, append_assoc}
use Prim.Native.Nat.{ℕ, zero, suc, ◌+◌, ◌*◌, ◌≤◌, ◌<◌, ◌%◌}
use native.Mathlib.Nat.{mod-lt, zero-lt-suc}
use native.Mathlib.Omega.{arith}
use borrow.Author.Tests.{eqb-true, ltb-true, lt-ltb, le-ltb, le-leb, lt-leb}
use lib.Dec.{ltb, eqb}
use lib.ListN.{get_or}
use Rattle.std.proofs.lemmas.Bool.{cases_lt}
use Rattle.cells.specs.Cells.{count_of, occupied_word}
use Rattle.cells.specs.Passes.{pass}
use Rattle.cells.proofs.Passes.{pass_next, pass_skip, first_unique}
use Rattle.plane.specs.Plane.{square, steps, east_of, north_of, apart, from_site}
use Rattle.plane.proofs.Squares.{square_le}
use Rattle.view.specs.declared.Far.{Far}
use Rattle.near_field.specs.Sorted.{insert, ascending}
use Rattle.near_field.proofs.Sorted.{From, from_ascending}
use Rattle.nearest.specs.declared.Spot.{Spot}
use Rattle.nearest.specs.declared.Nearest.{Nearest}
use Rattle.nearest.specs.Nothing.{Place, nearest_of, km, edges, cell_place, bin_place, heard, places_heard}
use Rattle.view.specs.View.{positions_among}
use Rattle.nearest.specs.Counted.{cell_step, bin_step, step_of, spot_of, no_place, cell_spot, bin_spot, first_two, two_nearest, put, nearer, nearest_among}
use Rattle.nearest.proofs.Sums.{none_behind}
use Rattle.nearest.proofs.Steps.{every, every_at, bands}

-- ---- one more element of a list in order
module _ {A : Type 0} (key : A → ℕ) where
  -- a put behind the last that is not more
  unfoldable insert_last : A → List A → List A
  insert_last a [] = a ∷ []
  insert_last a (b ∷ l) = cond (ltb (key a) (key b)) (a ∷ b ∷ l) (b ∷ insert_last a l)

  module _ (a b : A) (l : List A) where
    before : key a ≤ key b → insert key a (b ∷ l) ≡ a ∷ b ∷ l
    unfolding insert
    before h = rw (le-leb (key a) (key b) h)

    past : key b < key a → insert key a (b ∷ l) ≡ b ∷ insert key a l
    unfolding insert
    past h = rw (lt-leb (key a) (key b) h)

    last_before : key a < key b → insert_last a (b ∷ l) ≡ a ∷ b ∷ l
    unfolding insert_last
    last_before h = rw (lt-ltb (key a) (key b) h)

    last_past : key b ≤ key a → insert_last a (b ∷ l) ≡ b ∷ insert_last a l
    unfolding insert_last
    last_past h = rw (le-ltb (key a) (key b) h)

  -- of two elements that come from the two ends it does not matter which is put first
  either_first : (x a : A) (l : List A) → insert key x (insert_last a l) ≡ insert_last a (insert key x l)
  unfolding insert insert_last
  either_first x a [] =
      ⊎_elim (λ (h : key a < key x). past x a [] h ∙ sym (last_before a x [] h)) (λ (h : key x ≤ key a). before x a [] h ∙ sym (last_past a x [] h)) (cases_lt (key a) (key x))
  either_first x a (b ∷ l) =
      ⊎_elim
      (λ (ab : key a < key b).
      ap (insert key x) (last_before a b l ab)
      ∙ ⊎_elim
      (λ (ax : key a < key x).
      past x a (b ∷ l) ax
      ∙ ⊎_elim
      (λ (bx : key b < key x). ap (λ (m : List A). a ∷ m) (past x b l bx) ∙ sym (last_before a b (insert key x l) ab) ∙ sym (ap (insert_last a) (past x b l bx)))
      (λ (xb : key x ≤ key b). ap (λ (m : List A). a ∷ m) (before x b l xb) ∙ sym (last_before a x (b ∷ l) ax) ∙ sym (ap (insert_last a) (before x b l xb)))
      (cases_lt (key b) (key x)))
      (λ (xa : key x ≤ key a).
      before x a (b ∷ l) xa ∙ sym (ap (λ (m : List A). x ∷ m) (last_before a b l ab)) ∙ sym (last_past a x (b ∷ l) xa) ∙ sym (ap (insert_last a) (before x b l (omega arith))))
      (cases_lt (key a) (key x)))
      (λ (ba : key b ≤ key a).
      ap (insert key x) (last_past a b l ba)
      ∙ ⊎_elim
      (λ (bx : key b < key x).
      past x b (insert_last a l) bx ∙ ap (λ (m : List A). b ∷ m) (either_first x a l) ∙ sym (last_past a b (insert key x l) ba) ∙ sym (ap (insert_last a) (past x b l bx)))
      (λ (xb : key x ≤ key b).
      before x b (insert_last a l) xb ∙ sym (ap (λ (m : List A). x ∷ m) (last_past a b l ba)) ∙ sym (last_past a x (b ∷ l) (omega arith)) ∙ sym (ap (insert_last a) (before x b l xb)))
      (cases_lt (key b) (key x)))
      (cases_lt (key a) (key b))

  ascending_last : (l : List A) (a : A) → ascending key (l ++ (a ∷ [])) ≡ insert_last a (ascending key l)
  unfolding ascending insert insert_last
  ascending_last [] a = refl
  ascending_last (x ∷ l) a = ap (insert key x) (ascending_last l a) ∙ either_first x a (ascending key l)

-- ---- the first two with one more place
two_put : (l : List Place) (a : Place) → From nearest_of 0 l → nearest_of a < 1048576 → first_two (insert_last nearest_of a l) ≡ nearer (first_two l) (spot_of a)
unfolding first_two nearer put spot_of no_place insert_last From
two_put [] a f low = rw (lt-ltb (nearest_of a) 1048576 low)
two_put (b ∷ []) a f low =
    ⊎_elim (λ (h : nearest_of a < nearest_of b). rw (lt-ltb (nearest_of a) (nearest_of b) h, lt-ltb (nearest_of a) 1048576 low))
    (λ (h : nearest_of b ≤ nearest_of a). rw (le-ltb (nearest_of a) (nearest_of b) h, lt-ltb (nearest_of a) 1048576 low))
    (cases_lt (nearest_of a) (nearest_of b))
two_put (b ∷ c ∷ l) a f low =
    ⊎_elim (λ (h : nearest_of a < nearest_of b). rw (lt-ltb (nearest_of a) (nearest_of b) h, lt-ltb (nearest_of a) (nearest_of c) (omega (arith, f.1.0))))
    (λ (h : nearest_of b ≤ nearest_of a).
    ⊎_elim (λ (g : nearest_of a < nearest_of c). rw (le-ltb (nearest_of a) (nearest_of b) h, lt-ltb (nearest_of a) (nearest_of c) g))
    (λ (g : nearest_of c ≤ nearest_of a). rw (le-ltb (nearest_of a) (nearest_of b) h, le-ltb (nearest_of a) (nearest_of c) g))
    (cases_lt (nearest_of a) (nearest_of c)))
    (cases_lt (nearest_of a) (nearest_of b))

two_more : (l : List Place) (a : Place) → nearest_of a < 1048576 → nearer (two_nearest l) (spot_of a) ≡ two_nearest (l ++ (a ∷ []))
unfolding two_nearest
two_more l a low = sym (two_put (ascending nearest_of l) a (from_ascending nearest_of l) low) ∙ sym (ap first_two (ascending_last nearest_of l a))

-- ---- the code's steps
no_steps_lem : steps 0 1 ≡ 0
unfolding steps square
no_steps_lem = first_unique (λ (k : ℕ). ltb 0 (square ((2 * k + 1) * 1))) 160 0 (omega arith) (λ j l. absurd (omega arith)) (λ l. refl)

pub none_two : two_nearest [] ≡ record { first = record { nearest = 1048576; step = 0; positions = 0 }; second = record { nearest = 1048576; step = 0; positions = 0 } }
unfolding two_nearest ascending first_two spot_of step_of no_place
none_two = ap (λ (k : ℕ). record { first = record { nearest = 1048576; step = k; positions = 0 }; second = record { nearest = 1048576; step = k; positions = 0 } }) no_steps_lem

pub same_spot : {d d' k k' n n' : ℕ} → d ≡ d' → k ≡ k' → n ≡ n'
    → ◌≡◌ {A = Spot} (record { nearest = d; step = k; positions = n }) (record { nearest = d'; step = k'; positions = n' })
same_spot p q r = cc

module _ (near : Nearest) (s : Spot) where
  pub put_before : s.nearest < near.first.nearest → record { first = s; second = near.first } ≡ put near s
  unfolding put
  put_before h = rw (lt-ltb s.nearest near.first.nearest h)

  pub put_behind : near.first.nearest ≤ s.nearest → record { first = near.first; second = s } ≡ put near s
  unfolding put
  put_behind h = rw (le-ltb s.nearest near.first.nearest h)

  pub is_nearer : (t : Spot) → s ≡ t → s.nearest < near.second.nearest → put near s ≡ nearer near t
  unfolding nearer
  is_nearer t e h = rw (sym e, lt-ltb s.nearest near.second.nearest h)

  pub not_nearer : (d : ℕ) → d ≡ s.nearest → near.second.nearest ≤ d → near ≡ nearer near s
  unfolding nearer
  not_nearer d e h = rw (le-ltb s.nearest near.second.nearest (omega arith))

-- ---- a pass over words: a turn, and all of them
module _ (spot : ℕ → ℕ → Spot) (words : List ℕ) (start near : Nearest) (i : ℕ) (is : near ≡ nearest_among spot words start i) where
  turn : (o : Bool) → occupied_word (get_or words i 0) ≡ o → cond o (nearer near (spot (get_or words i 0) i)) near ≡ nearest_among spot words start (i + 1)
  unfolding nearest_among
  turn o e =
      ap (λ (t : Bool). cond t (nearer near (spot (get_or words i 0) i)) near) (sym e)
      ∙ ap (λ (n : Nearest). cond (occupied_word (get_or words i 0)) (nearer n (spot (get_or words i 0) i)) n) is
      ∙ sym (pass_next (λ (i : ℕ) (near : Nearest). cond (occupied_word (get_or words i 0)) (nearer near (spot (get_or words i 0) i)) near) start i)

  pub among_one : occupied_word (get_or words i 0) ≡ true → nearer near (spot (get_or words i 0) i) ≡ nearest_among spot words start (i + 1)
  among_one e = turn true e

  pub among_none : occupied_word (get_or words i 0) ≡ false → near ≡ nearest_among spot words start (i + 1)
  among_none e = turn false e

-- where all positions were seen no word behind is occupied
pub all_nearest :
    (spot : ℕ → ℕ → Spot) (words : List ℕ) (start : Nearest) (j n : ℕ) → j ≤ n → positions_among words n ≤ positions_among words j
    → nearest_among spot words start n ≡ nearest_among spot words start j
unfolding nearest_among
all_nearest spot words start j n le h =
    pass_skip (λ (i : ℕ) (near : Nearest). cond (occupied_word (get_or words i 0)) (nearer near (spot (get_or words i 0) i)) near) start j n le
    (λ i p q near. ap (λ (t : Bool). cond t (nearer near (spot (get_or words i 0) i)) near) (le-ltb 0 (count_of (get_or words i 0)) (let e = none_behind words j n h i p q in omega arith)))

pub among_start : (spot : ℕ → ℕ → Spot) (words : List ℕ) (start : Nearest) → start ≡ nearest_among spot words start 0
unfolding nearest_among pass
among_start spot words start = refl

module _ (place : ℕ → Place) (spot : ℕ → ℕ → Spot) (words : List ℕ) (same : (i : ℕ) → spot (get_or words i 0) i ≡ spot_of (place i)) (l : List Place) where
  grown : (o : Bool) (i : ℕ) (near : Nearest) (h : List Place) → nearest_of (place i) < 1048576 → near ≡ two_nearest (l ++ h)
      → cond o (nearer near (spot (get_or words i 0) i)) near ≡ two_nearest (l ++ cond o (h ++ (place i ∷ [])) h)
  grown true i near h low e =
      ap (nearer near) (same i) ∙ ap (λ (n : Nearest). nearer n (spot_of (place i))) e ∙ two_more (l ++ h) (place i) low ∙ ap two_nearest (append_assoc l h (place i ∷ []))
  grown false i near h low e = e

  pub among_heard : (n : ℕ) → ((i : ℕ) → i < n → nearest_of (place i) < 1048576) → nearest_among spot words (two_nearest l) n ≡ two_nearest (l ++ heard place words n)
  unfolding nearest_among heard pass
  among_heard zero low = sym (ap two_nearest (append-nil l))
  among_heard (suc n) low =
      grown (occupied_word (get_or words n 0)) n (nearest_among spot words (two_nearest l) n) (heard place words n) (low n (omega arith)) (among_heard n (λ i h. low i (omega arith)))

-- ---- the nine edges
edges_right : every (λ (b : ℕ). eqb (get_or bands b (0, 0)).0 (km (get_or edges b 0))) 9 ≡ true
unfolding bands every km square edges
edges_right = refl

pub edge_square : (j : ℕ) → (get_or bands (j % 9) (0, 0)).0 ≡ km (get_or edges (j % 9) 0)
edge_square j =
    eqb-true (get_or bands (j % 9) (0, 0)).0 (km (get_or edges (j % 9) 0)) (every_at (λ (b : ℕ). eqb (get_or bands b (0, 0)).0 (km (get_or edges b 0))) 9 edges_right (j % 9) (mod-lt j (zero-lt-suc 8)))

-- ---- no cell and no bin is farther than none
cell_low : (i : ℕ) → i < 1600 → from_site i < 1048576
unfolding square
cell_low i l =
    omega (arith, square_le {m = apart (east_of i) 40} {n = 40} (omega arith), square_le {m = apart (north_of i) 40} {n = 40} (omega arith))

bin_low : (j : ℕ) → km (get_or edges (j % 9) 0) < 1048576
unfolding km square edges every
bin_low j = ltb-true (km (get_or edges (j % 9) 0)) 1048576 (every_at (λ (b : ℕ). ltb (km (get_or edges b 0)) 1048576) 9 refl (j % 9) (mod-lt j (zero-lt-suc 8)))

module _ (grid : List ℕ) (far : Far) where
  -- the cells', and with the bins those of all places
  pub cells_nearest : nearest_among cell_spot grid (two_nearest []) 1600 ≡ two_nearest (heard (cell_place grid) grid 1600)
  unfolding cell_spot spot_of step_of cell_step cell_place
  cells_nearest = among_heard (cell_place grid) cell_spot grid (λ i. refl) [] 1600 cell_low

  pub bins_nearest : (near : Nearest) → near ≡ two_nearest (heard (cell_place grid) grid 1600) → nearest_among bin_spot far.cells near 72 ≡ two_nearest (places_heard grid far)
  unfolding places_heard bin_spot spot_of step_of bin_step bin_place
  bins_nearest near e =
      ap (λ (n : Nearest). nearest_among bin_spot far.cells n 72) e
      ∙ among_heard (bin_place far.cells) bin_spot far.cells (λ j. refl) (heard (cell_place grid) grid 1600) 72 (λ j l. bin_low j)
