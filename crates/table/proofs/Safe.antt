-- For code that works on the rows: each link that is not none is a row's number; and a watch that passes questions 1 and 2 passes them again after
-- every call.
use Rattle.std.specs.Prelude.{Some}
use mathlib.Core.Path.{◌≡◌, refl, sym, ap, subst}
use mathlib.Core.Logic.{◌≢◌}
use Prim.Native.Nat.{ℕ, zero, suc, ◌≤◌, ◌<◌}
use native.Mathlib.Omega.{arith}
use mathlib.Core.Bool.{true, false}
use mathlib.Core.List.{List, [], ◌∷◌, ◌++◌, map}
use lib.Dec.{eqb, ltb}
use lib.ListN.{length, set, get_or-eq_default}
use Rattle.table.specs.Machine.{Key, Kind, Call}
use Rattle.table.specs.Rows.{NONE, Row, Chain, Watch, Form, chain_of, unmade_row, row_at}
use Rattle.table.specs.Questions.{question1, last_of, question2, find_row}
use Rattle.table.specs.Watch.{Body, free_row, Rowed, rowed_machine, watch_step, drop_step}
use Rattle.table.proofs.Tests.{by_bool, eqb_yes, eqb_no, ltb_true, ltb_false}
use Rattle.table.proofs.Numbers.{first, below_none}
use Rattle.table.proofs.Linked.{Linked, Freed, linked_split, Chained}
use Rattle.table.proofs.Question2.{Sizes, question_one, most_none, Question2, question_two}
use Rattle.table.proofs.Order.{Entry, table_step}
use Rattle.table.proofs.Entries.{entries, Located, absent, present, locate}
use Rattle.table.proofs.Rep.{Rep, RepAny, free_rep, question_one_yes, question_two_yes}
use Rattle.table.proofs.Refine.{Lawful, step_agrees}

module _ {P : Type 0} (u : P) where
  -- LINKS THAT ARE NOT NONE ARE ROWS
  first_below : (rows : List (Row P)) (p : ℕ) (l : List ℕ) → Linked u rows p l NONE → first l NONE ≢ NONE → first l NONE < length rows
  first_below rows p [] h n = absurd (n refl)
  first_below rows p (i ∷ l) h n = h.0

  last_below : (rows : List (Row P)) (p : ℕ) (l : List ℕ) (n : ℕ) → Linked u rows p l n → p ≡ NONE → last_of p l ≢ NONE → last_of p l < length rows
  last_below rows p [] n h e k = absurd (k e)
  last_below rows p (i ∷ []) n h e k = h.0
  last_below rows p (i ∷ j ∷ l) n h e k = go i (j ∷ l) h.3 h.0
    where
      go : (q : ℕ) (m : List ℕ) → Linked u rows q m n → q < length rows → last_of q m < length rows
      go q [] x y = y
      go q (r ∷ m) x y = go r m x.3 x.0

  free_below : (rows : List (Row P)) (l : List ℕ) → Freed u rows l → first l NONE ≢ NONE → first l NONE < length rows
  free_below rows [] h n = absurd (n refl)
  free_below rows (i ∷ l) h n = h.0

  -- the three ends
  pub head_row : (c : Chain P) (used free : List ℕ) → Chained u c used free → c.ends.head ≢ NONE → c.ends.head < length c.rows
  head_row c used free v n = subst (λ (x : ℕ). x < length c.rows) (sym v.head_is) (first_below c.rows NONE used v.linked (subst (λ (x : ℕ). x ≢ NONE) v.head_is n))

  pub free_row_lem : (c : Chain P) (used free : List ℕ) → Chained u c used free → c.ends.free ≢ NONE → c.ends.free < length c.rows
  free_row_lem c used free v n = subst (λ (x : ℕ). x < length c.rows) (sym v.free_is) (free_below c.rows free v.freed (subst (λ (x : ℕ). x ≢ NONE) v.free_is n))

  -- a used row and its two neighbours
  pub record Neighbours (c : Chain P) (i : ℕ) : Type 0 where
    pub row : i < length c.rows
    pub before : (row_at u c.rows i).prev ≢ NONE → (row_at u c.rows i).prev < length c.rows
    pub after : (row_at u c.rows i).next ≢ NONE → (row_at u c.rows i).next < length c.rows

  pub neighbours : (c : Chain P) (pre : List ℕ) (i : ℕ) (post free : List ℕ) → Chained u c (pre ++ i ∷ post) free → Neighbours c i
  neighbours c pre i post free v =
      let s = linked_split u c.rows NONE pre (i ∷ post) NONE v.linked in
      record {
        row = s.1.0;
        before = λ n. subst (λ (x : ℕ). x < length c.rows) (sym s.1.1) (last_below c.rows NONE pre i s.0 refl (subst (λ (x : ℕ). x ≢ NONE) s.1.1 n));
        after = λ n. subst (λ (x : ℕ). x < length c.rows) (sym s.1.2) (first_below c.rows i post s.1.3 (subst (λ (x : ℕ). x ≢ NONE) s.1.2 n));
      }

-- the row that a search finds in a watch that passes questions 1 and 2
pub found_row : {P : Type 0} (F : Form P) (w : Watch P) (k : Key) (i : ℕ) → question1 F w ≡ true → question2 F w ≡ true → find_row F.unmade w.rows (length w.rows) k w.ends.head ≡ Some i → Neighbours F.unmade (chain_of w) i
found_row F w k i h₁ h₂ e =
    let small : length w.rows ≤ NONE = omega (arith, (question_one F w h₁).at_most, most_none) in
    let q = question_two F w small h₂ in
    let e' : find_row F.unmade w.rows (length w.rows) k (first q.used NONE) ≡ Some i = subst (λ (x : ℕ). find_row F.unmade w.rows (length w.rows) k x ≡ Some i) q.chained.head_is e in
    go q.used q.free q.chained e' (locate F w (length w.rows) k q.used NONE small (omega (arith, q.count)) q.chained.linked)
  where
    go : (used free : List ℕ) → Chained F.unmade (chain_of w) used free → find_row F.unmade w.rows (length w.rows) k (first used NONE) ≡ Some i → Located F w (length w.rows) k used → Neighbours F.unmade (chain_of w) i
    go used free v x (absent y z) = let n : ◌≡◌ {A = ℕ} 0 1 = cc in absurd (omega arith)
    go used free v x (present a) =
        let r : a.row ≡ i = (let y = a.search in cc) in
        subst (λ (j : ℕ). Neighbours F.unmade (chain_of w) j) r (neighbours F.unmade (chain_of w) a.pre a.row a.post free (subst (λ (l : List ℕ). Chained F.unmade (chain_of w) l free) a.splits v))

-- EVERY WATCH THAT PASSES stands for a list, and passes again after each call
module _ {Act Out : Type 0} (kind : Act → Kind) (R : Rowed Act Out) (law : Lawful R) (w : Watch R.Part) (h₁ : question1 R.form w ≡ true) (h₂ : question2 R.form w ≡ true) where
  sizes : Sizes R.form w
  sizes = question_one R.form w h₁

  small : length w.rows ≤ NONE
  small = omega (arith, sizes.at_most, most_none)

  two : Question2 R.form w
  two = question_two R.form w small h₂

  beyond : (j : ℕ) → length w.rows ≤ j → R.form.sound (row_at R.form.unmade w.rows j).part ≡ true
  beyond j h = rw (get_or-eq_default w.rows (unmade_row R.form.unmade NONE) h) law.form_laws.unmade_sound

  rep : Rep R.form (length w.rows) w (entries R.form w two.used) two.used two.free
  rep = record {
    chained = two.chained;
    count = two.count;
    rows_long = refl;
    cells_long = sizes.cells;
    sound_at = λ j. by_bool (ltb j (length w.rows)) (λ p. two.sound_at j (ltb_true j (length w.rows) p)) (λ p. beyond j (ltb_false j (length w.rows) p));
    table = refl;
  }

  passes : (x : Watch R.Part) (t : List (Entry (Body R.Part))) → RepAny R.form (length w.rows) x t → (question1 R.form x ≡ true) × (question2 R.form x ≡ true)
  passes x t n = (
    question_one_yes R.form law.form_laws (length w.rows) sizes.some_row sizes.at_most x t n.0 n.1 n.2,
    question_two_yes R.form law.form_laws (length w.rows) sizes.some_row sizes.at_most x t n.0 n.1 n.2,
  )

  pub passes_again : (c : Call Act) → (question1 R.form (watch_step kind R w c).next ≡ true) × (question2 R.form (watch_step kind R w c).next ≡ true)
  passes_again c =
      let t = entries R.form w two.used in
      passes (watch_step kind R w c).next (table_step kind (rowed_machine R) (length w.rows) t c).next
      (step_agrees kind R law (length w.rows) sizes.some_row sizes.at_most w t c (two.used, two.free, rep)).1

  -- drop-oldest too
  module _ (freed : Key → Out) where
    drop_rep : (used free : List ℕ) → Rep R.form (length w.rows) w (entries R.form w used) used free →
        (t : List (Entry (Body R.Part))) × RepAny R.form (length w.rows) (drop_step R.form freed w).next t
    drop_rep [] free v =
        let n : eqb w.ends.head NONE ≡ true = eqb_yes w.ends.head NONE v.chained.head_is in
        ([], ([], free, rw (h₁, h₂, n) v))
    drop_rep (i ∷ l) free v =
        let n : eqb w.ends.head NONE ≡ false = eqb_no w.ends.head NONE (subst (λ (x : ℕ). x ≢ NONE) (sym v.chained.head_is) (below_none v.chained.linked.0 small)) in (
          entries R.form w l,
          (
            l,
            i ∷ free,
            rw (h₁, h₂, n)
                (subst (λ (x : ℕ). Rep R.form (length w.rows) (free_row R.form w x) (entries R.form w l) l (i ∷ free)) (sym v.chained.head_is)
                (free_rep R.form law.form_laws (length w.rows) sizes.some_row sizes.at_most w (entries R.form w (i ∷ l)) [] i l free v)),
          ),
        )

    pub drop_passes : (question1 R.form (drop_step R.form freed w).next ≡ true) × (question2 R.form (drop_step R.form freed w).next ≡ true)
    drop_passes = let d = drop_rep two.used two.free rep in passes (drop_step R.form freed w).next d.0 d.1

-- a store, seen through a function of each element
pub map_set : {A B : Type 0} (f : A → B) (l : List A) (i : ℕ) (a : A) → map f (set l i a) ≡ set (map f l) i (f a)
map_set f [] i a = refl
map_set f (x ∷ l) zero a = refl
map_set {A} {B} f (x ∷ l) (suc i) a = ap {B = List B} (λ r. f x ∷ r) (map_set f l i a)
