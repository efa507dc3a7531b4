-- A part of the used chain is a list of row numbers that the links run along, and so is the free chain by its links after. A write to a row
-- elsewhere leaves such a list (`frame`); a write at its end, or at its start, gives it another end, or another start. A number that is no row,
-- NONE among them, writes nothing, so the tests on NONE in the steps on links vanish (`none_next`, `none_prev`).
use mathlib.Core.Path.{◌≡◌, sym, ◌∙◌}
use mathlib.Core.Logic.{◌≢◌}
use Prim.Native.Nat.{ℕ, ◌≤◌, ◌<◌}
use native.Mathlib.Omega.{arith}
use mathlib.Core.Bool.{cond}
use mathlib.Core.List.{List, [], ◌∷◌, ◌++◌}
use lib.Dec.{eqb, ltb}
use lib.ListN.{length, set, length-set}
use lib.Seq.{get_or-set_same, get_or-set_other, set_out}
use Rattle.table.specs.Rows.{NONE, Row, Chain, unmade_row, relinked, row_at, set_next, set_prev}
use Rattle.table.specs.Questions.{last_of}
use Rattle.table.proofs.Tests.{by_bool, eqb_true, eqb_false, ltb_true, ltb_false}
use Rattle.table.proofs.Numbers.{first, Apart, Distinct, apart_last, below_none}

module _ {P : Type 0} (u : P) where
  -- ROWS AFTER A WRITE
  pub at_same : (rows : List (Row P)) (i : ℕ) (r : Row P) → i < length rows → row_at u (set rows i r) i ≡ r
  at_same rows i r h = get_or-set_same rows i r (unmade_row u NONE) h

  pub at_other : (rows : List (Row P)) (i j : ℕ) (r : Row P) → j ≢ i → row_at u (set rows i r) j ≡ row_at u rows j
  at_other rows i j r h = get_or-set_other rows i j r (unmade_row u NONE) h

  -- what a write leaves as it was in its row, it leaves everywhere
  pub at_kept : {A : Type 0} (g : Row P → A) (rows : List (Row P)) (i : ℕ) (r : Row P) → g r ≡ g (row_at u rows i) → (j : ℕ) → g (row_at u (set rows i r) j) ≡ g (row_at u rows j)
  at_kept g rows i r e j =
      by_bool (eqb j i)
      (λ p. by_bool (ltb i (length rows))
      (λ q. rw (eqb_true j i p, at_same rows i r (ltb_true i (length rows) q)) e)
      (λ q. rw (set_out rows i r (ltb_false i (length rows) q))))
      (λ p. rw (at_other rows i j r (eqb_false j i p)))

  -- a part of the used chain: it comes after row p and n follows it
  abbrev pub Linked : List (Row P) → ℕ → List ℕ → ℕ → Type 0
  Linked rows p [] n = Unit {0}
  Linked rows p (i ∷ l) n = (i < length rows) × ((row_at u rows i).prev ≡ p) × ((row_at u rows i).next ≡ first l n) × Linked rows i l n

  -- the free chain, by next links alone
  abbrev pub Freed : List (Row P) → List ℕ → Type 0
  Freed rows [] = Unit {0}
  Freed rows (i ∷ l) = (i < length rows) × ((row_at u rows i).next ≡ first l NONE) × Freed rows l

  pub linked_split : (rows : List (Row P)) (p : ℕ) (l m : List ℕ) (n : ℕ) → Linked rows p (l ++ m) n → Linked rows p l (first m n) × Linked rows (last_of p l) m n
  linked_split rows p [] m n h = (tt, h)
  linked_split rows p (i ∷ []) m n h = ((h.0, h.1, h.2, tt), h.3)
  linked_split rows p (i ∷ j ∷ l) m n h = let r = linked_split rows i (j ∷ l) m n h.3 in ((h.0, h.1, h.2, r.0), r.1)

  pub linked_join : (rows : List (Row P)) (p : ℕ) (l m : List ℕ) (n : ℕ) → Linked rows p l (first m n) → Linked rows (last_of p l) m n → Linked rows p (l ++ m) n
  linked_join rows p [] m n h k = k
  linked_join rows p (i ∷ []) m n h k = (h.0, h.1, h.2, k)
  linked_join rows p (i ∷ j ∷ l) m n h k = (h.0, h.1, h.2, linked_join rows i (j ∷ l) m n h.3 k)

  -- a write elsewhere
  pub frame : (rows : List (Row P)) (p : ℕ) (l : List ℕ) (n i : ℕ) (r : Row P) → Apart i l → Linked rows p l n → Linked (set rows i r) p l n
  frame rows p [] n i r a h = tt
  frame rows p (j ∷ l) n i r a h =
      let e : row_at u (set rows i r) j ≡ row_at u rows j = at_other rows i j r (λ q. a.0 (sym q)) in
      (rw (length-set rows i r) h.0, rw e h.1, rw e h.2, frame rows j l n i r a.1 h.3)

  pub frame_free : (rows : List (Row P)) (l : List ℕ) (i : ℕ) (r : Row P) → Apart i l → Freed rows l → Freed (set rows i r) l
  frame_free rows [] i r a h = tt
  frame_free rows (j ∷ l) i r a h =
      let e : row_at u (set rows i r) j ≡ row_at u rows j = at_other rows i j r (λ q. a.0 (sym q)) in
      (rw (length-set rows i r) h.0, rw e h.1, frame_free rows l i r a.1 h.2)

  -- NONE is no row
  pub none_apart : (rows : List (Row P)) (p : ℕ) (l : List ℕ) (n : ℕ) → length rows ≤ NONE → Linked rows p l n → Apart NONE l
  none_apart rows p [] n s h = tt
  none_apart rows p (i ∷ l) n s h = ((λ e. below_none h.0 s (sym e)), none_apart rows i l n s h.3)

  -- another end
  pub set_end : (rows : List (Row P)) (p i : ℕ) (l : List ℕ) (n n' : ℕ) → Distinct (i ∷ l) → Linked rows p (i ∷ l) n → Linked (set_next u rows (last_of i l) n') p (i ∷ l) n'
  set_end rows p i [] n n' d h =
      let e = at_same rows i (relinked (row_at u rows i) (row_at u rows i).prev n') h.0 in
      (rw length-set h.0, rw e h.1, rw e, tt)
  set_end rows p i (j ∷ l) n n' d h =
      let e = at_other rows (last_of j l) i (relinked (row_at u rows (last_of j l)) (row_at u rows (last_of j l)).prev n') (apart_last i j l d.0) in
      (rw length-set h.0, rw e h.1, rw e h.2, set_end rows i j l n n' d.1 h.3)

  -- another start
  pub set_start : (rows : List (Row P)) (p p' i : ℕ) (l : List ℕ) (n : ℕ) → Distinct (i ∷ l) → Linked rows p (i ∷ l) n → Linked (set_prev u rows i p') p' (i ∷ l) n
  set_start rows p p' i l n d h =
      let r : Row P = relinked (row_at u rows i) p' (row_at u rows i).next in
      let e : row_at u (set rows i r) i ≡ r = at_same rows i r h.0 in
      (rw length-set h.0, rw e, rw e h.2, frame rows i l n i r d.0 h.3)

  -- the tests on NONE: a write at NONE is none
  pub none_next : (rows : List (Row P)) (q n : ℕ) → length rows ≤ NONE → cond (eqb q NONE) rows (set_next u rows q n) ≡ set_next u rows q n
  none_next rows q n s =
      by_bool (eqb q NONE)
      (λ p. rw p (sym (set_out rows q (relinked (row_at u rows q) (row_at u rows q).prev n) (omega (arith, eqb_true q NONE p)))))
      (λ p. rw p)

  pub none_prev : (rows : List (Row P)) (q n : ℕ) → length rows ≤ NONE → cond (eqb q NONE) rows (set_prev u rows q n) ≡ set_prev u rows q n
  none_prev rows q n s =
      by_bool (eqb q NONE)
      (λ p. rw p (sym (set_out rows q (relinked (row_at u rows q) n (row_at u rows q).next) (omega (arith, eqb_true q NONE p)))))
      (λ p. rw p)

  -- A CHAIN AS TWO LISTS of row numbers
  pub record Chained (c : Chain P) (used free : List ℕ) : Type 0 where
    pub linked : Linked c.rows NONE used NONE
    pub freed : Freed c.rows free
    pub head_is : c.ends.head ≡ first used NONE
    pub tail_is : c.ends.tail ≡ last_of NONE used
    pub free_is : c.ends.free ≡ first free NONE
    pub distinct : Distinct (used ++ free)
    pub small : length c.rows ≤ NONE

  -- a write that leaves the links
  pub linked_same : (rows rows' : List (Row P)) (p : ℕ) (l : List ℕ) (n : ℕ) → length rows' ≡ length rows → ((j : ℕ) → (row_at u rows' j).prev ≡ (row_at u rows j).prev) → ((j : ℕ) → (row_at u rows' j).next ≡ (row_at u rows j).next) → Linked rows p l n → Linked rows' p l n
  linked_same rows rows' p [] n e f g h = tt
  linked_same rows rows' p (i ∷ l) n e f g h = (rw e h.0, f i ∙ h.1, g i ∙ h.2, linked_same rows rows' i l n e f g h.3)

  pub freed_same : (rows rows' : List (Row P)) (l : List ℕ) → length rows' ≡ length rows → ((j : ℕ) → (row_at u rows' j).next ≡ (row_at u rows j).next) → Freed rows l → Freed rows' l
  freed_same rows rows' [] e g h = tt
  freed_same rows rows' (i ∷ l) e g h = (rw e h.0, g i ∙ h.1, freed_same rows rows' l e g h.2)
