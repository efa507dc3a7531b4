-- `link_last`, `release`, `take_free`: what each does to the two chains.
use mathlib.Core.Path.{◌≡◌, refl, sym, ap, ◌∙◌}
use mathlib.Core.Logic.{◌≢◌}
use Prim.Native.Nat.{ℕ, ◌<◌}
use mathlib.Core.Bool.{cond}
use mathlib.Core.List.{List, [], ◌∷◌, ◌++◌, append_assoc}
use lib.Dec.{eqb}
use lib.ListN.{length, set, length-set}
use Rattle.table.specs.Rows.{NONE, Row, Chain, unmade_row, relinked, row_at, set_next, set_links, unlink, link_last, release, take_free}
use Rattle.table.specs.Questions.{last_of}
use Rattle.table.proofs.Tests.{eqb_yes, eqb_no}
use Rattle.table.proofs.Numbers.{first, Apart, Distinct, AllApart, apart_append, distinct_append, append_distinct, apart_last, last_apart, flip_apart, last_append, distinct_drop, below_none}
use Rattle.table.proofs.Linked.{at_same, at_other, at_kept, Linked, Freed, linked_join, frame, frame_free, set_end, none_next, Chained}
use Rattle.table.proofs.Unlink.{unlinked, unlinked_apart, unlinked_below, unlink_long, unlink_keeps}

module _ {P : Type 0} (u : P) where
  -- LINK_LAST
  module _ (c : Chain P) (i : ℕ) (used free : List ℕ) (v : Chained u c used free) (below : i < length c.rows) (away : Apart i (used ++ free)) where
    -- row i as it is written, and the rows after both writes
    linked_row : Row P
    linked_row = relinked (row_at u c.rows i) (last_of NONE used) NONE

    rows₃ : List (Row P)
    unfolding linked_row
    rows₃ = set_links u c.rows i (last_of NONE used) NONE

    rows₄ : List (Row P)
    rows₄ = set_next u rows₃ (last_of NONE used) i

    long₃ : length rows₃ ≡ length c.rows
    unfolding rows₃
    long₃ = simp length-set

    long₄ : length rows₄ ≡ length c.rows
    unfolding rows₄
    long₄ = simp length-set long₃

    aways : Apart i used × Apart i free
    aways = apart_append i used free away

    front₃ : Linked u rows₃ NONE used NONE
    unfolding rows₃ linked_row
    front₃ = frame u c.rows NONE used NONE i linked_row aways.0 v.linked

    front₄ : Linked u rows₄ NONE used i
    unfolding rows₄
    front₄ = go used (distinct_append used free v.distinct).0 front₃
      where
        go : (l : List ℕ) → Distinct l → Linked u rows₃ NONE l NONE → Linked u (set_next u rows₃ (last_of NONE l) i) NONE l i
        go [] e k = tt
        go (a ∷ l) e k = set_end u rows₃ NONE a l NONE i e k

    -- the old last row is not i
    last_not : last_of NONE used ≢ i
    last_not = go used aways.0
      where
        go : (l : List ℕ) → Apart i l → last_of NONE l ≢ i
        go [] a = λ e. below_none below v.small (sym e)
        go (b ∷ l) a = λ e. apart_last i b l a (sym e)

    row₄ : row_at u rows₄ i ≡ linked_row
    unfolding rows₄ rows₃ linked_row
    row₄ =
        at_other u rows₃ (last_of NONE used) i (relinked (row_at u rows₃ (last_of NONE used)) (row_at u rows₃ (last_of NONE used)).prev i) (λ e. last_not (sym e))
        ∙ at_same u c.rows i linked_row below

    linked₄ : Linked u rows₄ NONE (used ++ i ∷ []) NONE
    unfolding linked_row
    linked₄ = linked_join u rows₄ NONE used (i ∷ []) NONE front₄ (rw long₄ below, rw row₄, rw row₄, tt)

    link_rows : (link_last u c i).rows ≡ rows₄
    unfolding link_last rows₄ rows₃ linked_row
    link_rows = rw v.tail_is (none_next u (set_links u c.rows i (last_of NONE used) NONE) (last_of NONE used) i (rw length-set v.small))

    last_below_used : (l : List ℕ) (b p n : ℕ) → Linked u c.rows p (b ∷ l) n → last_of b l < length c.rows
    last_below_used [] b p n k = k.0
    last_below_used (x ∷ l) b p n k = last_below_used l x b n k.3

    link_head : (link_last u c i).ends.head ≡ first (used ++ i ∷ []) NONE
    unfolding link_last
    link_head = rw (v.tail_is, v.head_is) (go used v.linked)
      where
        go : (l : List ℕ) → Linked u c.rows NONE l NONE → cond (eqb (last_of NONE l) NONE) i (first l NONE) ≡ first (l ++ i ∷ []) NONE
        go [] k = rw (eqb_yes NONE NONE refl)
        go (b ∷ l) k = rw (eqb_no (last_of b l) NONE (below_none (last_below_used l b NONE NONE k) v.small))

    free_away : Apart (last_of NONE used) free
    free_away = go used (distinct_append used free v.distinct).2
      where
        free_none : (m : List ℕ) → Freed u c.rows m → Apart NONE m
        free_none [] h = tt
        free_none (j ∷ m) h = ((λ e. below_none h.0 v.small (sym e)), free_none m h.2)

        go : (l : List ℕ) → AllApart l free → Apart (last_of NONE l) free
        go [] a = free_none free v.freed
        go (b ∷ l) a = last_apart b l free a

    link_freed : Freed u rows₄ free
    unfolding rows₄ rows₃ linked_row
    link_freed =
        frame_free u rows₃ free (last_of NONE used) (relinked (row_at u rows₃ (last_of NONE used)) (row_at u rows₃ (last_of NONE used)).prev i) free_away
        (frame_free u c.rows free i linked_row aways.1 v.freed)

    link_distinct : Distinct ((used ++ i ∷ []) ++ free)
    link_distinct =
        let d = distinct_append used free v.distinct in
        rw (append_assoc used (i ∷ []) free) (append_distinct used (i ∷ free) d.0 (aways.1, d.1) (flip_apart used i free aways.0 d.2))

    pub link_long : length (link_last u c i).rows ≡ length c.rows
    link_long = ap length link_rows ∙ long₄

    pub linked_last : Chained u (link_last u c i) (used ++ i ∷ []) free
    unfolding link_last
    linked_last = record {
      linked = rw link_rows linked₄;
      freed = rw link_rows link_freed;
      head_is = link_head;
      tail_is = sym (last_append NONE used i []);
      free_is = v.free_is;
      distinct = link_distinct;
      small = rw link_long v.small;
    }

    pub link_keeps : {A : Type 0} (g : Row P → A) → ((r : Row P) (p n : ℕ) → g (relinked r p n) ≡ g r) → (j : ℕ) → g (row_at u (link_last u c i).rows j) ≡ g (row_at u c.rows j)
    unfolding rows₄ rows₃ linked_row
    link_keeps g e j =
        rw link_rows
        (at_kept u g rows₃ (last_of NONE used) (relinked (row_at u rows₃ (last_of NONE used)) (row_at u rows₃ (last_of NONE used)).prev i) (e (row_at u rows₃ (last_of NONE used)) (row_at u rows₃ (last_of NONE used)).prev i) j
        ∙ at_kept u g c.rows i linked_row (e (row_at u c.rows i) (last_of NONE used) NONE) j)

  -- RELEASE
  module _ (c : Chain P) (i : ℕ) (pre post free : List ℕ) (v : Chained u c (pre ++ i ∷ post) free) where
    pub released : Chained u (release u c i) (pre ++ post) (i ∷ free)
    unfolding release
    released =
        let d = unlink u c i in
        let w = unlinked u c i pre post free v in
        let a = apart_append i (pre ++ post) free (unlinked_apart u c i pre post free v) in
        let s = distinct_append (pre ++ post) free w.distinct in
        let r : Row P = unmade_row u d.ends.free in
        let e : row_at u (set d.rows i r) i ≡ r = at_same u d.rows i r (unlinked_below u c i pre post free v) in
        record {
          linked = frame u d.rows NONE (pre ++ post) NONE i r a.0 w.linked;
          freed = (rw length-set (unlinked_below u c i pre post free v), rw e w.free_is, frame_free u d.rows free i r a.1 w.freed);
          head_is = w.head_is;
          tail_is = w.tail_is;
          free_is = refl;
          distinct = append_distinct (pre ++ post) (i ∷ free) s.0 (a.1, s.1) (flip_apart (pre ++ post) i free a.0 s.2);
          small = rw length-set w.small;
        }

    pub release_long : length (release u c i).rows ≡ length c.rows
    unfolding release
    release_long = length-set (unlink u c i).rows i (unmade_row u (unlink u c i).ends.free) ∙ unlink_long u c i pre post free v

    pub release_keeps : {A : Type 0} (g : Row P → A) → ((r : Row P) (p n : ℕ) → g (relinked r p n) ≡ g r) → (j : ℕ) → j ≢ i → g (row_at u (release u c i).rows j) ≡ g (row_at u c.rows j)
    unfolding release
    release_keeps g e j n = ap g (at_other u (unlink u c i).rows i j (unmade_row u (unlink u c i).ends.free) n) ∙ unlink_keeps u c i pre post free v g e j

    pub release_part : (row_at u (release u c i).rows i).part ≡ u
    unfolding release
    release_part = ap (λ (r : Row P). r.part) (at_same u (unlink u c i).rows i (unmade_row u (unlink u c i).ends.free) (unlinked_below u c i pre post free v))

  -- TAKE_FREE
  pub taken : (c : Chain P) (i : ℕ) (used free : List ℕ) → Chained u c used (i ∷ free) → Chained u (take_free u c) used free × (i < length c.rows) × Apart i (used ++ free)
  unfolding take_free
  taken c i used free v =
      let d = distinct_drop used i free v.distinct in (
        record {
          linked = v.linked;
          freed = v.freed.2;
          head_is = v.head_is;
          tail_is = v.tail_is;
          free_is = rw v.free_is v.freed.1;
          distinct = d.0;
          small = v.small;
        },
        v.freed.0,
        d.1,
      )
