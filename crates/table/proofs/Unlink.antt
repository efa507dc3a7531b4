-- `unlink`: with row i out, the part before it and the part after it are joined, and are the chain.
use mathlib.Core.Path.{◌≡◌, refl, sym, ap, ◌∙◌, subst}
use Prim.Native.Nat.{ℕ, ◌≤◌, ◌<◌}
use mathlib.Core.Bool.{cond}
use mathlib.Core.List.{List, [], ◌∷◌, ◌++◌, append-nil, append_assoc}
use lib.Dec.{eqb}
use lib.ListN.{length, length-set}
use Rattle.table.specs.Rows.{NONE, Row, Chain, relinked, row_at, set_next, set_prev, unlink}
use Rattle.table.specs.Questions.{last_of}
use Rattle.table.proofs.Tests.{eqb_yes, eqb_no}
use Rattle.table.proofs.Numbers.{first, Apart, Distinct, AllApart, distinct_append, last_apart, apart_flip, last_append, distinct_drop, below_none}
use Rattle.table.proofs.Linked.{at_kept, Linked, Freed, linked_split, linked_join, frame, frame_free, none_apart, set_end, set_start, none_next, none_prev, Chained}

module _ {P : Type 0} (u : P) where
  -- two parts of the chain are joined where row i stood between them
  module _ (rows : List (Row P)) (small : length rows ≤ NONE) (i : ℕ) (pre post : List ℕ) (d : Distinct (pre ++ i ∷ post)) (h : Linked u rows NONE (pre ++ i ∷ post) NONE) where
    parts : Distinct pre × Distinct (i ∷ post) × AllApart pre (i ∷ post)
    parts = distinct_append pre (i ∷ post) d

    pieces : Linked u rows NONE pre i × Linked u rows (last_of NONE pre) (i ∷ post) NONE
    pieces = linked_split u rows NONE pre (i ∷ post) NONE h

    rows₁ : List (Row P)
    rows₁ = set_next u rows (last_of NONE pre) (first post NONE)

    rows₂ : List (Row P)
    unfolding rows₁
    rows₂ = set_prev u rows₁ (first post NONE) (last_of NONE pre)

    front₁ : Linked u rows₁ NONE pre (first post NONE)
    unfolding rows₁
    front₁ = go pre parts.0 pieces.0
      where
        go : (l : List ℕ) → Distinct l → Linked u rows NONE l i → Linked u (set_next u rows (last_of NONE l) (first post NONE)) NONE l (first post NONE)
        go [] e k = tt
        go (a ∷ l) e k = set_end u rows NONE a l i (first post NONE) e k

    back₁ : Linked u rows₁ i post NONE
    unfolding rows₁
    back₁ = frame u rows i post NONE (last_of NONE pre) (relinked (row_at u rows (last_of NONE pre)) (row_at u rows (last_of NONE pre)).prev (first post NONE)) (go pre (apart_flip pre i post parts.2).1) pieces.1.3
      where
        go : (l : List ℕ) → AllApart l post → Apart (last_of NONE l) post
        go [] a = none_apart u rows i post NONE small pieces.1.3
        go (b ∷ l) a = last_apart b l post a

    long₁ : length rows₁ ≡ length rows
    unfolding rows₁
    long₁ = simp length-set

    front₂ : Linked u rows₂ NONE pre (first post NONE)
    unfolding rows₂
    front₂ = frame u rows₁ NONE pre (first post NONE) (first post NONE) (relinked (row_at u rows₁ (first post NONE)) (last_of NONE pre) (row_at u rows₁ (first post NONE)).next) (go post parts.2) front₁
      where
        go : (l : List ℕ) → AllApart pre (i ∷ l) → Apart (first l NONE) pre
        go [] a = none_apart u rows NONE pre i small pieces.0
        go (b ∷ l) a = (apart_flip pre b l (apart_flip pre i (b ∷ l) a).1).0

    back₂ : Linked u rows₂ (last_of NONE pre) post NONE
    unfolding rows₂
    back₂ = go post parts.1.1 back₁
      where
        go : (l : List ℕ) → Distinct l → Linked u rows₁ i l NONE → Linked u (set_prev u rows₁ (first l NONE) (last_of NONE pre)) (last_of NONE pre) l NONE
        go [] e k = tt
        go (b ∷ l) e k = set_start u rows₁ i (last_of NONE pre) b l NONE e k

    joined : Linked u rows₂ NONE (pre ++ post) NONE
    joined = linked_join u rows₂ NONE pre post NONE front₂ back₂

    last_below : (l : List ℕ) (b : ℕ) → Linked u rows NONE (b ∷ l) i → last_of b l < length rows
    last_below l b k = go l b NONE k
      where
        go : (l : List ℕ) (b p : ℕ) → Linked u rows p (b ∷ l) i → last_of b l < length rows
        go [] b p k = k.0
        go (c ∷ l) b p k = go l c b k.3

    -- the new head and tail
    new_head : (x : ℕ) → x ≡ first (pre ++ i ∷ post) NONE → cond (eqb (last_of NONE pre) NONE) (first post NONE) x ≡ first (pre ++ post) NONE
    new_head x e = go pre e pieces.0
      where
        go : (l : List ℕ) → x ≡ first (l ++ i ∷ post) NONE → Linked u rows NONE l i → cond (eqb (last_of NONE l) NONE) (first post NONE) x ≡ first (l ++ post) NONE
        go [] q k = rw (eqb_yes NONE NONE refl)
        go (b ∷ l) q k = rw (eqb_no (last_of b l) NONE (below_none (last_below l b k) small)) q

    new_tail : (x : ℕ) → x ≡ last_of NONE (pre ++ i ∷ post) → cond (eqb (first post NONE) NONE) (last_of NONE pre) x ≡ last_of NONE (pre ++ post)
    new_tail x e = go post e pieces.1.3
      where
        go : (l : List ℕ) → x ≡ last_of NONE (pre ++ i ∷ l) → Linked u rows i l NONE → cond (eqb (first l NONE) NONE) (last_of NONE pre) x ≡ last_of NONE (pre ++ l)
        go [] q k = rw (eqb_yes NONE NONE refl, append-nil pre)
        go (b ∷ l) q k = rw (eqb_no b NONE (below_none k.0 small), last_append NONE pre b l) (q ∙ last_append NONE pre i (b ∷ l))

  module _ (c : Chain P) (i : ℕ) (pre post free : List ℕ) (v : Chained u c (pre ++ i ∷ post) free) where
    whole : Distinct (pre ++ i ∷ (post ++ free))
    whole = subst Distinct (append_assoc pre (i ∷ post) free) v.distinct

    used_distinct : Distinct (pre ++ i ∷ post)
    used_distinct = (distinct_append (pre ++ i ∷ post) free v.distinct).0

    here : Linked u c.rows (last_of NONE pre) (i ∷ post) NONE
    here = (pieces c.rows v.small i pre post used_distinct v.linked).1

    unlink_rows : (unlink u c i).rows ≡ rows₂ c.rows v.small i pre post used_distinct v.linked
    unfolding unlink rows₁ rows₂
    unlink_rows =
        rw (here.1, here.2)
        (rw (none_next u c.rows (last_of NONE pre) (first post NONE) v.small)
        (none_prev u (set_next u c.rows (last_of NONE pre) (first post NONE)) (first post NONE) (last_of NONE pre) (rw length-set v.small)))

    unlink_head : (unlink u c i).ends.head ≡ first (pre ++ post) NONE
    unfolding unlink
    unlink_head = rw (here.1, here.2) (new_head c.rows v.small i pre post used_distinct v.linked c.ends.head v.head_is)

    unlink_tail : (unlink u c i).ends.tail ≡ last_of NONE (pre ++ post)
    unfolding unlink
    unlink_tail = rw (here.1, here.2) (new_tail c.rows v.small i pre post used_distinct v.linked c.ends.tail v.tail_is)

    unlink_free : (unlink u c i).ends.free ≡ c.ends.free
    unfolding unlink
    unlink_free = refl

    -- the free chain stands: the rows written are used ones
    free_apart : (l : List ℕ) → AllApart l free → Apart (last_of NONE l) free
    free_apart [] a = free_none free v.freed
      where
        free_none : (m : List ℕ) → Freed u c.rows m → Apart NONE m
        free_none [] h = tt
        free_none (j ∷ m) h = ((λ e. below_none h.0 v.small (sym e)), free_none m h.2)
    free_apart (b ∷ l) a = last_apart b l free a

    first_apart : (l : List ℕ) → AllApart l free → Apart (first l NONE) free
    first_apart [] a = free_apart [] tt
    first_apart (b ∷ l) a = a.0

    all_apart : AllApart pre free × AllApart (i ∷ post) free
    all_apart = go pre (distinct_append (pre ++ i ∷ post) free v.distinct).2
      where
        go : (l : List ℕ) → AllApart (l ++ i ∷ post) free → AllApart l free × AllApart (i ∷ post) free
        go [] a = (tt, a)
        go (b ∷ l) a = let r = go l a.1 in ((a.0, r.0), r.1)

    unlink_freed : Freed u (rows₂ c.rows v.small i pre post used_distinct v.linked) free
    unfolding rows₂ rows₁
    unlink_freed =
        let r₁ : List (Row P) = set_next u c.rows (last_of NONE pre) (first post NONE) in
        frame_free u r₁ free (first post NONE) (relinked (row_at u r₁ (first post NONE)) (last_of NONE pre) (row_at u r₁ (first post NONE)).next) (first_apart post all_apart.1.1)
        (frame_free u c.rows free (last_of NONE pre) (relinked (row_at u c.rows (last_of NONE pre)) (row_at u c.rows (last_of NONE pre)).prev (first post NONE)) (free_apart pre all_apart.0) v.freed)

    rows₂_long : length (rows₂ c.rows v.small i pre post used_distinct v.linked) ≡ length c.rows
    unfolding rows₂ rows₁
    rows₂_long = simp length-set

    pub unlink_long : length (unlink u c i).rows ≡ length c.rows
    unlink_long = ap length unlink_rows ∙ rows₂_long

    pub unlinked : Chained u (unlink u c i) (pre ++ post) free
    unlinked = record {
      linked = rw unlink_rows (joined c.rows v.small i pre post used_distinct v.linked);
      freed = rw unlink_rows unlink_freed;
      head_is = unlink_head;
      tail_is = unlink_tail;
      free_is = unlink_free ∙ v.free_is;
      distinct = rw (append_assoc pre post free) (distinct_drop pre i (post ++ free) whole).0;
      small = rw unlink_long v.small;
    }

    pub unlinked_apart : Apart i ((pre ++ post) ++ free)
    unlinked_apart = rw (append_assoc pre post free) (distinct_drop pre i (post ++ free) whole).1

    pub unlinked_below : i < length (unlink u c i).rows
    unlinked_below = rw unlink_long here.0

    -- keys and parts stay
    pub unlink_keeps : {A : Type 0} (g : Row P → A) → ((r : Row P) (p n : ℕ) → g (relinked r p n) ≡ g r) → (j : ℕ) → g (row_at u (unlink u c i).rows j) ≡ g (row_at u c.rows j)
    unfolding rows₂ rows₁
    unlink_keeps g e j =
        let r₁ : List (Row P) = set_next u c.rows (last_of NONE pre) (first post NONE) in
        rw unlink_rows
        (at_kept u g r₁ (first post NONE) (relinked (row_at u r₁ (first post NONE)) (last_of NONE pre) (row_at u r₁ (first post NONE)).next) (e (row_at u r₁ (first post NONE)) (last_of NONE pre) (row_at u r₁ (first post NONE)).next) j
        ∙ at_kept u g c.rows (last_of NONE pre) (relinked (row_at u c.rows (last_of NONE pre)) (row_at u c.rows (last_of NONE pre)).prev (first post NONE)) (e (row_at u c.rows (last_of NONE pre)) (row_at u c.rows (last_of NONE pre)).prev (first post NONE)) j)
