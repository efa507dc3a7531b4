-- A watch of rows and links stands for the list of its used rows, oldest first (`Rep`), and each step of a call does to that list what Order says:
-- a row's content put in place, a row touched, freed, taken, room made.
use mathlib.Core.Path.{◌≡◌, refl, sym, ap, ap₂, ◌∙◌, subst}
use mathlib.Core.Logic.{◌≢◌}
use Prim.Native.Nat.{ℕ, suc, ◌+◌, ◌*◌, ◌≤◌, ◌<◌}
use native.Mathlib.Omega.{arith}
use native.Mathlib.Nat.{mul-le-mul_left}
use mathlib.Core.Bool.{true, false}
use mathlib.Core.List.{List, [], ◌∷◌, ◌++◌}
use lib.Dec.{eqb, ltb}
use lib.ListN.{length, length-set, length-append}
use lib.Seq.{length-sets}
use Rattle.table.specs.Machine.{Key, same}
use Rattle.table.specs.Rows.{NONE, Row, Ends, Watch, Form, chain_of, with_chain, row_at, unlink, link_last, take_free}
use Rattle.table.specs.Questions.{most, question1, question2}
use Rattle.table.specs.Watch.{Body, put_body, touch, free_row, make_room, pushed_out, take_row}
use Rattle.table.proofs.Tests.{by_bool, eqb_yes, eqb_no, eqb_true, eqb_false, ltb_yes, ltb_no, leb_yes}
use Rattle.table.proofs.Keys.{same_eq}
use Rattle.table.proofs.Numbers.{Apart, distinct_append, apart_append, distinct_drop, below_none}
use Rattle.table.proofs.Linked.{at_same, at_other, at_kept, linked_split, Chained, linked_same, freed_same}
use Rattle.table.proofs.Unlink.{unlinked, unlinked_apart, unlinked_below, unlink_long, unlink_keeps}
use Rattle.table.proofs.Steps.{linked_last, link_long, link_keeps, released, release_long, release_keeps, release_part, taken}
use Rattle.table.proofs.Question2.{most_none, every_row_lem, two_question}
use Rattle.table.proofs.Order.{Entry, without, replaced, room, pushed, last}
use Rattle.table.proofs.Entries.{entry_at, entries, entries_append, entries_length, entries_same}
use Rattle.table.proofs.Cells.{cells_same, cells_other}

-- What a form owes: an unmade row passes question 2, and a row's empty cells are as many as a row has.
pub record FormLaws {P : Type 0} (F : Form P) : Type 0 where
  pub unmade_sound : F.sound F.unmade ≡ true
  pub blank_wide : length F.blank ≡ F.width

-- what stays true of a row's part and cells
pub record Fine {P : Type 0} (F : Form P) (s : Body P) : Type 0 where
  pub sound_part : F.sound s.part ≡ true
  pub wide : length s.cells ≡ F.width

-- WHAT STAYS TRUE of a watch w of C rows, its list t, and the row numbers of its two chains
pub record Rep {P : Type 0} (F : Form P) (C : ℕ) (w : Watch P) (t : List (Entry (Body P))) (used free : List ℕ) : Type 0 where
  pub chained : Chained F.unmade (chain_of w) used free
  pub count : length used + length free ≡ C
  pub rows_long : length w.rows ≡ C
  pub cells_long : length w.cells ≡ F.width * C
  pub sound_at : (j : ℕ) → F.sound (row_at F.unmade w.rows j).part ≡ true
  pub table : entries F w used ≡ t

-- the watch stands for the list
abbrev pub RepAny : {P : Type 0} → Form P → ℕ → Watch P → List (Entry (Body P)) → Type 0
RepAny F C w t = (used : List ℕ) × (free : List ℕ) × Rep F C w t used free

pub entry_eq : {P : Type 0} {k k' : Key} {p p' : P} {c c' : List ℕ} → k ≡ k' → p ≡ p' → c ≡ c' →
    ◌≡◌ {A = Entry (Body P)} (record { key = k; state = record { part = p; cells = c } }) (record { key = k'; state = record { part = p'; cells = c' } })
entry_eq e f g i = record { key = e i; state = record { part = f i; cells = g i } }

module _ {P : Type 0} (F : Form P) where
  entries_all : (w x : Watch P) (l : List ℕ) → ((j : ℕ) → entry_at F w j ≡ entry_at F x j) → entries F w l ≡ entries F x l
  entries_all w x [] h = refl
  entries_all w x (j ∷ l) h = ap₂ {C = List (Entry (Body P))} (λ e r. e ∷ r) (h j) (entries_all w x l h)

pub record Room {P : Type 0} (F : Form P) (C : ℕ) (w : Watch P) (t : List (Entry (Body P))) : Type 0 where
  pub used : List ℕ
  pub row : ℕ
  pub free : List ℕ
  pub rep : Rep F C (make_room F w) (room C t) used (row ∷ free)
  pub pushes : pushed_out F w ≡ pushed C t

module _ {P : Type 0} (F : Form P) (law : FormLaws F) (C : ℕ) (one : 1 ≤ C) (most? : C ≤ most) where
  -- PUT: row i's key, part and cells
  module _ (w : Watch P) (i : ℕ) (k : Key) (s : Body P) (below : i < C) (long : length w.rows ≡ C) (cells : length w.cells ≡ F.width * C) (fine : Fine F s) where
    new_row : Row P
    new_row = record { key = k; part = s.part; prev = (row_at F.unmade w.rows i).prev; next = (row_at F.unmade w.rows i).next }

    put_at : row_at F.unmade (put_body F w i k s).rows i ≡ new_row
    unfolding put_body new_row
    put_at = at_same F.unmade w.rows i new_row (rw long below)

    put_else : (j : ℕ) → j ≢ i → row_at F.unmade (put_body F w i k s).rows j ≡ row_at F.unmade w.rows j
    unfolding put_body new_row
    put_else j n = at_other F.unmade w.rows i j new_row n

    pub put_rows : length (put_body F w i k s).rows ≡ length w.rows
    unfolding put_body new_row
    put_rows = length-set w.rows i new_row

    pub put_cells : length (put_body F w i k s).cells ≡ F.width * C
    unfolding put_body
    put_cells = length-sets w.cells (F.width * i) s.cells ∙ cells

    put_prev : (j : ℕ) → (row_at F.unmade (put_body F w i k s).rows j).prev ≡ (row_at F.unmade w.rows j).prev
    unfolding put_body new_row
    put_prev j = at_kept F.unmade (λ (r : Row P). r.prev) w.rows i new_row refl j

    put_next : (j : ℕ) → (row_at F.unmade (put_body F w i k s).rows j).next ≡ (row_at F.unmade w.rows j).next
    unfolding put_body new_row
    put_next j = at_kept F.unmade (λ (r : Row P). r.next) w.rows i new_row refl j

    put_ends : (put_body F w i k s).ends ≡ w.ends
    unfolding put_body
    put_ends = refl

    pub put_chained : (used free : List ℕ) → Chained F.unmade (chain_of w) used free → Chained F.unmade (chain_of (put_body F w i k s)) used free
    put_chained used free v = record {
      linked = linked_same F.unmade w.rows (put_body F w i k s).rows NONE used NONE put_rows put_prev put_next v.linked;
      freed = freed_same F.unmade w.rows (put_body F w i k s).rows free put_rows put_next v.freed;
      head_is = ap (λ (e : Ends). e.head) put_ends ∙ v.head_is;
      tail_is = ap (λ (e : Ends). e.tail) put_ends ∙ v.tail_is;
      free_is = ap (λ (e : Ends). e.free) put_ends ∙ v.free_is;
      distinct = v.distinct;
      small = rw put_rows v.small;
    }

    pub put_sound : ((j : ℕ) → F.sound (row_at F.unmade w.rows j).part ≡ true) → (j : ℕ) → F.sound (row_at F.unmade (put_body F w i k s).rows j).part ≡ true
    unfolding new_row
    put_sound h j =
        by_bool (eqb j i)
        (λ p. rw (eqb_true j i p, put_at) fine.sound_part)
        (λ p. rw (put_else j (eqb_false j i p)) (h j))

    pub put_entry : entry_at F (put_body F w i k s) i ≡ record { key = k; state = s }
    unfolding new_row put_body
    put_entry = entry_eq (ap (λ (r : Row P). r.key) put_at) (ap (λ (r : Row P). r.part) put_at) (cells_same F.width i w.cells s.cells fine.wide (omega (arith, mul-le-mul_left F.width below)))

    pub put_other : (j : ℕ) → j ≢ i → entry_at F (put_body F w i k s) j ≡ entry_at F w j
    unfolding put_body
    put_other j n = entry_eq (ap (λ (r : Row P). r.key) (put_else j n)) (ap (λ (r : Row P). r.part) (put_else j n)) (cells_other F.width i j w.cells s.cells fine.wide n)

  small : (w : Watch P) → length w.rows ≡ C → length w.rows ≤ NONE
  small w e = omega (arith, most_none)

  -- the row found lies below C
  pub row_below : (w : Watch P) (t : List (Entry (Body P))) (pre : List ℕ) (i : ℕ) (post free : List ℕ) → Rep F C w t (pre ++ i ∷ post) free → i < C
  row_below w t pre i post free v = rw v.rows_long at (linked_split F.unmade w.rows NONE pre (i ∷ post) NONE v.chained.linked).1.0

  -- i stands once in the used chain
  pub row_apart : (w : Watch P) (t : List (Entry (Body P))) (pre : List ℕ) (i : ℕ) (post free : List ℕ) → Rep F C w t (pre ++ i ∷ post) free → Apart i (pre ++ post)
  row_apart w t pre i post free v = (distinct_drop pre i post (distinct_append (pre ++ i ∷ post) free v.chained.distinct).0).1

  entries_put : (w x : Watch P) (pre : List ℕ) (i : ℕ) (post : List ℕ) → Apart i (pre ++ post) → ((j : ℕ) → j ≢ i → entry_at F x j ≡ entry_at F w j) → entries F x (pre ++ i ∷ post) ≡ entries F w pre ++ (entry_at F x i ∷ entries F w post)
  entries_put w x pre i post a h =
      let b = apart_append i pre post a in
      entries_append F x pre (i ∷ post) ∙ ap₂ {C = List (Entry (Body P))} (λ l m. l ++ (entry_at F x i ∷ m)) (entries_same F x w i pre b.0 h) (entries_same F x w i post b.1 h)

  -- PUT in place
  pub put_rep : (w : Watch P) (t : List (Entry (Body P))) (pre : List ℕ) (i : ℕ) (post free : List ℕ) (k : Key) (s : Body P) → Fine F s → Rep F C w t (pre ++ i ∷ post) free →
      Rep F C (put_body F w i k s) (entries F w pre ++ (record { key = k; state = s } ∷ entries F w post)) (pre ++ i ∷ post) free
  put_rep w t pre i post free k s fine v =
      let b = row_below w t pre i post free v in
      record {
        chained = put_chained w i k s b v.rows_long v.cells_long fine (pre ++ i ∷ post) free v.chained;
        count = v.count;
        rows_long = put_rows w i k s b v.rows_long v.cells_long fine ∙ v.rows_long;
        cells_long = put_cells w i k s b v.rows_long v.cells_long fine;
        sound_at = put_sound w i k s b v.rows_long v.cells_long fine v.sound_at;
        table = entries_put w (put_body F w i k s) pre i post (row_apart w t pre i post free v) (put_other w i k s b v.rows_long v.cells_long fine) ∙ ap (λ (e : Entry (Body P)). entries F w pre ++ (e ∷ entries F w post)) (put_entry w i k s b v.rows_long v.cells_long fine);
      }

  pub length_middle : (l : List ℕ) (i : ℕ) (m : List ℕ) → length (l ++ i ∷ m) ≡ suc (length (l ++ m))
  length_middle l i m = omega (arith, length-append l (i ∷ m), length-append l m)

  -- TOUCH: row i becomes the last
  pub touch_rep : (w : Watch P) (t : List (Entry (Body P))) (pre : List ℕ) (i : ℕ) (post free : List ℕ) → Rep F C w t (pre ++ i ∷ post) free →
      Rep F C (touch F w i) (entries F w (pre ++ post) ++ (entry_at F w i ∷ [])) ((pre ++ post) ++ i ∷ []) free
  touch_rep w t pre i post free v =
      let c = chain_of w in
      let d = unlink F.unmade c i in
      let x : Chained F.unmade d (pre ++ post) free = unlinked F.unmade c i pre post free v.chained in
      let b : i < length d.rows = unlinked_below F.unmade c i pre post free v.chained in
      let a : Apart i ((pre ++ post) ++ free) = unlinked_apart F.unmade c i pre post free v.chained in
      let long : length (link_last F.unmade d i).rows ≡ C = link_long F.unmade d i (pre ++ post) free x b a ∙ unlink_long F.unmade c i pre post free v.chained ∙ v.rows_long in
      let key : (j : ℕ) → (row_at F.unmade (link_last F.unmade d i).rows j).key ≡ (row_at F.unmade w.rows j).key = (λ j. link_keeps F.unmade d i (pre ++ post) free x b a (λ (r : Row P). r.key) (λ r p n. refl) j ∙ unlink_keeps F.unmade c i pre post free v.chained (λ (r : Row P). r.key) (λ r p n. refl) j) in
      let part : (j : ℕ) → (row_at F.unmade (link_last F.unmade d i).rows j).part ≡ (row_at F.unmade w.rows j).part = (λ j. link_keeps F.unmade d i (pre ++ post) free x b a (λ (r : Row P). r.part) (λ r p n. refl) j ∙ unlink_keeps F.unmade c i pre post free v.chained (λ (r : Row P). r.part) (λ r p n. refl) j) in
      record {
        chained = linked_last F.unmade d i (pre ++ post) free x b a;
        count = omega (arith, v.count, length_middle pre i post, length-append (pre ++ post) (i ∷ []));
        rows_long = long;
        cells_long = v.cells_long;
        sound_at = λ j. rw (part j) (v.sound_at j);
        table = entries_all F (touch F w i) w ((pre ++ post) ++ i ∷ []) (λ j. entry_eq (key j) (part j) refl) ∙ entries_append F w (pre ++ post) (i ∷ []);
      }

  -- FREE: row i leaves
  pub free_rep : (w : Watch P) (t : List (Entry (Body P))) (pre : List ℕ) (i : ℕ) (post free : List ℕ) → Rep F C w t (pre ++ i ∷ post) free →
      Rep F C (free_row F w i) (entries F w (pre ++ post)) (pre ++ post) (i ∷ free)
  unfolding free_row
  free_rep w t pre i post free v =
      let c = chain_of w in
      record {
        chained = released F.unmade c i pre post free v.chained;
        count = omega (arith, v.count, length_middle pre i post);
        rows_long = release_long F.unmade c i pre post free v.chained ∙ v.rows_long;
        cells_long = length-sets w.cells (F.width * i) F.blank ∙ v.cells_long;
        sound_at = λ j. by_bool (eqb j i)
            (λ p. rw (eqb_true j i p, release_part F.unmade c i pre post free v.chained) law.unmade_sound)
            (λ p. rw (release_keeps F.unmade c i pre post free v.chained (λ (r : Row P). r.part) (λ r x n. refl) j (eqb_false j i p)) (v.sound_at j));
        table = entries_same F (free_row F w i) w i (pre ++ post) (row_apart w t pre i post free v) (λ j n. entry_eq
            (release_keeps F.unmade c i pre post free v.chained (λ (r : Row P). r.key) (λ r x m. refl) j n)
            (release_keeps F.unmade c i pre post free v.chained (λ (r : Row P). r.part) (λ r x m. refl) j n)
            (cells_other F.width i j w.cells F.blank law.blank_wide n));
      }

  -- TAKE: the first free row for a new key
  abbrev take_at : Watch P → ℕ → Key → Body P → Watch P
  take_at w i k s =
      let y = put_body F (with_chain w (take_free F.unmade (chain_of w))) i k s in
      with_chain y (link_last F.unmade (chain_of y) i)

  take_rows : (w : Watch P) → (take_free F.unmade (chain_of w)).rows ≡ w.rows
  unfolding take_free
  take_rows w = refl

  take_at_rep : (w : Watch P) (t : List (Entry (Body P))) (used : List ℕ) (i : ℕ) (free : List ℕ) (k : Key) (s : Body P) → Fine F s → Rep F C w t used (i ∷ free) →
      Rep F C (take_at w i k s) (t ++ (record { key = k; state = s } ∷ [])) (used ++ i ∷ []) free
  take_at_rep w t used i free k s fine v =
      let z = with_chain w (take_free F.unmade (chain_of w)) in
      let f = taken F.unmade (chain_of w) i used free v.chained in
      let same_rows : z.rows ≡ w.rows = take_rows w in
      let below : i < C = rw v.rows_long at f.1 in
      let long : length z.rows ≡ C = ap length same_rows ∙ v.rows_long in
      let y = put_body F z i k s in
      let x : Chained F.unmade (chain_of y) used free = put_chained z i k s below long v.cells_long fine used free f.0 in
      let ylong : length y.rows ≡ C = put_rows z i k s below long v.cells_long fine ∙ long in
      let b : i < length y.rows = rw ylong below in
      let key : (j : ℕ) → (row_at F.unmade (link_last F.unmade (chain_of y) i).rows j).key ≡ (row_at F.unmade y.rows j).key = (λ j. link_keeps F.unmade (chain_of y) i used free x b f.2 (λ (r : Row P). r.key) (λ r p n. refl) j) in
      let part : (j : ℕ) → (row_at F.unmade (link_last F.unmade (chain_of y) i).rows j).part ≡ (row_at F.unmade y.rows j).part = (λ j. link_keeps F.unmade (chain_of y) i used free x b f.2 (λ (r : Row P). r.part) (λ r p n. refl) j) in
      let old : (j : ℕ) → entry_at F z j ≡ entry_at F w j = (λ j. entry_eq (ap (λ (l : List (Row P)). (row_at F.unmade l j).key) same_rows) (ap (λ (l : List (Row P)). (row_at F.unmade l j).part) same_rows) refl) in
      record {
        chained = linked_last F.unmade (chain_of y) i used free x b f.2;
        count = omega (arith, v.count, length-append used (i ∷ []));
        rows_long = link_long F.unmade (chain_of y) i used free x b f.2 ∙ ylong;
        cells_long = put_cells z i k s below long v.cells_long fine;
        sound_at = λ j. rw (part j) (put_sound z i k s below long v.cells_long fine (λ m. rw same_rows (v.sound_at m)) j);
        table =
            entries_all F (take_at w i k s) y (used ++ i ∷ []) (λ j. entry_eq (key j) (part j) refl)
            ∙ entries_append F y used (i ∷ [])
            ∙ ap₂ {C = List (Entry (Body P))} (λ l e. l ++ (e ∷ []))
            (entries_same F y w i used (apart_append i used free f.2).0 (λ j n. put_other z i k s below long v.cells_long fine j n ∙ old j) ∙ v.table)
            (put_entry z i k s below long v.cells_long fine);
      }

  pub take_rep : (w : Watch P) (t : List (Entry (Body P))) (used : List ℕ) (i : ℕ) (free : List ℕ) (k : Key) (s : Body P) → Fine F s → Rep F C w t used (i ∷ free) →
      Rep F C (take_row F w k s) (t ++ (record { key = k; state = s } ∷ [])) (used ++ i ∷ []) free
  unfolding take_row
  take_rep w t used i free k s fine v =
      subst (λ (q : ℕ). Rep F C (take_at w q k s) (t ++ (record { key = k; state = s } ∷ [])) (used ++ i ∷ []) free) (sym v.chained.free_is) (take_at_rep w t used i free k s fine v)

  -- ROOM for one more
  pub table_length : (w : Watch P) (t : List (Entry (Body P))) (used free : List ℕ) → Rep F C w t used free → length t ≡ length used
  table_length w t used free v = sym (ap length v.table) ∙ entries_length F w used

  pub roomy : (w : Watch P) (t : List (Entry (Body P))) (used free : List ℕ) → Rep F C w t used free → Room F C w t
  roomy w t used (i ∷ free) v =
      let n : eqb w.ends.free NONE ≡ false = rw v.chained.free_is (eqb_no i NONE (below_none v.chained.freed.0 v.chained.small)) in
      let l : ltb (length t) C ≡ true = ltb_yes (length t) C (omega (arith, table_length w t used (i ∷ free) v, v.count)) in
      record { used = used; row = i; free = free; rep = rw (n, l) v; pushes = rw (n, l) }
  roomy w t [] [] v = absurd (omega (arith, v.count))
  roomy w t (h ∷ used) [] v =
      let n : eqb w.ends.free NONE ≡ true = rw v.chained.free_is (eqb_yes NONE NONE refl) in
      let l : ltb (suc (length (entries F w used))) C ≡ false = ltb_no (suc (length (entries F w used))) C (omega (arith, v.count, entries_length F w used)) in
      let full : Room F C w (entry_at F w h ∷ entries F w used) =
      record {
        used = used;
        row = h;
        free = [];
        rep = rw (n, l) (subst (λ (q : ℕ). Rep F C (free_row F w q) (entries F w used) used (h ∷ [])) (sym v.chained.head_is) (free_rep w t [] h used [] v));
        pushes = rw (n, l, v.chained.head_is);
      } in
      subst (λ (x : List (Entry (Body P))). Room F C w x) v.table full

  -- QUESTIONS 1 AND 2 are answered yes
  pub question_one_yes : (w : Watch P) (t : List (Entry (Body P))) (used free : List ℕ) → Rep F C w t used free → question1 F w ≡ true
  unfolding question1
  question_one_yes w t used free v = rw (v.rows_long, v.cells_long, leb_yes 1 C one, leb_yes C most most?, eqb_yes (F.width * C) (F.width * C) refl)

  pub question_two_yes : (w : Watch P) (t : List (Entry (Body P))) (used free : List ℕ) → Rep F C w t used free → question2 F w ≡ true
  question_two_yes w t used free v =
      let n : length used + length free ≡ length w.rows = v.count ∙ sym v.rows_long in
      two_question F w v.chained.small (record {
        used = used;
        free = free;
        chained = v.chained;
        count = n;
        every_row = λ j h a. every_row_lem F.unmade w.rows used free v.chained n j h a;
        sound_at = λ j h. v.sound_at j;
      })

  pub rep_cast : (w : Watch P) (t t' : List (Entry (Body P))) (used free : List ℕ) → t ≡ t' → Rep F C w t used free → RepAny F C w t'
  rep_cast w t t' used free e v = (used, free, subst (λ (x : List (Entry (Body P))). Rep F C w x used free) e v)

  module _ (w : Watch P) (t : List (Entry (Body P))) (pre : List ℕ) (i : ℕ) (post free : List ℕ) (v : Rep F C w t (pre ++ i ∷ post) free)
      (k : Key) (key_is : same k (row_at F.unmade w.rows i).key ≡ true) (rest : without k t ≡ entries F w (pre ++ post))
      (puts : (s : Body P) → replaced k s t ≡ entries F w pre ++ (record { key = (row_at F.unmade w.rows i).key; state = s } ∷ entries F w post)) where
    pub marked_row : (s : Body P) → Fine F s → RepAny F C (touch F (put_body F w i k s) i) (last (without k t) k s)
    marked_row s fine =
        let b = row_below w t pre i post free v in
        let x = put_body F w i k s in
        rep_cast (touch F x i) (entries F x (pre ++ post) ++ (entry_at F x i ∷ [])) (last (without k t) k s) ((pre ++ post) ++ i ∷ []) free
        (ap₂ {C = List (Entry (Body P))} (λ l e. l ++ (e ∷ []))
        (entries_same F x w i (pre ++ post) (row_apart w t pre i post free v) (put_other w i k s b v.rows_long v.cells_long fine) ∙ sym rest)
        (put_entry w i k s b v.rows_long v.cells_long fine))
        (touch_rep x (entries F w pre ++ (record { key = k; state = s } ∷ entries F w post)) pre i post free (put_rep w t pre i post free k s fine v))

    pub looked_row : (s : Body P) → Fine F s → RepAny F C (put_body F w i k s) (replaced k s t)
    looked_row s fine =
        rep_cast (put_body F w i k s) (entries F w pre ++ (record { key = k; state = s } ∷ entries F w post)) (replaced k s t) (pre ++ i ∷ post) free
        (sym (puts s ∙ ap (λ (q : Key). entries F w pre ++ (record { key = q; state = s } ∷ entries F w post)) (sym (same_eq k (row_at F.unmade w.rows i).key key_is))))
        (put_rep w t pre i post free k s fine v)

    pub left_row : RepAny F C (free_row F w i) (without k t)
    left_row = rep_cast (free_row F w i) (entries F w (pre ++ post)) (without k t) (pre ++ post) (i ∷ free) (sym rest) (free_rep w t pre i post free v)
