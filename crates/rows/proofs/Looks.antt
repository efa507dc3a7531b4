-- Two scans answer questions 1, 2 and 3: what the scan of a chain comes to is the definitions' walk, search and test of every row. Facts on lists alone.
--     walked           a scan comes to what the walk along the chain finds          found       one that came through has the first row with the key
--     sound_all, unseen    it stays sound where all rows are, and a row that fails is none that a sound scan saw
--     looks            what is made of both scans is `looked_in`
use Rattle.std.specs.Prelude.{Option, None, Some, Result, Err}
use mathlib.Core.Path.{◌≡◌, refl, sym, ◌∙◌, ap, ap₂, subst}
use Prim.Native.Nat.{ℕ, zero, suc, ◌<◌, ◌≤◌, ◌-◌, ◌+◌, ◌*◌}
use native.Mathlib.Omega.{arith}
use mathlib.Core.Bool.{Bool, true, false, cond, not, ◌&&◌, ◌||◌}
use mathlib.Core.List.{List, [], ◌∷◌, map}
use lib.Dec.{eqb, ltb, leb}
use lib.ListN.{length, get_or}
use borrow.Author.Tests.{ltb-true, lt-ltb, leb-true}
use Rattle.table.specs.Machine.{same}
use Rattle.table.specs.Rows as W
use Rattle.table.specs.Rows.{NONE, Watch, Form, row_at}
use Rattle.table.specs.Questions.{most, question1, question2, find_row, all_sound}
use Rattle.table.specs.Walk.{Walked, broken, ended, walk_used, walk_free, chains_fit, well_formed}
use Rattle.table.proofs.Tests.{by_bool, clash, and_1, and_2, eqb_no}
use Rattle.table.proofs.Numbers.{first, Apart, append_apart, below_none}
use Rattle.table.proofs.Linked.{Freed}
use Rattle.table.proofs.Chains.{linked_freed}
use Rattle.table.proofs.Question2.{Question2, question_two, most_none, sound_rows, rows_sound}
use Rattle.table.proofs.Walk.{walk_is_question}
use Rattle.receiver.specs.declared.Part.{Part}
use Rattle.heard.specs.Heard.{width}
use Rattle.receiver.specs.Calls.{unmade_part}
use Rattle.rows.specs.declared.Row.{Row}
use Rattle.rows.specs.Read.{form, fits, row_is, watch_of, Looked}
use Rattle.rows.specs.Links.{blank}
use Rattle.rows.specs.Search.{scan_for, scanned, sizes_of}
use Rattle.rows.proofs.Chains.{rows_long_lem, row_is_lem}
use Rattle.scans.specs.declared.Ends.{Ends}
use Rattle.scans.specs.declared.Key.{Key}
use Rattle.scans.specs.declared.Cursor.{Cursor}
use Rattle.scans.specs.Scan.{start_of, back_fits, first_found, came_through, chains_of, row_or_no, look_of}
use Rattle.table.specs.declared.Refusal.{Refusal}
use Rattle.table.specs.declared.Refusal.TheVariants as R

abbrev state : ℕ → ℕ → ℕ → Bool → Bool → Bool → Option ℕ → List ℕ → Cursor
state at p l b f s v k = record { at = at; prev = p; left = l; back = b; fits = f; sound = s; found = v; key = k }

abbrev ended_by : ℕ → Cursor → Walked
ended_by n s = cond (came_through s) (ended (n - s.left) s.prev) broken

-- the first that is found
abbrev or_found : Option ℕ → Option ℕ → Option ℕ
or_found (Some i) o = Some i
or_found None o = o

or_none : (v : Option ℕ) → v ≡ or_found v None
or_none (Some i) = refl
or_none None = refl

or_first : (v o : Option ℕ) (at : ℕ) (t : Bool) → or_found (first_found v at t) o ≡ or_found v (cond t (Some at) o)
or_first (Some i) o at t = refl
or_first None o at true = refl
or_first None o at false = refl

nz : (j : ℕ) → eqb (suc j) 0 ≡ false
nz j = eqb_no (suc j) 0 (λ e. omega (arith, e))

one_less : (j : ℕ) → suc j - 1 ≡ j
one_less j = omega arith

module _ (xs : List Row) (small : length xs ≤ NONE) where
  abbrev rows : List (W.Row Part)
  rows = map row_is xs

  abbrev row : ℕ → Row
  row i = get_or xs i blank

  abbrev next : ℕ → ℕ → ℕ → Bool → Bool → Option ℕ → List ℕ → Cursor
  next at p j b s v k = state (row at).next at j b (back_fits b (row at).prev p) (s && fits (row at).part) (first_found v at (same k (row at).key)) k

  goes : (j at p : ℕ) (b s : Bool) (v : Option ℕ) (k : List ℕ) → ltb at (length xs) ≡ true → scan_for (suc j) xs (state at p (suc j) b true s v k) ≡ scan_for j xs (next at p j b s v k)
  unfolding scan_for
  goes j at p b s v k t = rw (nz j, t, one_less j)

  stays : (j at p : ℕ) (b s : Bool) (v : Option ℕ) (k : List ℕ) → ltb at (length xs) ≡ false → scan_for (suc j) xs (state at p (suc j) b true s v k) ≡ state at p (suc j) b true s v k
  unfolding scan_for
  stays j at p b s v k t = rw (nz j, t)

  lost : (j at p l : ℕ) (b s : Bool) (v : Option ℕ) (k : List ℕ) → scan_for j xs (state at p l b false s v k) ≡ state at p l b false s v k
  unfolding scan_for
  lost zero at p l b s v k = refl
  lost (suc j) at p l b s v k = refl

  is_row : (at : ℕ) → ltb at (length xs) ≡ true → eqb at NONE ≡ false
  is_row at t = eqb_no at NONE (below_none (ltb-true at (length xs) t) small)

  within : (at : ℕ) (t : Bool) → ltb at (length xs) ≡ t → ltb at (length rows) ≡ t
  within at t e = ap (λ (n : ℕ). ltb at n) (rows_long_lem xs) ∙ e

  -- THE WALK
  abbrev walk_any : Bool → ℕ → ℕ → ℕ → ℕ → Walked
  walk_any b zero n p at = cond (eqb at NONE) (ended n p) broken
  walk_any b (suc f) n p at = cond (eqb at NONE) (ended n p) (cond (ltb at (length rows) && back_fits b (row_at unmade_part rows at).prev p) (walk_any b f (suc n) at (row_at unmade_part rows at).next) broken)

  any_used : (f n p at : ℕ) → walk_any true f n p at ≡ walk_used unmade_part rows f n p at
  any_used zero n p at = refl
  any_used (suc f) n p at = ap (λ (x : Walked). cond (eqb at NONE) (ended n p) (cond (ltb at (length rows) && eqb (row_at unmade_part rows at).prev p) x broken)) (any_used f (suc n) at (row_at unmade_part rows at).next)

  any_free : (f n p at : ℕ) → walk_any false f n p at ≡ walk_free unmade_part rows f n p at
  any_free zero n p at = refl
  any_free (suc f) n p at =
      by_bool (ltb at (length rows)) (λ t. rw t (ap (λ (x : Walked). cond (eqb at NONE) (ended n p) x) (any_free f (suc n) at (row_at unmade_part rows at).next))) (λ t. rw t)

  walked : (n k at p : ℕ) (b s : Bool) (v : Option ℕ) (key : List ℕ) → k ≤ n → ended_by n (scan_for k xs (state at p k b true s v key)) ≡ walk_any b k (n - k) p at
  unfolding scan_for
  walked n zero at p b s v key h = refl
  walked n (suc j) at p b s v key h =
      by_bool (ltb at (length xs))
      (λ t. ap (ended_by n) (goes j at p b s v key t) ∙ by_bool (back_fits b (row at).prev p)
      (λ q. (rw q (walked n j (row at).next at b (s && fits (row at).part) (first_found v at (same key (row at).key)) key (omega arith)))
      ∙ ap (λ (m : ℕ). walk_any b j m at (row at).next) more ∙ sym (rw (is_row at t, within at true t, row_is_lem xs at, q)))
      (λ q. rw (q, lost j (row at).next at j b (s && fits (row at).part) (first_found v at (same key (row at).key)) key, is_row at t, within at true t, row_is_lem xs at, q)))
      (λ t. ap (ended_by n) (stays j at p b s v key t) ∙ sym (rw (within at false t)))
    where
      more : n - j ≡ suc (n - suc j)
      more = omega arith

  -- THE SEARCH
  found : (k at p : ℕ) (b s : Bool) (v : Option ℕ) (key : List ℕ) → came_through (scan_for k xs (state at p k b true s v key)) ≡ true
      → (scan_for k xs (state at p k b true s v key)).found ≡ or_found v (find_row unmade_part rows k key at)
  unfolding scan_for
  found zero at p b s v key c = or_none v
  found (suc j) at p b s v key c =
      by_bool (ltb at (length xs))
      (λ t. ap (λ (x : Cursor). x.found) (goes j at p b s v key t) ∙ by_bool (back_fits b (row at).prev p)
      (λ q. rw q (found j (row at).next at b (s && fits (row at).part) (first_found v at (same key (row at).key)) key (rw q at (subst (λ (x : Cursor). came_through x ≡ true) (goes j at p b s v key t) c)))
      ∙ or_first v (find_row unmade_part rows j key (row at).next) at (same key (row at).key)
      ∙ sym (rw (is_row at t, row_is_lem xs at)))
      (λ q. clash (subst (λ (x : Cursor). came_through x ≡ true) (lost j (row at).next at j b (s && fits (row at).part) (first_found v at (same key (row at).key)) key) (rw q at (subst (λ (x : Cursor). came_through x ≡ true) (goes j at p b s v key t) c))) refl))
      (λ t. ap (λ (x : Cursor). x.found) (stays j at p b s v key t)
      ∙ rw (subst (λ (x : Cursor). came_through x ≡ true) (stays j at p b s v key t) c) (or_none v))

  -- THE TEST OF EVERY ROW
  -- where all rows pass, so does what a scan sees
  sound_all : ((j : ℕ) → j < length rows → fits (row_at unmade_part rows j).part ≡ true) → (k at p : ℕ) (b : Bool) (v : Option ℕ) (key : List ℕ) → (scan_for k xs (state at p k b true true v key)).sound ≡ true
  unfolding scan_for
  sound_all a zero at p b v key = refl
  sound_all a (suc j) at p b v key =
      by_bool (ltb at (length xs))
      (λ t. ap (λ (x : Cursor). x.sound) (goes j at p b true v key t) ∙ by_bool (back_fits b (row at).prev p)
      (λ q. rw (q, here t) (sound_all a j (row at).next at b (first_found v at (same key (row at).key)) key))
      (λ q. rw (q, lost j (row at).next at j b (fits (row at).part) (first_found v at (same key (row at).key)) key) (here t)))
      (λ t. ap (λ (x : Cursor). x.sound) (stays j at p b true v key t))
    where
      here : ltb at (length xs) ≡ true → fits (row at).part ≡ true
      here t = ap (λ (r : W.Row Part). fits r.part) (sym (row_is_lem xs at)) ∙ a at (ltb-true at (length rows) (within at true t))

  -- what a scan has seen to fail stays seen
  sound_once : (k at p : ℕ) (b s : Bool) (v : Option ℕ) (key : List ℕ) → (scan_for k xs (state at p k b true s v key)).sound ≡ true → s ≡ true
  unfolding scan_for
  sound_once zero at p b s v key h = h
  sound_once (suc j) at p b s v key h =
      by_bool (ltb at (length xs))
      (λ t. by_bool (back_fits b (row at).prev p)
      (λ q. and_1 s (fits (row at).part) (sound_once j (row at).next at b (s && fits (row at).part) (first_found v at (same key (row at).key)) key (rw q at (subst (λ (x : Cursor). x.sound ≡ true) (goes j at p b s v key t) h))))
      (λ q. and_1 s (fits (row at).part) (subst (λ (x : Cursor). x.sound ≡ true) (lost j (row at).next at j b (s && fits (row at).part) (first_found v at (same key (row at).key)) key) (rw q at (subst (λ (x : Cursor). x.sound ≡ true) (goes j at p b s v key t) h)))))
      (λ t. subst (λ (x : Cursor). x.sound ≡ true) (stays j at p b s v key t) h)

  -- a row that fails is none of those that a scan saw pass
  unseen : (i : ℕ) → fits (row_at unmade_part rows i).part ≡ false → (l : List ℕ) (k at p : ℕ) (b s : Bool) (v : Option ℕ) (key : List ℕ) → Freed unmade_part rows l → at ≡ first l NONE
      → came_through (scan_for k xs (state at p k b true s v key)) ≡ true → (scan_for k xs (state at p k b true s v key)).sound ≡ true → Apart i l
  unfolding scan_for
  unseen i bad [] k at p b s v key f e c h = tt
  unseen i bad (j ∷ l) zero at p b s v key f e c h = clash c (eqb_no at NONE (λ x. below_none (subst (λ (n : ℕ). j < n) (rows_long_lem xs) f.0) small (sym e ∙ x)))
  unseen i bad (j ∷ l) (suc m) at p b s v key f e c h =
      let t : ltb at (length xs) ≡ true = lt-ltb at (length xs) (subst (λ (x : ℕ). x < length xs) (sym e) (subst (λ (n : ℕ). j < n) (rows_long_lem xs) f.0)) in
      let c' = subst (λ (x : Cursor). came_through x ≡ true) (goes m at p b s v key t) c in
      let h' = subst (λ (x : Cursor). x.sound ≡ true) (goes m at p b s v key t) h in
      by_bool (back_fits b (row at).prev p)
      (λ q. (
        (λ y. clash (ap (λ (r : W.Row Part). fits r.part) (row_is_lem xs at) ∙ and_2 s (fits (row at).part) (sound_once m (row at).next at b (s && fits (row at).part) (first_found v at (same key (row at).key)) key (rw q at h')))
            (ap (λ (x : ℕ). fits (row_at unmade_part rows x).part) (e ∙ sym y) ∙ bad)),
        unseen i bad l m (row at).next at b (s && fits (row at).part) (first_found v at (same key (row at).key)) key f.2 (ap (λ (r : W.Row Part). r.next) (sym (row_is_lem xs at)) ∙ ap (λ (x : ℕ). (row_at unmade_part rows x).next) e ∙ f.1) (rw q at c') (rw q at h'),
      ))
      (λ q. clash (subst (λ (x : Cursor). came_through x ≡ true) (lost m (row at).next at m b (s && fits (row at).part) (first_found v at (same key (row at).key)) key) (rw q at c')) refl)

-- QUESTION 2 FROM BOTH SCANS
glue : (t x y : Bool) → (t ≡ true → x ≡ y) → (t && x) ≡ (t && y)
glue true x y h = h refl
glue false x y h = refl

regroup : (f g s : Bool) → (f && (g && s)) ≡ ((f && g) && s)
regroup true g s = refl
regroup false g s = refl

counts_of_lem : (n tail na pa nb pb : ℕ) (f g : Bool) → chains_fit n tail (cond f (ended na pa) broken) (cond g (ended nb pb) broken) ≡ ((f && g) && (eqb (na + nb) n && (eqb pa tail && (eqb na 0 || (eqb nb 0 || not (eqb pa pb))))))
counts_of_lem n tail na pa nb pb true true = refl
counts_of_lem n tail na pa nb pb true false = refl
counts_of_lem n tail na pa nb pb false g = refl

all_pass : (rows : List (W.Row Part)) → all_sound (λ (p : Part). true) rows ≡ true
all_pass [] = refl
all_pass (r ∷ rows) = all_pass rows

-- nothing asked of the parts
abbrev chains_only : Form Part
chains_only = record { unmade = unmade_part; sound = λ (p : Part). true; width = width; blank = form.blank }

module _ (xs : List Row) (small : length xs ≤ NONE) (ys : List ℕ) (e : Ends) (key : List ℕ) (one : question1 form (watch_of xs ys e) ≡ true) where
  abbrev w : Watch Part
  w = watch_of xs ys e

  abbrev scan_of : ℕ → Bool → Cursor
  scan_of at b = scan_for (length xs) xs (state at NONE (length xs) b true true None key)

  abbrev used : Cursor
  used = scan_of e.head true

  abbrev free : Cursor
  free = scan_of e.free false

  abbrev chained : ℕ → Cursor → Cursor → Bool
  chained n a b = (came_through a && came_through b) && (eqb (n - a.left + (n - b.left)) n && (eqb a.prev e.tail && (eqb (n - a.left) 0 || (eqb (n - b.left) 0 || not (eqb a.prev b.prev)))))

  any_walk : (at : ℕ) (b : Bool) → ended_by (length xs) (scan_of at b) ≡ walk_any xs small b (length (map row_is xs)) 0 NONE at
  any_walk at b = let z : length xs - length xs ≡ 0 = omega arith in walked xs small (length xs) (length xs) at NONE b true None key (omega arith) ∙ ap₂ {C = Walked} (λ k n. walk_any xs small b k n NONE at) (sym (rows_long_lem xs)) z

  chains : chains_fit (length (map row_is xs)) e.tail (walk_used unmade_part (map row_is xs) (length (map row_is xs)) 0 NONE e.head) (walk_free unmade_part (map row_is xs) (length (map row_is xs)) 0 NONE e.free) ≡ chained (length xs) used free
  chains =
      ap₂ {C = Bool} (λ x y. chains_fit (length (map row_is xs)) e.tail x y) (sym (any_walk e.head true ∙ any_used xs small (length (map row_is xs)) 0 NONE e.head)) (sym (any_walk e.free false ∙ any_free xs small (length (map row_is xs)) 0 NONE e.free))
      ∙ ap (λ (n : ℕ). chains_fit n e.tail (ended_by (length xs) used) (ended_by (length xs) free)) (rows_long_lem xs)
      ∙ counts_of_lem (length xs) e.tail (length xs - used.left) used.prev (length xs - free.left) free.prev (came_through used) (came_through free)

  one_chains : question1 chains_only w ≡ true
  unfolding question1
  one_chains = one

  -- chains that fit have every row in them, so a part that fails was seen by one of the scans
  sounds : chained (length xs) used free ≡ true → all_sound fits (map row_is xs) ≡ (used.sound && free.sound)
  unfolding well_formed
  sounds c =
      let small' : length (map row_is xs) ≤ NONE = omega (arith, rows_long_lem xs) in
      let fit : well_formed chains_only w ≡ true = rw (chains, c) (all_pass (map row_is xs)) in
      let q : Question2 chains_only w = question_two chains_only w small' (sym (walk_is_question chains_only w one_chains) ∙ fit) in
      let came = and_1 (came_through used && came_through free) _ c in
      let f₁ = linked_freed unmade_part (map row_is xs) small' NONE q.used q.chained.linked in
      by_bool (all_sound fits (map row_is xs))
      (λ s. let a = sound_rows unmade_part fits (map row_is xs) s in
      rw (s, sound_all xs small a (length xs) e.head NONE true None key, sound_all xs small a (length xs) e.free NONE false None key))
      (λ s. by_bool (used.sound && free.sound)
      (λ h. clash (rows_sound unmade_part fits (map row_is xs) (λ j n. by_bool (fits (row_at unmade_part (map row_is xs) j).part) (λ y. y)
      (λ bad. absurd (q.every_row j n (append_apart j q.used q.free
      (unseen xs small j bad q.used (length xs) e.head NONE true true None key f₁ q.chained.head_is (and_1 (came_through used) (came_through free) came) (and_1 used.sound free.sound h))
      (unseen xs small j bad q.free (length xs) e.free NONE false true None key q.chained.freed q.chained.free_is (and_2 (came_through used) (came_through free) came) (and_2 used.sound free.sound h))))))) s)
      (λ h. s ∙ sym h))

  -- question 2 is what both scans come to
  forms : question2 form w ≡ chains_of (length xs) e.tail used free
  unfolding well_formed
  forms =
      sym (walk_is_question form w one)
      ∙ ap (λ (t : Bool). t && all_sound fits (map row_is xs)) chains ∙ glue (chained (length xs) used free) (all_sound fits (map row_is xs)) _ sounds
      ∙ sym (regroup (came_through used && came_through free) _ _)

  finds : chains_of (length xs) e.tail used free ≡ true → row_or_no used.found ≡ row_or_no (find_row unmade_part (map row_is xs) (length (map row_is xs)) key e.head)
  finds c =
      let came = and_1 (came_through used) (came_through free) (and_1 (came_through used && came_through free) _ c) in
      ap row_or_no (found xs small (length xs) e.head NONE true true None key came ∙ ap (λ (n : ℕ). find_row unmade_part (map row_is xs) n key e.head) (sym (rows_long_lem xs)))

glue_look : (t : Bool) (x y z : Result ℕ Refusal) → (t ≡ true → x ≡ y) → cond t x z ≡ cond t y z
glue_look true x y z h = h refl
glue_look false x y z h = refl

pub looks : (xs : List Row) (m : ℕ) (e : Ends) (k : Key) (t : Bool) (a b : Cursor) (r : Result ℕ Refusal) → t ≡ sizes_of (length xs) m → t ≡ true
    → a ≡ scanned xs (start_of (length xs) e.head true k) → b ≡ scanned xs (start_of (length xs) e.free false k) → r ≡ look_of (length xs) e.tail a b → Looked xs m e k r
unfolding question1 scanned
looks xs m e k t a b r es y ea eb er ys l =
    let s : sizes_of (length xs) m ≡ true = sym es ∙ y in
    let n : length xs ≤ most = leb-true (length xs) most (and_1 (leb (length xs) most) (eqb m (width * length xs)) (and_2 (leb 1 (length xs)) (leb (length xs) most && eqb m (width * length xs)) s)) in
    let small : length xs ≤ NONE = omega (arith, n, most_none) in
    let one : question1 form (watch_of xs ys e) ≡ true = rw (rows_long_lem xs, l) s in
    er ∙ ap₂ {C = Result ℕ Refusal} (λ x y. look_of (length xs) e.tail x y) ea eb
    ∙ glue_look (chains_of (length xs) e.tail (used xs small ys e k.bytes one) (free xs small ys e k.bytes one)) _ _ (Err R.NotInOrder) (finds xs small ys e k.bytes one)
    ∙ sym (rw (one, forms xs small ys e k.bytes one))

pub looks_not : (xs : List Row) (m : ℕ) (e : Ends) (k : Key) (t : Bool) (r : Result ℕ Refusal) → t ≡ sizes_of (length xs) m → t ≡ false → r ≡ Err R.Sizes → Looked xs m e k r
unfolding question1
looks_not xs m e k t r es z er ys l = er ∙ sym (rw (rows_long_lem xs, l, sym es, z))
