-- THE ARGUMENT OF DEMAND 3, for any machine: a table of C machines in the order of use answers each protected key as that key's machine alone.
-- What stays true (`Inv`): the keys behind k in the order were all marked since k's latest mark. To push k out, C − 1 keys have to stand behind it and one
-- more to be marked: C others.
use Rattle.std.specs.Prelude.{Option, None, Some}
use mathlib.Core.Path.{◌≡◌, refl, ap₂, ◌∙◌, subst}
use Prim.Native.Nat.{ℕ, suc, ◌≤◌, ◌<◌}
use native.Mathlib.Omega.{arith}
use mathlib.Core.Bool.{Bool, true, false, cond, ◌&&◌}
use mathlib.Core.List.{List, [], ◌∷◌}
use lib.Dec.{ltb}
use lib.ListN.{length}
use Rattle.table.specs.Machine.{Key, same, Kind, enters, uses, looks, leaves, Outcome, refuse, accept, Machine, Call, Answer, Step, Event, history}
use Rattle.table.proofs.Tests.{by_bool, clash, and_false, or_cases, or_1, or_2, none_2, ltb_true, ltb_false}
use Rattle.table.proofs.Keys.{same_eq}
use Rattle.table.proofs.Order.{Entry, find, without, replaced, behead, room, last, held_call, entered, new_call, serve, table_step}
use Rattle.protection.specs.Marks.{calls_of, own, answers_to, accepted, member, Since, another, Fewer, Protected}
use Rattle.protection.proofs.Alone.{marks, settle, blank_call, alone, answers_alone}
use Rattle.protection.proofs.Held.{NoDup, Sub, distinct_le, member_add, keys, behind, keys_replaced, keys_length, gone, nodup_without, nodup_last, length_last, length_without, length_without_held, length_replaced, find_member, member_find, find_without, find_last, find_replaced, find_last_own, find_replaced_own, behind_none, behind_without, behind_replaced, behind_last, behind_last_own}

-- A table of C machines answers each protected key as that key's machine alone would.
abbrev pub TablePromise : {Act Out : Type 0} (kind : Act → Kind) (M : Machine Act Out) → Type 0
TablePromise {Act} kind M =
    (C : ℕ) → 1 ≤ C → (k : Key) (calls : List (Call Act)) →
    let h = history (table_step kind M C) [] calls in
    Protected (λ a. marks (kind a)) C k None h → answers_to k h ≡ answers_alone kind M k None (calls_of k calls)

module _ {S : Type 0} where
  -- every key behind k is counted; before k's first mark it isn't held
  abbrev pub Cover : Key → List (Entry S) → Since → Type 0
  Cover k t None = find k t ≡ None
  Cover k t (Some l) = Sub (behind k t) l

  -- WHAT STAYS TRUE: k's state is m, no key twice, at most C keys, and every key behind k counted in s
  pub record Inv (C : ℕ) (k : Key) (t : List (Entry S)) (s : Since) (m : Option S) : Type 0 where
    pub found : find k t ≡ m
    pub distinct : NoDup (keys t)
    pub fits : length t ≤ C
    pub cover : Cover k t s

  module _ (k j : Key) (n : same k j ≡ false) where
    cover_without : (t : List (Entry S)) (s : Since) → Cover k t s → Cover k (without j t) s
    cover_without t None c = find_without k j t n ∙ c
    cover_without t (Some l) c = λ x h. c x (behind_without k j t n x h)

    cover_replaced : (t : List (Entry S)) (y : S) (s : Since) → Cover k t s → Cover k (replaced j y t) s
    cover_replaced t y None c = find_replaced k j y t n ∙ c
    cover_replaced t y (Some l) c = λ x h. c x (rw (behind_replaced k j y t) at h)

    cover_last : (t : List (Entry S)) (y : S) (s : Since) → Cover k t s → Cover k (last t j y) (another j s)
    cover_last t y None c = find_last k t j y n ∙ c
    cover_last t y (Some l) c = λ x h. member_add x j l (or_cases (member x (behind k t)) (same x j) (behind_last k t j y n x h) (λ q. or_1 (member x l) (same x j) (c x q)) (λ q. or_2 (member x l) (same x j) q))

    -- a key not held marks its place behind k, which is not pushed out
    pub first_stays : (C : ℕ) (e : Entry S) (t : List (Entry S)) (s : Since) → NoDup (keys (e ∷ t)) → C ≤ suc (length t) → find j (e ∷ t) ≡ None → Cover k (e ∷ t) s → Fewer C (another j s) → same k e.key ≡ true → ⊥
    first_stays C e t None d big f c w p = let q : Path (Option S) (Some e.state) None = rw p at c in let z : ◌≡◌ {A = ℕ} 0 1 = cc in omega arith
    first_stays C e t (Some l) d big f c w p =
        let out : member j (keys t) ≡ false = none_2 (same j e.key) (member j (keys t)) (member_find j (e ∷ t) f) in
        let all : Sub (j ∷ keys t) (cond (member j l) l (j ∷ l)) = (λ x h. member_add x j l (or_cases (same x j) (member x (keys t)) h (λ q. or_2 (member x l) (same x j) q) (λ q. or_1 (member x l) (same x j) (c x (rw p q))))) in
        omega (arith, distinct_le (j ∷ keys t) (cond (member j l) l (j ∷ l)) (out, d.1) all, keys_length t)

    module _ (C : ℕ) (one : 1 ≤ C) (s : Since) (m : Option S) where
      -- j's place is the last
      pub inv_mark : (t : List (Entry S)) (y z : S) → find j t ≡ Some z → Inv C k t s m → Inv C k (last (without j t) j y) (another j s) m
      inv_mark t y z h v = record {
        found = find_last k (without j t) j y n ∙ find_without k j t n ∙ v.found;
        distinct = nodup_last (without j t) j y (nodup_without j t v.distinct) (gone j t v.distinct);
        fits = omega (arith, length_last (without j t) j y, length_without_held j t h, v.fits);
        cover = cover_last (without j t) y s (cover_without t s v.cover);
      }

      pub inv_look : (t : List (Entry S)) (y : S) → Inv C k t s m → Inv C k (replaced j y t) s m
      inv_look t y v = record {
        found = find_replaced k j y t n ∙ v.found;
        distinct = rw (keys_replaced j y t) v.distinct;
        fits = rw (length_replaced j y t) v.fits;
        cover = cover_replaced t y s v.cover;
      }

      pub inv_leave : (t : List (Entry S)) → Inv C k t s m → Inv C k (without j t) s m
      inv_leave t v = record {
        found = find_without k j t n ∙ v.found;
        distinct = nodup_without j t v.distinct;
        fits = omega (arith, length_without j t, v.fits);
        cover = cover_without t s v.cover;
      }

      pub inv_new : (t : List (Entry S)) (y : S) → length t < C → find j t ≡ None → Inv C k t s m → Inv C k (last t j y) (another j s) m
      inv_new t y small h v = record {
        found = find_last k t j y n ∙ v.found;
        distinct = nodup_last t j y v.distinct (member_find j t h);
        fits = omega (arith, length_last t j y);
        cover = cover_last t y s v.cover;
      }

      -- the first goes, and it is not k
      pub inv_push : (t : List (Entry S)) (y : S) → C ≤ length t → find j t ≡ None → Inv C k t s m → Fewer C (another j s) → Inv C k (last (behead t) j y) (another j s) m
      inv_push [] y big h v w = absurd (omega arith)
      inv_push (e ∷ t) y big h v w =
          by_bool (same k e.key)
          (λ p. absurd (first_stays C e t s v.distinct big h v.cover w p))
          (λ p. inv_new t y (omega (arith, v.fits)) (find_member j t (none_2 (same j e.key) (member j (keys t)) (member_find j (e ∷ t) h))) (record {
            found = rw p at v.found;
            distinct = v.distinct.1;
            fits = omega (arith, v.fits);
            cover = less p s v.cover;
          }))
        where
          less : same k e.key ≡ false → (r : Since) → Cover k (e ∷ t) r → Cover k t r
          less p None c = rw p at c
          less p (Some l) c = rw p at c

      pub inv_enter : (t : List (Entry S)) (y : S) → find j t ≡ None → Inv C k t s m → Fewer C (another j s) → Inv C k (last (room C t) j y) (another j s) m
      inv_enter t y h v w =
          by_bool (ltb (length t) C)
          (λ p. rw p (inv_new t y (ltb_true (length t) C p) h v))
          (λ p. rw p (inv_push t y (ltb_false (length t) C p) h v w))

module _ {Act Out : Type 0} (kind : Act → Kind) (M : Machine Act Out) (C : ℕ) (one : 1 ≤ C) where
  -- ANOTHER KEY'S CALL
  module _ (k j : Key) (n : same k j ≡ false) (s : Since) (m : Option M.State) (t : List (Entry M.State)) (v : Inv C k t s m) where
    pub other_held : (κ : Kind) (r : Outcome M.State Out) {x : M.State} → find j t ≡ Some x →
        Inv C k (held_call kind M C t j κ r).next (cond (marks κ && accepted (held_call kind M C t j κ r).answer) (another j s) s) m
    other_held κ (refuse z) h = rw (and_false (marks κ)) v
    other_held enters (accept y o) {x} h = inv_mark k j n C one s m t y x h v
    other_held uses (accept y o) {x} h = inv_mark k j n C one s m t y x h v
    other_held looks (accept y o) h = inv_look k j n C one s m t y v
    other_held leaves (accept y o) h = inv_leave k j n C one s m t v

    other_entered : (r : Outcome M.State Out) → find j t ≡ None →
        Fewer C (cond (accepted (entered kind M C t j r).answer) (another j s) s) →
        Inv C k (entered kind M C t j r).next (cond (accepted (entered kind M C t j r).answer) (another j s) s) m
    other_entered (refuse z) h w = v
    other_entered (accept y o) h w = inv_enter k j n C one s m t y h v w

    other_new : (κ : Kind) (r : Outcome M.State Out) → find j t ≡ None →
        Fewer C (cond (marks κ && accepted (new_call kind M C t j κ r).answer) (another j s) s) →
        Inv C k (new_call kind M C t j κ r).next (cond (marks κ && accepted (new_call kind M C t j κ r).answer) (another j s) s) m
    other_new enters r h w = other_entered r h w
    other_new uses r h w = v
    other_new looks r h w = v
    other_new leaves r h w = v

    pub other_call : (a : Act) (f : Option M.State) → find j t ≡ f →
        Fewer C (cond (marks (kind a) && accepted (serve kind M C t j a f).answer) (another j s) s) →
        Inv C k (serve kind M C t j a f).next (cond (marks (kind a) && accepted (serve kind M C t j a f).answer) (another j s) s) m
    other_call a None h w = other_new (kind a) (M.act j M.fresh a) h w
    other_call a (Some x) h w = other_held (kind a) (M.act j x a) h

  -- THE RECEIVER'S OWN CALL
  module _ (k : Key) (s : Since) (t : List (Entry M.State)) where
    own_last : (u : List (Entry M.State)) (y : M.State) → member k (keys u) ≡ false → NoDup (keys u) → length u < C → Inv C k (last u k y) (Some []) (Some y)
    own_last u y g d h = record {
      found = find_last_own k u y g;
      distinct = nodup_last u k y d g;
      fits = omega (arith, length_last u k y);
      cover = λ x q. rw (behind_last_own k u y g) at q;
    }

    own_mark : (x y : M.State) → Inv C k t s (Some x) → Inv C k (last (without k t) k y) (Some []) (Some y)
    own_mark x y v = own_last (without k t) y (gone k t v.distinct) (nodup_without k t v.distinct) (omega (arith, length_without_held k t v.found, v.fits))

    own_look : (x y : M.State) → Inv C k t s (Some x) → Inv C k (replaced k y t) s (Some y)
    own_look x y v = record {
      found = find_replaced_own k y t v.found;
      distinct = rw (keys_replaced k y t) v.distinct;
      fits = rw (length_replaced k y t) v.fits;
      cover = go s v.cover;
    }
      where
        go : (r : Since) → Cover k t r → Cover k (replaced k y t) r
        go None c = let f : find k t ≡ Some x = v.found in cc
        go (Some l) c = λ z h. c z (rw (behind_replaced k k y t) at h)

    own_leave : (x : M.State) → Inv C k t s (Some x) → Inv C k (without k t) s None
    own_leave x v = record {
      found = find_member k (without k t) (gone k t v.distinct);
      distinct = nodup_without k t v.distinct;
      fits = omega (arith, length_without k t, v.fits);
      cover = go s;
    }
      where
        go : (r : Since) → Cover k (without k t) r
        go None = find_member k (without k t) (gone k t v.distinct)
        go (Some l) = λ z h. clash (rw (behind_none k (without k t) (gone k t v.distinct)) at h) refl

    own_held : (κ : Kind) (r : Outcome M.State Out) (x : M.State) → Inv C k t s (Some x) →
        (own (held_call kind M C t k κ r).answer ≡ (settle kind M κ (Some x) r).answer) ×
        Inv C k (held_call kind M C t k κ r).next (cond (marks κ && accepted (held_call kind M C t k κ r).answer) (Some []) s) (settle kind M κ (Some x) r).next
    own_held κ (refuse z) x v = (refl, rw (and_false (marks κ)) v)
    own_held enters (accept y o) x v = (refl, own_mark x y v)
    own_held uses (accept y o) x v = (refl, own_mark x y v)
    own_held looks (accept y o) x v = (refl, own_look x y v)
    own_held leaves (accept y o) x v = (refl, own_leave x v)

    own_room : (y : M.State) → Inv C k t s None → Inv C k (last (room C t) k y) (Some []) (Some y)
    own_room y v =
        by_bool (ltb (length t) C)
        (λ p. rw p (own_last t y (member_find k t v.found) v.distinct (ltb_true (length t) C p)))
        (λ p. rw p (full t v.found v.distinct v.fits))
      where
        full : (u : List (Entry M.State)) → find k u ≡ None → NoDup (keys u) → length u ≤ C → Inv C k (last (behead u) k y) (Some []) (Some y)
        full [] f d h = own_last [] y refl tt (omega arith)
        full (e ∷ u) f d h = own_last u y (none_2 (same k e.key) (member k (keys u)) (member_find k (e ∷ u) f)) d.1 (omega arith)

    own_new : (κ : Kind) (r : Outcome M.State Out) → Inv C k t s None →
        (own (new_call kind M C t k κ r).answer ≡ (blank_call kind M κ r).answer) ×
        Inv C k (new_call kind M C t k κ r).next (cond (marks κ && accepted (new_call kind M C t k κ r).answer) (Some []) s) (blank_call kind M κ r).next
    own_new enters (refuse z) v = (refl, v)
    own_new enters (accept y o) v = (refl, own_room y v)
    own_new uses r v = (refl, v)
    own_new looks r v = (refl, v)
    own_new leaves r v = (refl, v)

    pub own_call : (a : Act) (m : Option M.State) → Inv C k t s m →
        (own (serve kind M C t k a m).answer ≡ (alone kind M k m a).answer) ×
        Inv C k (serve kind M C t k a m).next (cond (marks (kind a) && accepted (serve kind M C t k a m).answer) (Some []) s) (alone kind M k m a).next
    own_call a None v = own_new (kind a) (M.act k M.fresh a) v
    own_call a (Some x) v = own_held (kind a) (M.act k x a) x v

  protected_now : (k : Key) (s : Since) (l : List (Event Act Out)) → Protected (λ a. marks (kind a)) C k s l → Fewer C s
  protected_now k s [] p = p
  protected_now k s (e ∷ l) p = p.0

  -- THE SIMULATION, over the list of calls
  answers : (k : Key) (cs : List (Call Act)) (t : List (Entry M.State)) (s : Since) (m : Option M.State) → Inv C k t s m →
      Protected (λ a. marks (kind a)) C k s (history (table_step kind M C) t cs) →
      answers_to k (history (table_step kind M C) t cs) ≡ answers_alone kind M k m (calls_of k cs)
  answers k [] t s m v p = refl
  answers k (c ∷ cs) t s m v p =
      by_bool (same k c.key)
      (λ n. rw n (mine n (answers k cs)))
      (λ n. rw n (theirs n (answers k cs)))
    where
      st : Step (List (Entry M.State)) Out
      st = table_step kind M C t c

      b : Bool
      b = marks (kind c.act) && accepted st.answer

      Rest : Type 0
      Rest = (u : List (Entry M.State)) (r : Since) (f : Option M.State) → Inv C k u r f → Protected (λ a. marks (kind a)) C k r (history (table_step kind M C) u cs) →
          answers_to k (history (table_step kind M C) u cs) ≡ answers_alone kind M k f (calls_of k cs)

      theirs : same k c.key ≡ false → Rest → answers_to k (history (table_step kind M C) st.next cs) ≡ answers_alone kind M k m (calls_of k cs)
      theirs n go =
          let q : Protected (λ a. marks (kind a)) C k (cond b (another c.key s) s) (history (table_step kind M C) st.next cs) = rw n at p.1 in
          go st.next (cond b (another c.key s) s) m (other_call k c.key n s m t v c.act (find c.key t) refl (protected_now k (cond b (another c.key s) s) (history (table_step kind M C) st.next cs) q)) q

      mine : same k c.key ≡ true → Rest → Path (List (Answer Out)) (own st.answer ∷ answers_to k (history (table_step kind M C) st.next cs)) (answers_alone kind M k m (c.act ∷ calls_of k cs))
      mine n go =
          let q : Protected (λ a. marks (kind a)) C k (cond b (Some []) s) (history (table_step kind M C) st.next cs) = rw n at p.1 in
          let e : serve kind M C t k c.act m ≡ st = rw (← same_eq k c.key n, ← v.found) in
          let o = subst (λ (x : Step (List (Entry M.State)) Out). (own x.answer ≡ (alone kind M k m c.act).answer) × Inv C k x.next (cond (marks (kind c.act) && accepted x.answer) (Some []) s) (alone kind M k m c.act).next) e (own_call k s t c.act m v) in
          ap₂ {C = List (Answer Out)} (λ x l. x ∷ l) o.0 (go st.next (cond b (Some []) s) (alone kind M k m c.act).next o.1 q)

pub table_promise : {Act Out : Type 0} (kind : Act → Kind) (M : Machine Act Out) → TablePromise kind M
table_promise kind M C one k calls p =
    answers kind M C one k calls [] None None (record { found = refl; distinct = tt; fits = omega arith; cover = refl }) p
