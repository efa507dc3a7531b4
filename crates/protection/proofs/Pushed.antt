-- No row is pushed out while fewer than C others were marked since its key's latest mark (`stays`), for any machine. What stays true is Lru's `Inv` again, here along every list:
-- a key that is pushed out has no key behind it any more.
use Rattle.std.specs.Prelude.{Option, None, Some}
use mathlib.Core.Path.{◌≡◌, refl, sym, ap, ◌∙◌, subst}
use Prim.Native.Nat.{ℕ, ◌≤◌}
use native.Mathlib.Omega.{arith}
use mathlib.Core.Bool.{Bool, true, false, cond, ◌&&◌}
use mathlib.Core.List.{List, [], ◌∷◌}
use lib.Dec.{ltb}
use lib.ListN.{length}
use Rattle.table.specs.Machine.{Key, same, Kind, enters, uses, looks, leaves, Outcome, refuse, accept, Machine, Call, Step, history}
use Rattle.table.proofs.Tests.{by_bool, clash, ltb_true, ltb_false}
use Rattle.table.proofs.Keys.{same_refl, same_eq}
use Rattle.table.proofs.Order.{Entry, find, oldest, behead, last, held_call, new_call, serve, table_step}
use Rattle.protection.specs.Marks.{pushed_key, accepted, member, Since, another, Fewer, Stays}
use Rattle.protection.proofs.Alone.{marks}
use Rattle.protection.proofs.Held.{keys, behind_none, find_member}
use Rattle.protection.proofs.Lru.{Cover, Inv, first_stays, inv_new, other_held, own_call}

no_key_lem : {k : Key} {P : Type 0} → ◌≡◌ {A = Option Key} None (Some k) → P
no_key_lem e = let z : ◌≡◌ {A = ℕ} 0 1 = cc in absurd (omega arith)

module _ {S : Type 0} (C : ℕ) (one : 1 ≤ C) (k : Key) where
  -- k's state is whatever the list has
  abbrev Has : List (Entry S) → Since → Type 0
  Has t s = Inv C k t s (find k t)

  has : (t : List (Entry S)) (s : Since) (m : Option S) → Inv C k t s m → Has t s
  has t s m v = record { found = refl; distinct = v.distinct; fits = v.fits; cover = v.cover }

  -- without k nothing is behind it
  cover_gone : (t : List (Entry S)) (s : Since) → member k (keys t) ≡ false → Cover k t s
  cover_gone t None g = find_member k t g
  cover_gone t (Some l) g = λ x h. clash (rw (behind_none k t g) at h) refl

  -- the first goes, k or another
  has_push : (j : Key) → same k j ≡ false → (t : List (Entry S)) (s : Since) (y : S) → C ≤ length t → find j t ≡ None → Has t s → Has (last (behead t) j y) (another j s)
  has_push j n [] s y big h v = absurd (omega arith)
  has_push j n (e ∷ t) s y big h v =
      let gone : find j t ≡ None = by_bool (same j e.key) (λ p. let q : Path (Option S) (Some e.state) None = rw p at h in let z : ◌≡◌ {A = ℕ} 0 1 = cc in absurd (omega arith)) (λ p. rw p at h) in
      has (last t j y) (another j s) (find k t)
      (inv_new k j n C one s (find k t) t y (omega (arith, v.fits)) gone (record { found = refl; distinct = v.distinct.1; fits = omega (arith, v.fits); cover = less s v.cover }))
    where
      less : (r : Since) → Cover k (e ∷ t) r → Cover k t r
      less r c =
          by_bool (same k e.key)
          (λ p. cover_gone t r (rw (same_eq k e.key p) v.distinct.0))
          (λ p. go p r c)
        where
          go : same k e.key ≡ false → (q : Since) → Cover k (e ∷ t) q → Cover k t q
          go p None d = rw p at d
          go p (Some l) d = rw p at d

module _ {Act Out : Type 0} (kind : Act → Kind) (M : Machine Act Out) (C : ℕ) (one : 1 ≤ C) (k : Key) where
  abbrev Table : Type 0
  Table = List (Entry M.State)

  -- ANOTHER KEY'S CALL: what stays true, and whom it pushes out
  module _ (j : Key) (n : same k j ≡ false) (t : Table) (s : Since) (v : Has C one k t s) where
    new_has : (κ : Kind) (r : Outcome M.State Out) → find j t ≡ None →
        Has C one k (new_call kind M C t j κ r).next (cond (marks κ && accepted (new_call kind M C t j κ r).answer) (another j s) s)
    new_has enters (refuse z) h = v
    new_has enters (accept y o) h =
        by_bool (ltb (length t) C)
        (λ p. rw p (has C one k (last t j y) (another j s) (find k t) (inv_new k j n C one s (find k t) t y (ltb_true (length t) C p) h v)))
        (λ p. rw p (has_push C one k j n t s y (ltb_false (length t) C p) h v))
    new_has uses r h = v
    new_has looks r h = v
    new_has leaves r h = v

    other_has : (a : Act) (f : Option M.State) → find j t ≡ f →
        Has C one k (serve kind M C t j a f).next (cond (marks (kind a) && accepted (serve kind M C t j a f).answer) (another j s) s)
    other_has a None h = new_has (kind a) (M.act j M.fresh a) h
    other_has a (Some x) h = has C one k _ _ (find k t) (other_held kind M C one k j n s (find k t) t v (kind a) (M.act j x a) h)

    room_stays : (u : Table) → u ≡ t → find j u ≡ None → C ≤ length u → Fewer C (another j s) → oldest u ≡ Some k → ⊥
    room_stays [] q h big w e = no_key_lem e
    room_stays (x ∷ u) q h big w e =
        let e' : x.key ≡ k = cc in
        let v' : Has C one k (x ∷ u) s = subst (λ (l : Table). Has C one k l s) (sym q) v in
        first_stays k j n C x u s v'.distinct big h v'.cover w (rw e' (same_refl k))

    new_stays : (κ : Kind) (r : Outcome M.State Out) → find j t ≡ None →
        Fewer C (cond (marks κ && accepted (new_call kind M C t j κ r).answer) (another j s) s) → pushed_key (new_call kind M C t j κ r).answer ≡ Some k → ⊥
    new_stays enters (refuse z) h w e = no_key_lem e
    new_stays enters (accept y o) h w e =
        by_bool (ltb (length t) C)
        (λ p. no_key_lem (rw p at e))
        (λ p. room_stays t refl h (ltb_false (length t) C p) w (rw p at e))
    new_stays uses r h w e = no_key_lem e
    new_stays looks r h w e = no_key_lem e
    new_stays leaves r h w e = no_key_lem e

    held_stays : (κ : Kind) (r : Outcome M.State Out) → pushed_key (held_call kind M C t j κ r).answer ≡ Some k → ⊥
    held_stays κ (refuse z) e = no_key_lem e
    held_stays κ (accept y o) e = no_key_lem e

    other_stays : (a : Act) (f : Option M.State) → find j t ≡ f →
        Fewer C (cond (marks (kind a) && accepted (serve kind M C t j a f).answer) (another j s) s) → pushed_key (serve kind M C t j a f).answer ≡ Some k → ⊥
    other_stays a None h w e = new_stays (kind a) (M.act j M.fresh a) h w e
    other_stays a (Some x) h w e = held_stays (kind a) (M.act j x a) e

  -- THE KEY'S OWN CALL pushes out another
  own_oldest : (t : Table) → find k t ≡ None → oldest t ≡ Some k → ⊥
  own_oldest [] h e = no_key_lem e
  own_oldest (x ∷ t) h e =
      let e' : x.key ≡ k = cc in
      let q : Path (Option M.State) (Some x.state) None = rw (e', same_refl k) at h in
      let z : ◌≡◌ {A = ℕ} 0 1 = cc in omega arith

  own_new_stays : (t : Table) (κ : Kind) (r : Outcome M.State Out) → find k t ≡ None → pushed_key (new_call kind M C t k κ r).answer ≡ Some k → ⊥
  own_new_stays t enters (refuse z) h e = no_key_lem e
  own_new_stays t enters (accept y o) h e = by_bool (ltb (length t) C) (λ p. no_key_lem (rw p at e)) (λ p. own_oldest t h (rw p at e))
  own_new_stays t uses r h e = no_key_lem e
  own_new_stays t looks r h e = no_key_lem e
  own_new_stays t leaves r h e = no_key_lem e

  own_held_stays : (t : Table) (κ : Kind) (r : Outcome M.State Out) → pushed_key (held_call kind M C t k κ r).answer ≡ Some k → ⊥
  own_held_stays t κ (refuse z) e = no_key_lem e
  own_held_stays t κ (accept y o) e = no_key_lem e

  own_stays : (t : Table) (a : Act) (f : Option M.State) → find k t ≡ f → pushed_key (serve kind M C t k a f).answer ≡ Some k → ⊥
  own_stays t a None h e = own_new_stays t (kind a) (M.act k M.fresh a) h e
  own_stays t a (Some x) h e = own_held_stays t (kind a) (M.act k x a) e

  -- ALONG THE LIST
  stays_from : (cs : List (Call Act)) (t : Table) (s : Since) → Has C one k t s → Stays (λ a. marks (kind a)) C k s (history (table_step kind M C) t cs)
  stays_from [] t s v = tt
  stays_from (c ∷ cs) t s v =
      by_bool (same k c.key) (λ p. mine p (λ u r w. stays_from cs u r w)) (λ p. theirs p (λ u r w. stays_from cs u r w))
    where
      st : Step Table Out
      st = table_step kind M C t c

      b : Bool
      b = marks (kind c.act) && accepted st.answer

      Rest : Type 0
      Rest = (u : Table) (r : Since) → Has C one k u r → Stays (λ a. marks (kind a)) C k r (history (table_step kind M C) u cs)

      theirs : same k c.key ≡ false → Rest → Stays (λ a. marks (kind a)) C k s (history (table_step kind M C) t (c ∷ cs))
      theirs n go = rw n (other_stays c.key n t s v c.act (find c.key t) refl, go st.next (cond b (another c.key s) s) (other_has c.key n t s v c.act (find c.key t) refl))

      mine : same k c.key ≡ true → Rest → Stays (λ a. marks (kind a)) C k s (history (table_step kind M C) t (c ∷ cs))
      mine n go =
          let e : serve kind M C t k c.act (find k t) ≡ st = rw (← same_eq k c.key n) in
          let o = (own_call kind M C one k s t c.act (find k t) v).1 in
          let w : Has C one k st.next (cond b (Some []) s) = subst (λ (x : Step Table Out). Has C one k x.next (cond (marks (kind c.act) && accepted x.answer) (Some []) s)) e (has C one k _ _ _ o) in
          rw n ((λ f q. own_stays t c.act (find k t) refl (ap (λ (x : Step Table Out). pushed_key x.answer) e ∙ q)), go st.next (cond b (Some []) s) w)

  pub stays : (cs : List (Call Act)) → Stays (λ a. marks (kind a)) C k None (history (table_step kind M C) [] cs)
  stays cs = stays_from cs [] None (record { found = refl; distinct = tt; fits = omega arith; cover = refl })
