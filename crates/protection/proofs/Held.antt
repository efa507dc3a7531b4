-- Keys in the order of use: no key twice, how many keys can differ, and what finding, replacing, taking out and putting last do to the keys behind one.
use Rattle.std.specs.Prelude.{Option, None, Some}
use mathlib.Core.Path.{◌≡◌, refl, sym, ap, ◌∙◌}
use Prim.Native.Nat.{suc, ◌≤◌}
use native.Mathlib.Omega.{arith}
use mathlib.Core.Bool.{Bool, true, false, cond, ◌||◌}
use mathlib.Core.List.{List, [], ◌∷◌}
use lib.ListN.{length, length-append}
use Rattle.table.specs.Machine.{Key, same}
use Rattle.table.proofs.Tests.{by_bool, clash, or_cases, or_1, or_2, none_1, none_2}
use Rattle.table.proofs.Keys.{same_refl, same_eq, same_flip, same_as}
use Rattle.table.proofs.Order.{Entry, find, without, replaced, last}
use Rattle.protection.specs.Marks.{member}

-- no key twice
abbrev pub NoDup : List Key → Type 0
NoDup [] = Unit {0}
NoDup (k ∷ l) = (member k l ≡ false) × NoDup l

abbrev pub Sub : List Key → List Key → Type 0
Sub l m = (x : Key) → member x l ≡ true → member x m ≡ true

-- the list without the first occurrence of a key
abbrev del : Key → List Key → List Key
del k [] = []
del k (j ∷ l) = cond (same k j) l (j ∷ del k l)

length_del : (k : Key) (l : List Key) → member k l ≡ true → suc (length (del k l)) ≡ length l
length_del k [] e = clash e refl
length_del k (j ∷ l) e = by_bool (same k j) (λ p. rw p) (λ p. rw p (ap suc (length_del k l (rw p at e))))

del_other : (x k : Key) (l : List Key) → same x k ≡ false → member x l ≡ true → member x (del k l) ≡ true
del_other x k [] n e = e
del_other x k (j ∷ l) n e =
    by_bool (same k j)
    (λ p. rw p (or_cases (same x j) (member x l) e (λ q. clash (sym (same_as x k j p) ∙ q) n) (λ q. q)))
    (λ p. rw p (or_cases (same x j) (member x l) e (λ q. or_1 (same x j) (member x (del k l)) q) (λ q. or_2 (same x j) (member x (del k l)) (del_other x k l n q))))

-- distinct keys that all stand in a list are no more than the list is long
pub distinct_le : (l m : List Key) → NoDup l → Sub l m → length l ≤ length m
distinct_le [] m d s = omega arith
distinct_le (k ∷ l) m d s =
    let here : member k m ≡ true = s k (or_1 (same k k) (member k l) (same_refl k)) in
    let short : length l ≤ length (del k m) = distinct_le l (del k m) d.1 (λ x e. del_other x k m (by_bool (same x k) (λ p. clash (rw (same_eq x k p) at e) d.0) (λ p. p)) (s x (or_2 (same x k) (member x l) e))) in
    omega (arith, length_del k m here)

-- one key more, if it isn't there yet
pub member_add : (x j : Key) (l : List Key) → (member x l || same x j) ≡ true → member x (cond (member j l) l (j ∷ l)) ≡ true
member_add x j l h =
    by_bool (member j l)
    (λ p. rw p (or_cases (member x l) (same x j) h (λ q. q) (λ q. rw (same_eq x j q) p)))
    (λ p. rw p (or_cases (member x l) (same x j) h (λ q. or_2 (same x j) (member x l) q) (λ q. or_1 (same x j) (member x l) q)))

module _ {S : Type 0} where
  abbrev pub keys : List (Entry S) → List Key
  keys [] = []
  keys (e ∷ t) = e.key ∷ keys t

  -- the keys marked after k's latest mark, if k is held
  abbrev pub behind : Key → List (Entry S) → List Key
  behind k [] = []
  behind k (e ∷ t) = cond (same k e.key) (keys t) (behind k t)

  -- KEYS AND LENGTHS
  pub keys_replaced : (j : Key) (s : S) (t : List (Entry S)) → keys (replaced j s t) ≡ keys t
  keys_replaced j s [] = refl
  keys_replaced j s (e ∷ t) = by_bool (same j e.key) (λ p. rw p) (λ p. rw p (ap {B = List Key} (λ l. e.key ∷ l) (keys_replaced j s t)))

  pub keys_length : (t : List (Entry S)) → length (keys t) ≡ length t
  keys_length [] = refl
  keys_length (e ∷ t) = ap suc (keys_length t)

  pub member_without : (x j : Key) (t : List (Entry S)) → member x (keys (without j t)) ≡ true → member x (keys t) ≡ true
  member_without x j [] h = h
  member_without x j (e ∷ t) h =
      by_bool (same j e.key)
      (λ p. or_2 (same x e.key) (member x (keys t)) (rw p at h))
      (λ p. or_cases (same x e.key) (member x (keys (without j t))) (rw p at h) (λ q. or_1 (same x e.key) (member x (keys t)) q) (λ q. or_2 (same x e.key) (member x (keys t)) (member_without x j t q)))

  -- what does not stand in the longer list does not stand in the shorter
  pub not_member_without : (x j : Key) (t : List (Entry S)) → member x (keys t) ≡ false → member x (keys (without j t)) ≡ false
  not_member_without x j t h = by_bool (member x (keys (without j t))) (λ p. clash (member_without x j t p) h) (λ p. p)

  pub gone : (k : Key) (t : List (Entry S)) → NoDup (keys t) → member k (keys (without k t)) ≡ false
  gone k [] d = refl
  gone k (e ∷ t) d =
      by_bool (same k e.key)
      (λ p. rw p (rw (same_eq k e.key p) d.0))
      (λ p. rw p (rw p (gone k t d.1)))

  pub nodup_without : (j : Key) (t : List (Entry S)) → NoDup (keys t) → NoDup (keys (without j t))
  nodup_without j [] d = d
  nodup_without j (e ∷ t) d =
      by_bool (same j e.key) (λ p. rw p d.1) (λ p. rw p (not_member_without e.key j t d.0, nodup_without j t d.1))

  pub member_last : (x : Key) (t : List (Entry S)) (j : Key) (s : S) → member x (keys (last t j s)) ≡ (member x (keys t) || same x j)
  member_last x [] j s = or_false (same x j)
    where
      or_false : (b : Bool) → (b || false) ≡ b
      or_false true = refl
      or_false false = refl
  member_last x (e ∷ t) j s = rw (member_last x t j s) (assoc (same x e.key) (member x (keys t)) (same x j))
    where
      assoc : (a b c : Bool) → (a || (b || c)) ≡ ((a || b) || c)
      assoc true b c = refl
      assoc false b c = refl

  pub nodup_last : (t : List (Entry S)) (j : Key) (s : S) → NoDup (keys t) → member j (keys t) ≡ false → NoDup (keys (last t j s))
  nodup_last [] j s d n = (refl, tt)
  nodup_last (e ∷ t) j s d n = (
    rw (member_last e.key t j s, d.0, same_flip e.key j) (none_1 (same j e.key) (member j (keys t)) n),
    nodup_last t j s d.1 (none_2 (same j e.key) (member j (keys t)) n),
  )

  pub length_last : (t : List (Entry S)) (j : Key) (s : S) → length (last t j s) ≡ suc (length t)
  length_last t j s = omega (arith, length-append t (record { key = j; state = s } ∷ []))

  pub length_without : (j : Key) (t : List (Entry S)) → length (without j t) ≤ length t
  length_without j [] = omega arith
  length_without j (e ∷ t) = by_bool (same j e.key) (λ p. rw p (omega arith)) (λ p. rw p (omega (arith, length_without j t)))

  pub length_without_held : (j : Key) (t : List (Entry S)) {s : S} → find j t ≡ Some s → suc (length (without j t)) ≡ length t
  length_without_held j [] h = cc
  length_without_held j (e ∷ t) h = by_bool (same j e.key) (λ p. rw p) (λ p. rw p (ap suc (length_without_held j t (rw p at h))))

  pub length_replaced : (j : Key) (s : S) (t : List (Entry S)) → length (replaced j s t) ≡ length t
  length_replaced j s t = sym (keys_length (replaced j s t)) ∙ ap length (keys_replaced j s t) ∙ keys_length t

  -- FIND
  pub find_member : (k : Key) (t : List (Entry S)) → member k (keys t) ≡ false → find k t ≡ None
  find_member k [] h = refl
  find_member k (e ∷ t) h = rw (none_1 (same k e.key) (member k (keys t)) h) (find_member k t (none_2 (same k e.key) (member k (keys t)) h))

  pub member_find : (k : Key) (t : List (Entry S)) → find k t ≡ None → member k (keys t) ≡ false
  member_find k [] h = refl
  member_find k (e ∷ t) h = by_bool (same k e.key) (λ p. let q : Path (Option S) (Some e.state) None = rw p at h in cc) (λ p. rw p (member_find k t (rw p at h)))

  pub find_without : (k j : Key) (t : List (Entry S)) → same k j ≡ false → find k (without j t) ≡ find k t
  find_without k j [] n = refl
  find_without k j (e ∷ t) n =
      by_bool (same j e.key)
      (λ p. rw (p, same_as k j e.key p, n))
      (λ p. rw (p, find_without k j t n))

  pub find_last : (k : Key) (t : List (Entry S)) (j : Key) (s : S) → same k j ≡ false → find k (last t j s) ≡ find k t
  find_last k [] j s n = rw n
  find_last k (e ∷ t) j s n = rw (find_last k t j s n)

  pub find_replaced : (k j : Key) (s : S) (t : List (Entry S)) → same k j ≡ false → find k (replaced j s t) ≡ find k t
  find_replaced k j s [] n = refl
  find_replaced k j s (e ∷ t) n = by_bool (same j e.key) (λ p. rw (p, same_as k j e.key p, n)) (λ p. rw (p, find_replaced k j s t n))

  pub find_last_own : (k : Key) (t : List (Entry S)) (s : S) → member k (keys t) ≡ false → find k (last t k s) ≡ Some s
  find_last_own k [] s h = rw (same_refl k)
  find_last_own k (e ∷ t) s h = rw (none_1 (same k e.key) (member k (keys t)) h) (find_last_own k t s (none_2 (same k e.key) (member k (keys t)) h))

  pub find_replaced_own : (k : Key) (s : S) (t : List (Entry S)) {x : S} → find k t ≡ Some x → find k (replaced k s t) ≡ Some s
  find_replaced_own k s [] h = cc
  find_replaced_own k s (e ∷ t) h = by_bool (same k e.key) (λ p. rw (p, p)) (λ p. rw (p, p) (find_replaced_own k s t (rw p at h)))

  -- BEHIND
  pub behind_replaced : (k j : Key) (s : S) (t : List (Entry S)) → behind k (replaced j s t) ≡ behind k t
  behind_replaced k j s [] = refl
  behind_replaced k j s (e ∷ t) =
      by_bool (same j e.key) (λ p. rw p) (λ p. rw (p, keys_replaced j s t, behind_replaced k j s t))

  pub behind_none : (k : Key) (t : List (Entry S)) → member k (keys t) ≡ false → behind k t ≡ []
  behind_none k [] h = refl
  behind_none k (e ∷ t) h = rw (none_1 (same k e.key) (member k (keys t)) h) (behind_none k t (none_2 (same k e.key) (member k (keys t)) h))

  pub behind_last_own : (k : Key) (t : List (Entry S)) (s : S) → member k (keys t) ≡ false → behind k (last t k s) ≡ []
  behind_last_own k [] s h = rw (same_refl k)
  behind_last_own k (e ∷ t) s h = rw (none_1 (same k e.key) (member k (keys t)) h) (behind_last_own k t s (none_2 (same k e.key) (member k (keys t)) h))

  pub behind_without : (k j : Key) (t : List (Entry S)) → same k j ≡ false → Sub (behind k (without j t)) (behind k t)
  behind_without k j [] n x h = h
  behind_without k j (e ∷ t) n x h =
      by_bool (same j e.key)
      (λ p. rw (same_as k j e.key p, n) (rw p at h))
      (λ p. by_bool (same k e.key) (λ q. rw q (member_without x j t (rw (p, q) at h))) (λ q. rw q (behind_without k j t n x (rw (p, q) at h))))

  pub behind_last : (k : Key) (t : List (Entry S)) (j : Key) (s : S) → same k j ≡ false → (x : Key) → member x (behind k (last t j s)) ≡ true → (member x (behind k t) || same x j) ≡ true
  behind_last k [] j s n x h = clash (rw n at h) refl
  behind_last k (e ∷ t) j s n x h =
      by_bool (same k e.key) (λ q. rw q (rw (q, member_last x t j s) at h)) (λ q. rw q (behind_last k t j s n x (rw q at h)))
