-- The two passes come to the definition. The marks tell the used rows (`marks_tell`), every key has 32 bytes, so each row that is passed over moves its key from
-- what is ahead to what is given (`ahead_goes`): a pass over k rows writes their keys one after the other (`passed_is`), and it ends at the row after them.
-- Over any list of rows: `ticks` cites them too.
use mathlib.Core.Path.{◌≡◌, refl, sym, ap, ap₂, ◌∙◌, subst}
use Prim.Native.Nat.{ℕ, zero, suc, ◌+◌, ◌-◌, ◌*◌, ◌≤◌, ◌<◌}
use native.Mathlib.Omega.{arith}
use native.Mathlib.Nat.{zero-add}
use mathlib.Core.Bool.{Bool, true, false, ◌||◌}
use mathlib.Core.List.{List, [], ◌∷◌, ◌++◌, append_assoc, map}
use lib.Dec.{eqb}
use lib.ListN.{length, get_or, set, take, drop, replicate, length-append, length-set, length-replicate, get_or-replicate, take-append-drop}
use lib.Seq.{sets, sets-eq, length-take-le, take_at, drop-append-add, drop-drop, get_or-set_same, get_or-set_other}
use Rattle.table.specs.Machine.{Key}
use Rattle.table.specs.Rows.{Watch, row_at}
use Rattle.table.specs.Questions.{among}
use Rattle.table.proofs.Tests.{by_bool, eqb_true, eqb_false}
use Rattle.receiver.specs.declared.Part.{Part}
use Rattle.receiver.specs.Calls.{unmade_part}
use Rattle.rows.specs.declared.Row.{Row}
use Rattle.rows.specs.Links.{blank}
use Rattle.rows.specs.Read.{form, row_is}
use Rattle.rows.proofs.Chains.{row_is_lem}
use Rattle.turns.specs.Turn.{gave, following, named, is_used, keys_of, joined, written, Tick}
use Rattle.turns.specs.Passes.{mark_all, count_after, list_after, passed, keys_long}
use Rattle.turns.proofs.Numbers.{onward, following_below}
use Rattle.turns.proofs.Laws.{count_less, list_long}

-- THE MARKS
or_true : (b : Bool) → (b || true) ≡ true
or_true true = refl
or_true false = refl

marks_also : (i : ℕ) (l : List ℕ) (marks : List Bool) → i < length marks → get_or (mark_all l marks) i false ≡ (get_or marks i false || among i l)
marks_also i [] marks h = sym (or_false (get_or marks i false))
  where
    or_false : (b : Bool) → (b || false) ≡ b
    or_false true = refl
    or_false false = refl
marks_also i (j ∷ l) marks h =
    marks_also i l (set marks j true) (omega (arith, length-set marks j true))
    ∙ by_bool (eqb i j)
    (λ p. ap (λ (b : Bool). b || among i l) (ap (λ (n : ℕ). get_or (set marks j true) n false) (eqb_true i j p) ∙ get_or-set_same marks j true false (subst (λ (n : ℕ). n < length marks) (eqb_true i j p) h)) ∙ sym (rw p (or_true (get_or marks i false))))
    (λ p. rw (p, get_or-set_other marks j i true false (eqb_false i j p)))

pub marks_tell : (l : List ℕ) (i : ℕ) → i < 4096 → get_or (mark_all l (replicate 4096 false)) i false ≡ among i l
marks_tell l i h =
    marks_also i l (replicate 4096 false) (subst (λ (n : ℕ). i < n) (sym (length-replicate 4096 false)) h)
    ∙ ap (λ (b : Bool). b || among i l) (get_or-replicate 4096 i false false h)

-- A KEY AFTER THE FIRST n, and what is taken and dropped of the list with it
module _ (key list : List ℕ) (n : ℕ) (has : length key ≡ 32) (room : 32 * suc n ≤ length list) where
  put : List ℕ
  put = sets list (32 * n) key

  front : List ℕ
  front = take (32 * n) list ++ key

  front_long : length front ≡ 32 * suc n
  unfolding front
  front_long = length-append (take (32 * n) list) key ∙ omega (arith, length-take-le (32 * n) list fits)
    where
      fits : 32 * n ≤ length list
      fits = omega arith

  put_is : put ≡ front ++ drop (32 * suc n) list
  unfolding put front
  put_is = sets-eq key list (32 * n) fits ∙ ap (λ (m : ℕ). (take (32 * n) list ++ key) ++ drop m list) sum
    where
      fits : 32 * n + length key ≤ length list
      fits = omega arith

      sum : 32 * n + length key ≡ 32 * suc n
      sum = omega arith

  taken : take (32 * suc n) put ≡ take (32 * n) list ++ key
  unfolding front
  taken = ap (take (32 * suc n)) put_is ∙ take_at front (drop (32 * suc n) list) (32 * suc n) front_long

  dropped : (m : ℕ) → drop (32 * suc n + m) put ≡ drop (32 * suc n + m) list
  dropped m =
      ap (drop (32 * suc n + m)) put_is ∙ ap (λ (j : ℕ). drop (j + m) (front ++ drop (32 * suc n) list)) (sym front_long)
      ∙ drop-append-add front (drop (32 * suc n) list) m ∙ drop-drop m (32 * suc n) list

-- WHAT IS AHEAD, with n keys given: these keys after them, and the row number that is answered
unfoldable pub ahead : ℕ → List ℕ → List Key → ℕ → Tick
ahead n list keys next = record { answer = gave (n + length keys) next; list = take (32 * n) list ++ (joined keys ++ drop (32 * n + length (joined keys)) list) }

more_keys : (n next : ℕ) (key : Key) (keys : List Key) (list : List ℕ) → length key ≡ 32 → 32 * suc n ≤ length list → ahead (suc n) (sets list (32 * n) key) keys next ≡ ahead n list (key ∷ keys) next
unfolding ahead put
more_keys n next key keys list has room =
    ap₂ {C = Tick} (λ m l. record { answer = gave m next; list = l }) counts
    (ap₂ {C = List ℕ} (λ a b. a ++ (joined keys ++ b)) (taken key list n has room) (dropped key list n has room (length (joined keys)) ∙ ap (λ (m : ℕ). drop m list) sum)
    ∙ append_assoc (take (32 * n) list) key (joined keys ++ rest)
    ∙ ap (λ (l : List ℕ). take (32 * n) list ++ l) (sym (append_assoc key (joined keys) rest)))
  where
    counts : suc n + length keys ≡ n + suc (length keys)
    counts = omega arith

    sum : 32 * suc n + length (joined keys) ≡ 32 * n + length (key ++ joined keys)
    sum = omega (arith, length-append key (joined keys))

    rest : List ℕ
    rest = drop (32 * n + length (key ++ joined keys)) list

-- from the start of the list
pub from_start : (keys : List Key) (next : ℕ) (list : List ℕ) → ahead 0 list keys next ≡ record { answer = gave (length keys) next; list = written keys list }
unfolding ahead
from_start keys next list =
    ap₂ {C = Tick} (λ m d. record { answer = gave m next; list = joined keys ++ drop d list }) (zero-add (length keys)) (zero-add (length (joined keys)))

-- with no row left
pub none_ahead : (n next : ℕ) (list : List ℕ) → ahead n list [] next ≡ record { answer = gave n next; list = list }
unfolding ahead
none_ahead n next list =
    ap₂ {C = Tick} (λ m l. record { answer = gave m next; list = l }) none (ap (λ (m : ℕ). take (32 * n) list ++ drop m list) none₁ ∙ take-append-drop (32 * n) list)
  where
    none : n + 0 ≡ n
    none = omega arith

    none₁ : 32 * n + 0 ≡ 32 * n
    none₁ = omega arith

module _ (w : Watch Part) (C : ℕ) where
  -- a row is passed over: its key is given where it is used
  pub ahead_goes : (k at n next : ℕ) (list key : List ℕ) (used : Bool) → used ≡ is_used form w at → key ≡ (row_at unmade_part w.rows at).key → (used ≡ true → length key ≡ 32) → 32 * suc n ≤ length list
      → ahead (count_after used n) (list_after used key n list) (keys_of form w (named C (following C at) k)) next ≡ ahead n list (keys_of form w (named C at (suc k))) next
  ahead_goes k at n next list key used eu ek has room =
      by_bool (is_used form w at)
      (λ p. rw (eu, p, sym ek) (more_keys n next key (keys_of form w (named C (following C at) k)) list (has (eu ∙ p)) room))
      (λ p. rw (eu, p))

  -- THE KEYS OF k ROWS, one after the other
  module _ (xs : List Row) (rows_are : w.rows ≡ map row_is xs) (marks : List Bool) (tells : (i : ℕ) → i < C → get_or marks i false ≡ is_used form w i) where
    key_is_lem : (i : ℕ) → (row_at unmade_part w.rows i).key ≡ (get_or xs i blank).key
    key_is_lem i = ap {B = Key} (λ rs. (row_at unmade_part rs i).key) rows_are ∙ ap {B = Key} (λ r. r.key) (row_is_lem xs i)

    passed_is : (k at n : ℕ) (list : List ℕ) → keys_long marks xs C k at → at < C → 32 * (n + k) ≤ length list → passed marks xs C k at n list ≡ ahead n list (keys_of form w (named C at k)) (onward C k at)
    unfolding passed
    passed_is zero at n list long h room = sym (none_ahead n at list)
    passed_is (suc k) at n list long h room =
        passed_is k (following C at) (count_after used n) (list_after used key n list) long.1 (following_below C at h) (omega (arith, count_less used n, list_long used key n list))
        ∙ ahead_goes k at n (onward C k (following C at)) list key used (tells at h) (sym (key_is_lem at)) long.0 (omega arith)
      where
        used : Bool
        used = get_or marks at false

        key : Key
        key = (get_or xs at blank).key

    -- from the start of the list
    pub all_passed : (k at : ℕ) (list : List ℕ) → keys_long marks xs C k at → at < C → 32 * k ≤ length list → passed marks xs C k at 0 list ≡ ahead 0 list (keys_of form w (named C at k)) (onward C k at)
    all_passed k at list long h room = passed_is k at 0 list long h (omega arith)

-- one row before them
pub long_goes :
    (marks : List Bool) (rows : List Row) (C k at next : ℕ) → 0 < k → next ≡ following C at → (get_or marks at false ≡ true → length (get_or rows at blank).key ≡ 32)
    → keys_long marks rows C (k - 1) next → keys_long marks rows C k at
long_goes marks rows C zero at next more e key later = absurd (omega arith)
long_goes marks rows C (suc k) at next more e key later =
    let left : suc k - 1 ≡ k = omega arith in
    (key, subst (keys_long marks rows C k) e (subst (λ (j : ℕ). keys_long marks rows C j next) left later))

pub no_key_left : (marks : List Bool) (rows : List Row) (C k at : ℕ) → k ≤ 0 → keys_long marks rows C k at
no_key_left marks rows C zero at none = tt
no_key_left marks rows C (suc k) at none = absurd (omega arith)
