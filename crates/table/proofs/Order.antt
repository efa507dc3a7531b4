-- The order of use as a list: at most C keys with their machines' states, the least recently marked first. No links: the argument of
-- demand 3 is about this list, and the watch of rows and links is proved to answer as it does (`histories` in Refine).
use Rattle.std.specs.Prelude.{Option, None, Some}
use Prim.Native.Nat.{ℕ}
use mathlib.Core.Bool.{cond}
use mathlib.Core.List.{List, [], ◌∷◌, ◌++◌}
use lib.Dec.{ltb}
use lib.ListN.{length}
use Rattle.table.specs.Machine.{Key, same, Kind, enters, uses, looks, leaves, Outcome, refuse, accept, Machine, Call, refused, said, Step}

pub record Entry (S : Type 0) : Type 0 where
  pub key : Key
  pub state : S

-- the state of the first entry with the key
abbrev pub find : {S : Type 0} → Key → List (Entry S) → Option S
find k [] = None
find k (e ∷ t) = cond (same k e.key) (Some e.state) (find k t)

-- the table without the first entry with the key
abbrev pub without : {S : Type 0} → Key → List (Entry S) → List (Entry S)
without k [] = []
without k (e ∷ t) = cond (same k e.key) t (e ∷ without k t)

-- the first entry with the key gets a new state
abbrev pub replaced : {S : Type 0} → Key → S → List (Entry S) → List (Entry S)
replaced k s [] = []
replaced k s (e ∷ t) = cond (same k e.key) (record { key = e.key; state = s } ∷ t) (e ∷ replaced k s t)

-- room for one more: with C held the least recently marked goes
abbrev pub behead : {S : Type 0} → List (Entry S) → List (Entry S)
behead [] = []
behead (e ∷ t) = t

abbrev pub oldest : {S : Type 0} → List (Entry S) → Option Key
oldest [] = None
oldest (e ∷ t) = Some e.key

abbrev pub room : {S : Type 0} → ℕ → List (Entry S) → List (Entry S)
room C t = cond (ltb (length t) C) t (behead t)

abbrev pub pushed : {S : Type 0} → ℕ → List (Entry S) → Option Key
pushed C t = cond (ltb (length t) C) None (oldest t)

abbrev pub last : {S : Type 0} → List (Entry S) → Key → S → List (Entry S)
last t k s = t ++ (record { key = k; state = s } ∷ [])

module _ {Act Out : Type 0} (kind : Act → Kind) (M : Machine Act Out) (C : ℕ) where
  -- an accepted call on a key held
  abbrev pub changed : Kind → List (Entry M.State) → Key → M.State → List (Entry M.State)
  changed enters t k s = last (without k t) k s
  changed uses t k s = last (without k t) k s
  changed looks t k s = replaced k s t
  changed leaves t k s = without k t

  abbrev pub held_call : List (Entry M.State) → Key → Kind → Outcome M.State Out → Step (List (Entry M.State)) Out
  held_call t k κ (refuse n) = record { next = t; answer = refused n }
  held_call t k κ (accept s o) = record { next = changed κ t k s; answer = said None o }

  -- an accepted claim on a key not held
  abbrev pub entered : List (Entry M.State) → Key → Outcome M.State Out → Step (List (Entry M.State)) Out
  entered t k (refuse n) = record { next = t; answer = refused n }
  entered t k (accept s o) = record { next = last (room C t) k s; answer = said (pushed C t) o }

  abbrev pub new_call : List (Entry M.State) → Key → Kind → Outcome M.State Out → Step (List (Entry M.State)) Out
  new_call t k enters r = entered t k r
  new_call t k uses r = record { next = t; answer = refused 3 }
  new_call t k looks r = record { next = t; answer = refused 3 }
  new_call t k leaves r = record { next = t; answer = refused 3 }

  abbrev pub serve : List (Entry M.State) → Key → Act → Option M.State → Step (List (Entry M.State)) Out
  serve t k a None = new_call t k (kind a) (M.act k M.fresh a)
  serve t k a (Some s) = held_call t k (kind a) (M.act k s a)

  abbrev pub table_step : List (Entry M.State) → Call Act → Step (List (Entry M.State)) Out
  table_step t c = serve t c.key c.act (find c.key t)
