-- The turn keeper (02, 'Item 1. Turns for the half-hour round'): one tick, for any lent watch. Definitions only; what a row holds is a parameter, as in `table`.
use Rattle.std.specs.Prelude.{ℕ, zero, suc, ◌+◌, ◌/◌, ◌%◌, Bool, false, cond, ◌&&◌, List, [], ◌∷◌, ◌++◌, leb, ltb, eqb, length, drop, Option, None, Some, Result, Ok, Err}
use Rattle.table.specs.Machine.{Key}
use Rattle.table.specs.Rows.{Watch, Form, row_at}
use Rattle.table.specs.Questions.{question1, question2, chain, among}
use Rattle.turns.specs.declared.Turned.{Turned}
use Rattle.table.specs.declared.Refusal.{Refusal}
use Rattle.table.specs.declared.Refusal.TheVariants as R

-- "A next row number of C or more counts as 0."
abbrev pub start_of : ℕ → ℕ → ℕ
start_of C next = cond (ltb next C) next 0

-- the row number after i, "going round to 0"
abbrev pub following : ℕ → ℕ → ℕ
following C i = cond (eqb (suc i) C) 0 (suc i)

-- "each tick names the next k rows in ascending number": k row numbers, the first of them i
abbrev pub named : ℕ → ℕ → ℕ → List ℕ
named C i zero = []
named C i (suc k) = i ∷ named C (following C i) k

-- the rows that a tick names
abbrev pub named_by : ℕ → ℕ → ℕ → List ℕ
named_by C next k = named C (start_of C next) k

-- "and gives the keys of the used ones, in that order": those in the used chain
abbrev pub is_in : ℕ → Option (List ℕ) → Bool
is_in i None = false
is_in i (Some l) = among i l

abbrev pub is_used : {P : Type 0} → Form P → Watch P → ℕ → Bool
is_used F w i = is_in i (chain F.unmade w.rows (length w.rows) w.ends.head)

abbrev pub keys_of : {P : Type 0} → Form P → Watch P → List ℕ → List Key
keys_of F w [] = []
keys_of F w (i ∷ l) = cond (is_used F w i) ((row_at F.unmade w.rows i).key ∷ keys_of F w l) (keys_of F w l)

-- A lent key list is its bytes, 32 to a key: how many keys it holds.
abbrev pub holds : List ℕ → ℕ
holds list = length list / 32

-- "from the start of a lent key list, whose rest stays"
abbrev pub joined : List Key → List ℕ
joined [] = []
joined (k ∷ ks) = k ++ joined ks

abbrev pub written : List Key → List ℕ → List ℕ
written ks list = joined ks ++ drop (length (joined ks)) list

-- "the next row number": the one after the last that is named
abbrev pub next_of : ℕ → ℕ → ℕ → ℕ
next_of C next k = (start_of C next + k) % C

-- "Refused: 8 when k isn't from 1 to C or the list holds fewer than k keys": is k from 1 to C, and does the list hold k keys?
unfoldable pub question8 : ℕ → ℕ → List ℕ → Bool
question8 C k list = (leb 1 k && leb k C) && leb k (holds list)

-- what a tick answers, and the list as it leaves it; the watch is only read
pub record Tick : Type 0 where
  pub answer : Result Turned Refusal
  pub list : List ℕ

-- a refusal writes nothing
abbrev pub refusal : List ℕ → Refusal → Tick
refusal list r = record { answer = Err r; list = list }

-- how many keys were given, and the next row number
abbrev pub gave : ℕ → ℕ → Result Turned Refusal
gave count next = Ok (record { count = count; next = next })

-- "it answers their count and the next row number"
abbrev pub acceptance : {P : Type 0} → Form P → Watch P → ℕ → ℕ → List ℕ → Tick
acceptance F w next k list =
    let keys = keys_of F w (named_by (length w.rows) next k) in
    record { answer = gave (length keys) (next_of (length w.rows) next k); list = written keys list }

-- a tick: questions 1 and 2, and 8 "asked after question 2"
abbrev pub turn_on : {P : Type 0} → Form P → Watch P → ℕ → ℕ → List ℕ → Tick
turn_on F w next k list =
    cond (question1 F w)
    (cond (question2 F w) (cond (question8 (length w.rows) k list) (acceptance F w next k list) (refusal list R.Turn)) (refusal list R.NotInOrder))
    (refusal list R.Sizes)
