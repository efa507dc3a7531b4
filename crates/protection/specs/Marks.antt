-- A receiver's calls and answers in a list, and the marks of others (01, 'A receiver's card'), for any calls. Definitions only.
use Rattle.std.specs.Prelude.{◌≡◌, ℕ, ◌<◌, Bool, true, false, cond, ◌&&◌, ◌||◌, List, [], ◌∷◌, length, Option, None, Some}
use Rattle.table.specs.Machine.{Key, same, Call, Answer, refused, said, Event}

-- A receiver is a key, its calls those naming it;
abbrev pub calls_of : {Act : Type 0} → Key → List (Call Act) → List Act
calls_of k [] = []
calls_of k (c ∷ cs) = cond (same k c.key) (c.act ∷ calls_of k cs) (calls_of k cs)

-- the key pushed out, which an answer carries; and an answer but for it
abbrev pub pushed_key : {Out : Type 0} → Answer Out → Option Key
pushed_key (refused n) = None
pushed_key (said p o) = p

abbrev pub own : {Out : Type 0} → Answer Out → Answer Out
own (refused n) = refused n
own (said p o) = said None o

-- the answers to its calls
abbrev pub answers_to : {Act Out : Type 0} → Key → List (Event Act Out) → List (Answer Out)
answers_to k [] = []
answers_to k (e ∷ l) = cond (same k e.call.key) (own e.answer ∷ answers_to k l) (answers_to k l)

abbrev pub accepted : {Out : Type 0} → Answer Out → Bool
accepted (refused n) = false
accepted (said p o) = true

abbrev pub member : Key → List Key → Bool
member k [] = false
member k (j ∷ l) = same k j || member k l

-- The distinct other keys marked since the receiver's latest mark; before a receiver's first mark (none) no other counts.
abbrev pub Since : Type 0
Since = Option (List Key)

-- another key j is marked: it counts once
abbrev pub another : Key → Since → Since
another j None = None
another j (Some l) = Some (cond (member j l) l (j ∷ l))

-- fewer than C others
abbrev pub Fewer : ℕ → Since → Type 0
Fewer C None = Unit {0}
Fewer C (Some l) = length l < C

-- `marks` says which calls mark their key where accepted
module _ {Act Out : Type 0} (marks : Act → Bool) where
  -- each such call that the list's answers show accepted marks its key
  abbrev pub marking : Event Act Out → Bool
  marking e = marks e.call.act && accepted e.answer

  -- the receiver's own mark begins anew
  abbrev pub since : Key → Since → Event Act Out → Since
  since k s e = cond (marking e) (cond (same k e.call.key) (Some []) (another e.call.key s)) s

  -- at every point of the list, its end included, fewer than C others were marked since k's latest mark
  abbrev pub Protected : ℕ → Key → Since → List (Event Act Out) → Type 0
  Protected C k s [] = Fewer C s
  Protected C k s (e ∷ l) = Fewer C s × Protected C k (since k s e) l

  -- no call of the list pushes k out, where fewer than C others were marked since k's latest mark, the call's own mark counted
  abbrev pub Stays : ℕ → Key → Since → List (Event Act Out) → Type 0
  Stays C k s [] = Unit {0}
  Stays C k s (e ∷ l) = (Fewer C (since k s e) → pushed_key e.answer ≡ Some k → ⊥) × Stays C k (since k s e) l
