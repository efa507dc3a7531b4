-- A tick's answer as nine numbers, as the answers of the seven calls are (replies/Replies.answer_words). Definitions only.
use Rattle.std.specs.Prelude.{◌≡◌, ℕ, List, Result, Ok, Err}
use Rattle.table.specs.Refusals.{number_of}
use Rattle.table.specs.declared.Refusal.{Refusal}
use Rattle.replies.specs.Replies.{plain}
use Rattle.turns.specs.declared.Turned.{Turned}
use Rattle.turns.specs.Turn.{Tick}

-- 0 and the question's number; or 6, how many keys were given, and the next row number
abbrev pub turn_words : Result Turned Refusal → List ℕ
turn_words (Err r) = plain 0 (number_of r) 0 0
turn_words (Ok t) = plain 6 t.count t.next 0

-- the answer's numbers and the list that is left are the tick's
abbrev pub Ticked : List ℕ → List ℕ → Tick → Type 0
Ticked answer list t = (answer ≡ turn_words t.answer) × (list ≡ t.list)
