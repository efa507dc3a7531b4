-- DEMAND 3: a receiver keeps its verdict whatever the others send. One claim about the whole list, for every C. Definitions only; proofs/Promised proves it.
use Rattle.std.specs.Prelude.{◌≡◌, ◌↔◌, ℕ, ◌≤◌, Bool, true, false, List, None, Some}
use Rattle.table.specs.Machine.{Key, Call, said, Event, history, after}
use Rattle.table.specs.Rows.{Watch}
use Rattle.table.specs.Watch.{fresh_watch, watch_step}
use Rattle.receiver.specs.declared.Part.{Part}
use Rattle.verdicts.specs.declared.CheckState.TheVariants as Says
use Rattle.receiver.specs.Calls.{Act, claim, position, judging, check, take_out, Out, says, kind, siting, call_on}
use Rattle.protection.specs.Marks.{calls_of, own, answers_to, Protected}
use Rattle.protection.specs.Run.{HeldWrong, last_wrong}
use Rattle.protection.specs.Card.{Card, card_answers, card_after}

-- Each claim or position that the list's answers show accepted marks its key.
abbrev pub marks_key : Act → Bool
marks_key (claim c) = true
marks_key (position p) = true
marks_key (judging now aircraft) = false
marks_key check = false
marks_key take_out = false

-- a list of calls in turn, from a fresh watch of C rows: the calls with their answers, and the watch that they leave
abbrev pub told : ℕ → List (Call Act) → List (Event Act Out)
told C calls = history (watch_step kind siting) (fresh_watch siting.form C) calls

abbrev pub watch_after : ℕ → List (Call Act) → Watch Part
watch_after C calls = after (watch_step kind siting) (fresh_watch siting.form C) calls

-- At every point of the list fewer than C distinct other keys were marked since k's latest mark (before its first mark no other counts).
abbrev pub Safe : ℕ → Key → List (Call Act) → Type 0
Safe C k calls = Protected marks_key C k None (told C calls)

-- The answers to k's calls, the key pushed out aside, are the answers of k's card to k's calls alone.
abbrev pub Answers : Type 0
Answers = (C : ℕ) → 1 ≤ C → C ≤ 4096 → (k : Key) (calls : List (Call Act)) → Safe C k calls → answers_to k (told C calls) ≡ card_answers k None (calls_of k calls)

-- A check of k after them is accepted and says wrong by d exactly when k's card is filled, its run holds three Wrongs in a row with no three others in a
-- row after them, and d is the distance of the run's last Wrong.
abbrev pub Checks : Type 0
Checks =
    (C : ℕ) → 1 ≤ C → C ≤ 4096 → (k : Key) (calls : List (Call Act)) → Safe C k calls → (d : ℕ) →
    (own (call_on (watch_after C calls) k check).answer ≡ said None (says (Says.Wrong d)))
    ↔ ((c : Card) × (card_after k None (calls_of k calls) ≡ Some c) × HeldWrong c.run × (d ≡ last_wrong c.run))

pub record Promise : Type 0 where
  pub answers : Answers
  pub checks : Checks
