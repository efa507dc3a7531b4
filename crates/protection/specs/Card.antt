-- A receiver's card (01, 'A receiver's card'), call by call. Definitions only.
use Rattle.std.specs.Prelude.{ℕ, Bool, true, false, cond, List, [], ◌∷◌, Some, None, Option}
use Rattle.table.specs.Machine.{Key, Outcome, refuse, accept, Answer, refused, said, Step}
use Rattle.table.specs.Watch.{Body}
use Rattle.near_field.specs.declared.Judgment.{Judgment}
use Rattle.heard.specs.declared.Heard.{Heard}
use Rattle.heard.specs.Heard.{empty_cells, unheard, Moved, moved, stayed, claimed, positioned}
use Rattle.receiver.specs.Calls.{Act, claim, position, judging, check, take_out, Out, generation_is, judgment_is, says, freed, done, judging_of}
use Rattle.verdicts.specs.Verdict.{too_soon}
use Rattle.protection.specs.Run.{Run, says_of}

-- Filled, it holds cells, a run of judgments, a note of a move or none, and a row's fields but key, links and verdict. A blank card is `none`.
-- (02, Item 3) A card keeps now_ms.
pub record Card : Type 0 where
  pub heard : Heard
  pub cells : List ℕ
  pub run : Run
  pub note : Bool
  pub judged_ms : Option ℕ

-- A blank card is first filled as a fresh row, its run empty and no move noted.
abbrev pub filled : Card
filled = record { heard = unheard; cells = empty_cells; run = []; note = false; judged_ms = None }

abbrev pub noted : Moved → Bool → Bool
noted moved b = true
noted stayed b = b

-- A refused call leaves the card as it is.
abbrev pub left : Option Card → ℕ → Step (Option Card) Out
left m n = record { next = m; answer = refused n }

abbrev pub answered : Card → Out → Step (Option Card) Out
answered c o = record { next = Some c; answer = said None o }

-- Claim: any card changes as under Claims, and if that is a move, it is noted.
abbrev pub card_claimed : Option Card → Card → Outcome (Body Heard) Moved → Step (Option Card) Out
card_claimed m c (refuse n) = left m n
card_claimed m c (accept b v) = answered (record { heard = b.part; cells = b.cells; run = c.run; note = noted v c.note; judged_ms = c.judged_ms }) (generation_is b.part.generation)

-- Position: placed and counted as above.
abbrev pub card_placed : Card → Outcome (Body Heard) (Unit {0}) → Step (Option Card) Out
card_placed c (refuse n) = left (Some c) n
card_placed c (accept b u) = answered (record { heard = b.part; cells = b.cells; run = c.run; note = c.note; judged_ms = c.judged_ms }) done

-- Judging: a noted move empties the run and is struck; the judgment joins the run. (02, Item 3) A card keeps now_ms and asks 9 too.
abbrev pub judged_card : Card → ℕ → Judgment → Card
judged_card c now j = record { heard = c.heard; cells = c.cells; run = j ∷ cond c.note [] c.run; note = false; judged_ms = Some now }

abbrev pub card_judged : Card → ℕ → Judgment → Step (Option Card) Out
card_judged c now j = cond (too_soon c.judged_ms now) (left (Some c) 9) (answered (judged_card c now j) (judgment_is j))

-- Check: as above, over this run. 7 asks if its run holds a judgment.
abbrev pub card_checked : Card → Run → Step (Option Card) Out
card_checked c [] = left (Some c) 7
card_checked c (j ∷ r) = answered c (says (says_of j r))

-- One call on the card of key k. 3 asks if it is filled; 1 and 2 aren't asked of it, the others are as of a row. Take-out: blank again.
abbrev pub card_step : Key → Option Card → Act → Step (Option Card) Out
card_step k None (claim x) = card_claimed None filled (claimed unheard empty_cells x)
card_step k None (position p) = left None 3
card_step k None (judging now aircraft) = left None 3
card_step k None check = left None 3
card_step k None take_out = left None 3
card_step k (Some c) (claim x) = card_claimed (Some c) c (claimed c.heard c.cells x)
card_step k (Some c) (position p) = card_placed c (positioned c.heard c.cells p)
card_step k (Some c) (judging now aircraft) = card_judged c now (judging_of c.heard c.cells now aircraft)
card_step k (Some c) check = card_checked c c.run
card_step k (Some c) take_out = record { next = None; answer = said None (freed k) }

-- Its card is fed its calls' arguments, nothing else: its answers to them, and the card that they leave.
abbrev pub card_answers : Key → Option Card → List Act → List (Answer Out)
card_answers k m [] = []
card_answers k m (a ∷ l) = (card_step k m a).answer ∷ card_answers k (card_step k m a).next l

abbrev pub card_after : Key → Option Card → List Act → Option Card
card_after k m [] = m
card_after k m (a ∷ l) = card_after k (card_step k m a).next l
