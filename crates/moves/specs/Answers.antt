-- What an answer says, and what a call comes to: for each word the documents' number and its values (01, 'Seven calls, seven questions'). Definitions only.
use Rattle.std.specs.Prelude.{ℕ, List, Some, None, Option, Result, Ok, Err}
use Rattle.table.specs.Machine as M
use Rattle.table.specs.Machine.{Step, refused, said}
use Rattle.table.specs.Refusals.{number_of}
use Rattle.table.specs.Rows.{Watch}
use Rattle.table.specs.declared.Refusal.{Refusal}
use Rattle.table.specs.declared.Refusal.TheVariants as R
use Rattle.receiver.specs.declared.Part.{Part}
use Rattle.verdicts.specs.Verdict.{says_verdict}
use Rattle.verdicts.specs.declared.Verdict.{Verdict}
use Rattle.receiver.specs.Calls.{Out, generation_is, judgment_is, says, freed, done}
use Rattle.rows.specs.declared.Row.{Row}
use Rattle.rows.specs.Read.{watch_is}
use Rattle.moves.specs.declared.Word.{Word}
use Rattle.moves.specs.declared.Word.TheVariants as Wd

abbrev pub Answer : Type 0
Answer = Result Word Refusal

-- Accepted, claim answers the generation and the key pushed out or none; judging its judgment; check the state, with a distance if wrong; take-out
-- and drop-oldest the key freed; fresh and position only that they were accepted.
abbrev pub accepted : Word → M.Answer Out
accepted (Wd.Generation g p) = said p (generation_is g)
accepted (Wd.Judged j) = said None (judgment_is j)
accepted (Wd.Says s) = said None (says s)
accepted (Wd.Freed k) = said None (freed k)
accepted Wd.Done = said None done

-- A refusal has its number.
abbrev pub answer_is : Answer → M.Answer Out
answer_is (Ok w) = accepted w
answer_is (Err r) = refused (number_of r)

-- WHAT A CALL COMES TO: the watch that it leaves, and its answer
abbrev pub outcome : Answer → List Row → List ℕ → List ℕ → Step (Watch Part) Out
outcome r xs ys ws = record { next = watch_is xs ys ws; answer = answer_is r }

-- 7: (check) Was the row judged since it was made?
abbrev pub check_answer : Option Verdict → Answer
check_answer (Some v) = Ok (Wd.Says (says_verdict v))
check_answer None = Err R.NeverJudged
