-- The seven calls of the siting watch (01, 'Seven calls, seven questions'; 02, Item 3): what each with a key does to its row's part and cells, and the
-- calls on any lent watch. Definitions only. A refusal has the documents' number; an accepted call's answer is `said` with the key pushed out or none.
use Rattle.sites.specs.declared.Site.{Site}
use Rattle.verdicts.specs.declared.Verdict.{Verdict}
use Rattle.std.specs.Prelude.{ℕ, cond, ◌&&◌, List, Some, None, Option}
use Rattle.table.specs.Machine.{Key, Kind, enters, uses, looks, leaves, Outcome, refuse, accept, Step}
use Rattle.table.specs.Rows.{Watch}
use Rattle.table.specs.Watch.{Body, Rowed, fresh_step, watch_step, drop_step}
use Rattle.near_field.specs.declared.Judgment.{Judgment}
use Rattle.judge.specs.Judging.{judge_of}
use Rattle.heard.specs.declared.Heard.{Heard}
use Rattle.heard.specs.declared.Position.{Position}
use Rattle.verdicts.specs.declared.CheckState.{CheckState}
use Rattle.receiver.specs.declared.Part.{Part}
use Rattle.verdicts.specs.Verdict.{judged_next, too_soon, run_ended, says_verdict, verdict_fits}
use Rattle.heard.specs.Heard.{width, empty_cells, unheard, Moved, moved, stayed, claimed, positioned, site_fits}

-- the calls with a key, without it
pub data Act : Type 0 where
  claim : Option Site → Act
  position : Position → Act
  judging : ℕ → ℕ → Act  -- now_ms, aircraft
  check : Act
  take_out : Act

-- Accepted, claim answers the generation and the key pushed out or none; judging its judgment; check the state, with a distance if wrong; take-out
-- and drop-oldest the key freed; fresh and position only that they were accepted.
pub data Out : Type 0 where
  generation_is : ℕ → Out
  judgment_is : Judgment → Out
  says : CheckState → Out
  freed : Key → Out
  done : Out

-- An accepted claim or position marks its row. Judging and check never mark.
abbrev pub kind : Act → Kind
kind (claim c) = enters
kind (position p) = uses
kind (judging now aircraft) = looks
kind check = looks
kind take_out = leaves

-- a row's part: site, generation, ids (`heard`), verdict or none, now_ms of its last accepted judging or none
abbrev pub unmade_part : Part
unmade_part = record { heard = unheard; verdict = None; judged_ms = None }

-- a move ends the verdict's run; it does not clear the clock
abbrev pub ended_by : Moved → Option Verdict → Option Verdict
ended_by moved v = run_ended v
ended_by stayed v = v

abbrev pub claim_done : Part → Outcome (Body Heard) Moved → Outcome (Body Part) Out
claim_done p (refuse n) = refuse n
claim_done p (accept b m) = accept (record { part = record { heard = b.part; verdict = ended_by m p.verdict; judged_ms = p.judged_ms }; cells = b.cells }) (generation_is b.part.generation)

abbrev pub position_done : Part → Outcome (Body Heard) (Unit {0}) → Outcome (Body Part) Out
position_done p (refuse n) = refuse n
position_done p (accept b u) = accept (record { part = record { heard = b.part; verdict = p.verdict; judged_ms = p.judged_ms }; cells = b.cells }) done

abbrev pub judging_of : Heard → List ℕ → ℕ → ℕ → Judgment
judging_of h l now aircraft = judge_of h.site h.even h.odd l now aircraft

-- (02, Item 3) The row keeps the now_ms of its last accepted judging.
abbrev pub judged_part : Part → ℕ → Judgment → Part
judged_part p now j = record { heard = p.heard; verdict = judged_next p.verdict j; judged_ms = Some now }

-- Refused: 9 when too soon, asked after question 3.
abbrev pub judging_done : Body Part → ℕ → Judgment → Outcome (Body Part) Out
judging_done s now j = cond (too_soon s.part.judged_ms now) (refuse 9) (accept (record { part = judged_part s.part now j; cells = s.cells }) (judgment_is j))

-- 7: (check) Was the row judged since it was made?
abbrev pub check_done : Body Part → Option Verdict → Outcome (Body Part) Out
check_done s None = refuse 7
check_done s (Some v) = accept s (says (says_verdict v))

-- what a call does to its key's row; a take-out's row is freed (`kind`)
abbrev pub row_act : Key → Body Part → Act → Outcome (Body Part) Out
row_act k s (claim c) = claim_done s.part (claimed s.part.heard s.cells c)
row_act k s (position p) = position_done s.part (positioned s.part.heard s.cells p)
row_act k s (judging now aircraft) = judging_done s now (judging_of s.part.heard s.cells now aircraft)
row_act k s check = check_done s s.part.verdict
row_act k s take_out = accept s (freed k)

-- a row of the siting watch; question 2 asks each held site and each held distance
abbrev pub siting : Rowed Act Out
siting = record {
  Part = Part;
  form = record { unmade = unmade_part; sound = λ p. site_fits p.heard.site && verdict_fits p.verdict; width = width; blank = empty_cells };
  act = row_act;
}

-- THE SEVEN CALLS: fresh, drop-oldest, and the five with a key
abbrev pub fresh_call : Watch Part → Step (Watch Part) Out
fresh_call w = fresh_step siting.form done w

abbrev pub drop_oldest : Watch Part → Step (Watch Part) Out
drop_oldest w = drop_step siting.form freed w

abbrev pub call_on : Watch Part → Key → Act → Step (Watch Part) Out
call_on w k a = watch_step kind siting w (record { key = k; act = a })
