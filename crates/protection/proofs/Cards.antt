-- A row alone answers as a card (`row_is_card`). The card's ten clauses are a machine (`card_step_lem`), and the row that holds what a card holds, its verdict the one that the
-- card's run leaves, does at each call what the card does (`acts_alike`).
use Rattle.std.specs.Prelude.{Some, None, Option}
use mathlib.Core.Path.{◌≡◌, refl, ap, ap₂, ◌∙◌}
use Prim.Native.Nat.{ℕ}
use mathlib.Core.Bool.{Bool, true, false, cond}
use mathlib.Core.List.{List, [], ◌∷◌}
use Rattle.table.specs.Machine.{Key, enters, uses, looks, Outcome, refuse, accept, Machine, Answer, Step}
use Rattle.table.specs.Watch.{Body, rowed_machine}
use Rattle.table.proofs.Tests.{by_bool}
use Rattle.near_field.specs.declared.Judgment.{Judgment}
use Rattle.near_field.specs.declared.Judgment.TheVariants.{Unjudged, Fits, Wrong}
use Rattle.heard.specs.declared.Heard.{Heard}
use Rattle.receiver.specs.declared.Part.{Part}
use Rattle.verdicts.specs.declared.Verdict.{Verdict}
use Rattle.verdicts.specs.Verdict.{wrongly, otherwise, judged_once, goes_on, too_soon}
use Rattle.heard.specs.Heard.{empty_cells, unheard, Moved, moved, stayed, claimed, positioned}
use Rattle.receiver.specs.Calls.{Act, claim, position, judging, check, take_out, Out, generation_is, judgment_is, says, freed, done, kind, ended_by, claim_done, position_done, judging_of, judging_done, check_done, row_act, siting}
use Rattle.protection.specs.Run.{Run, says_of}
use Rattle.protection.specs.Card.{Card, filled, noted, card_claimed, card_placed, judged_card, card_judged, card_checked, card_step, card_answers, card_after}
use Rattle.protection.proofs.Alone.{settle, alone, answers_alone, alone_after}
use Rattle.protection.proofs.Machines.{on_state, answers_alike}
use Rattle.protection.proofs.Counters.{verdict_of, says_agree}

-- THE CARD AS A MACHINE
abbrev claim_on : Card → Outcome (Body Heard) Moved → Outcome Card Out
claim_on c (refuse n) = refuse n
claim_on c (accept b v) = accept (record { heard = b.part; cells = b.cells; run = c.run; note = noted v c.note; judged_ms = c.judged_ms }) (generation_is b.part.generation)

abbrev place_on : Card → Outcome (Body Heard) (Unit {0}) → Outcome Card Out
place_on c (refuse n) = refuse n
place_on c (accept b u) = accept (record { heard = b.part; cells = b.cells; run = c.run; note = c.note; judged_ms = c.judged_ms }) done

abbrev judge_on : Card → ℕ → Judgment → Outcome Card Out
judge_on c now j = cond (too_soon c.judged_ms now) (refuse 9) (accept (judged_card c now j) (judgment_is j))

abbrev check_on : Card → Run → Outcome Card Out
check_on c [] = refuse 7
check_on c (j ∷ r) = accept c (says (says_of j r))

abbrev card_act : Key → Card → Act → Outcome Card Out
card_act k c (claim x) = claim_on c (claimed c.heard c.cells x)
card_act k c (position p) = place_on c (positioned c.heard c.cells p)
card_act k c (judging now aircraft) = judge_on c now (judging_of c.heard c.cells now aircraft)
card_act k c check = check_on c c.run
card_act k c take_out = accept c (freed k)

abbrev pub card_machine : Machine Act Out
card_machine = record { State = Card; fresh = filled; act = card_act }

claim_settles : (m : Option Card) (c : Card) (r : Outcome (Body Heard) Moved) → card_claimed m c r ≡ settle kind card_machine enters m (claim_on c r)
claim_settles m c (refuse n) = refl
claim_settles m c (accept b v) = refl

place_settles : (c : Card) (r : Outcome (Body Heard) (Unit {0})) → card_placed c r ≡ settle kind card_machine uses (Some c) (place_on c r)
place_settles c (refuse n) = refl
place_settles c (accept b u) = refl

judge_settles : (c : Card) (now : ℕ) (j : Judgment) → card_judged c now j ≡ settle kind card_machine looks (Some c) (judge_on c now j)
judge_settles c now j = by_bool (too_soon c.judged_ms now) (λ p. rw p) (λ p. rw p)

check_settles : (c : Card) (r : Run) → card_checked c r ≡ settle kind card_machine looks (Some c) (check_on c r)
check_settles c [] = refl
check_settles c (j ∷ r) = refl

pub card_step_lem : (k : Key) (m : Option Card) (a : Act) → card_step k m a ≡ alone kind card_machine k m a
card_step_lem k None (claim x) = claim_settles None filled (claimed unheard empty_cells x)
card_step_lem k None (position p) = refl
card_step_lem k None (judging now aircraft) = refl
card_step_lem k None check = refl
card_step_lem k None take_out = refl
card_step_lem k (Some c) (claim x) = claim_settles (Some c) c (claimed c.heard c.cells x)
card_step_lem k (Some c) (position p) = place_settles c (positioned c.heard c.cells p)
card_step_lem k (Some c) (judging now aircraft) = judge_settles c now (judging_of c.heard c.cells now aircraft)
card_step_lem k (Some c) check = check_settles c c.run
card_step_lem k (Some c) take_out = refl

pub card_answers_lem : (k : Key) (m : Option Card) (l : List Act) → card_answers k m l ≡ answers_alone kind card_machine k m l
card_answers_lem k m [] = refl
card_answers_lem k m (a ∷ l) =
    let e = card_step_lem k m a in
    ap₂ {C = List (Answer Out)} (λ x r. x ∷ r) (ap (λ (s : Step (Option Card) Out). s.answer) e)
    (card_answers_lem k (card_step k m a).next l ∙ ap (λ (s : Step (Option Card) Out). answers_alone kind card_machine k s.next l) e)

pub card_after_lem : (k : Key) (m : Option Card) (l : List Act) → card_after k m l ≡ alone_after kind card_machine k m l
card_after_lem k m [] = refl
card_after_lem k m (a ∷ l) = card_after_lem k (card_step k m a).next l ∙ ap (λ (s : Step (Option Card) Out). alone_after kind card_machine k s.next l) (card_step_lem k m a)

-- THE ROW THAT HOLDS WHAT A CARD HOLDS
abbrev with_moved : Verdict → Bool → Verdict
with_moved v b = record { last = v.last; wrong_run = v.wrong_run; other_run = v.other_run; wrong_by = v.wrong_by; moved = b }

abbrev verdict_at : Run → Bool → Option Verdict
verdict_at [] b = None
verdict_at (j ∷ r) b = Some (with_moved (verdict_of (j ∷ r)) b)

abbrev row_of : Card → Body Part
row_of c = record { part = record { heard = c.heard; verdict = verdict_at c.run c.note; judged_ms = c.judged_ms }; cells = c.cells }

-- a judging leaves no move
unmoved : (v : Verdict) (j : Judgment) → with_moved (judged_once v j) false ≡ judged_once v j
unfolding wrongly otherwise
unmoved v (Wrong d e) = refl
unmoved v Fits = refl
unmoved v Unjudged = refl

ended_at_lem : (m : Moved) (r : Run) (b : Bool) → ended_by m (verdict_at r b) ≡ verdict_at r (noted m b)
ended_at_lem stayed r b = refl
ended_at_lem moved [] b = refl
ended_at_lem moved (j ∷ r) b = refl

goes_on_lem : (r : Run) (b : Bool) → goes_on (verdict_at r b) ≡ verdict_of (cond b [] r)
goes_on_lem [] true = refl
goes_on_lem [] false = refl
goes_on_lem (j ∷ r) true = refl
goes_on_lem (j ∷ r) false = unmoved (verdict_of r) j

claim_alike : (c : Card) (r : Outcome (Body Heard) Moved) → claim_done (row_of c).part r ≡ on_state row_of (claim_on c r)
claim_alike c (refuse n) = refl
claim_alike c (accept b m) = rw (ended_at_lem m c.run c.note)

place_alike : (c : Card) (r : Outcome (Body Heard) (Unit {0})) → position_done (row_of c).part r ≡ on_state row_of (place_on c r)
place_alike c (refuse n) = refl
place_alike c (accept b u) = refl

judge_alike : (c : Card) (now : ℕ) (j : Judgment) → judging_done (row_of c) now j ≡ on_state row_of (judge_on c now j)
judge_alike c now j = by_bool (too_soon c.judged_ms now) (λ p. rw p) (λ p. rw (p, goes_on_lem c.run c.note, unmoved (verdict_of (cond c.note [] c.run)) j))

check_alike : (s : Body Part) (c : Card) → s ≡ row_of c → (r : Run) (b : Bool) → check_done s (verdict_at r b) ≡ on_state row_of (check_on c r)
check_alike s c e [] b = refl
check_alike s c e (j ∷ r) b = rw (says_agree j r, e)

acts_alike : (k : Key) (c : Card) (a : Act) → row_act k (row_of c) a ≡ on_state row_of (card_act k c a)
acts_alike k c (claim x) = claim_alike c (claimed c.heard c.cells x)
acts_alike k c (position p) = place_alike c (positioned c.heard c.cells p)
acts_alike k c (judging now aircraft) = judge_alike c now (judging_of c.heard c.cells now aircraft)
acts_alike k c check = check_alike (row_of c) c refl c.run c.note
acts_alike k c take_out = refl

-- A ROW ALONE ANSWERS AS ITS CARD
pub row_is_card : (k : Key) (l : List Act) → answers_alone kind (rowed_machine siting) k None l ≡ answers_alone kind card_machine k None l
row_is_card k l = answers_alike kind card_machine (rowed_machine siting) row_of refl acts_alike k l
