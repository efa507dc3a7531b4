-- How the contracts and the theorem of demand 3 meet: for every list of calls on a lent watch, each from what the one before left and each as its
-- contract says, the answers are those of the definitions' `history` (`answers_are`). The theorem of crate `protection` speaks of that history. So it
-- speaks of what was run: on a lent watch that `fresh` left, a protected receiver was answered as its card answers its calls alone (`kept`).
use Rattle.std.specs.Prelude.{None}
use mathlib.Core.Path.{◌≡◌, refl, ◌∙◌, ap, ap₂}
use Prim.Native.Nat.{ℕ, ◌≤◌}
use mathlib.Core.List.{List, [], ◌∷◌, map}
use Rattle.table.specs.Machine as M
use Rattle.table.specs.Machine.{Call, Step, Event, history}
use Rattle.table.specs.Rows.{Watch}
use Rattle.table.specs.Watch.{watch_step, fresh_watch}
use Rattle.receiver.specs.declared.Part.{Part}
use Rattle.receiver.specs.Calls.{Act, Out, kind, siting, call_on}
use Rattle.protection.specs.Marks.{calls_of, answers_to}
use Rattle.protection.specs.Card.{card_answers}
use Rattle.protection.specs.Promise.{Safe}
use Rattle.protection.proofs.Promised.{promise}
use Rattle.rows.specs.declared.Row.{Row}
use Rattle.rows.specs.Read.{watch_is}
use Rattle.moves.specs.Answers.{Answer, answer_is, outcome}

-- a call that was run: what it answered, and the rows, cells and ends that it left
pub record Run : Type 0 where
  pub call : Call Act
  pub answer : Answer
  pub rows : List Row
  pub cells : List ℕ
  pub ends : List ℕ

-- each run as the contracts of claim, position, judging, check and take_out say
abbrev pub Met : List Row → List ℕ → List ℕ → List Run → Type 0
Met xs ys ws [] = Unit {0}
Met xs ys ws (r ∷ rs) = (outcome r.answer r.rows r.cells r.ends ≡ call_on (watch_is xs ys ws) r.call.key r.call.act) × Met r.rows r.cells r.ends rs

abbrev pub event_of : Run → Event Act Out
event_of r = record { call = r.call; answer = answer_is r.answer }

pub answers_are : (xs : List Row) (ys ws : List ℕ) (rs : List Run) → Met xs ys ws rs → map event_of rs ≡ history (watch_step kind siting) (watch_is xs ys ws) (map (λ (r : Run). r.call) rs)
answers_are xs ys ws [] m = refl
answers_are xs ys ws (r ∷ rs) m =
    let step = call_on (watch_is xs ys ws) r.call.key r.call.act in
    let said : answer_is r.answer ≡ step.answer = ap (λ (s : Step (Watch Part) Out). s.answer) m.0 in
    let left : watch_is r.rows r.cells r.ends ≡ step.next = ap (λ (s : Step (Watch Part) Out). s.next) m.0 in
    ap₂ {C = List (Event Act Out)} (λ (a : M.Answer Out) (es : List (Event Act Out)). record { call = r.call; answer = a } ∷ es) said
    (answers_are r.rows r.cells r.ends rs m.1 ∙ ap (λ (v : Watch Part). history (watch_step kind siting) v (map (λ (x : Run). x.call) rs)) left)

abbrev pub calls_in : List Run → List (Call Act)
calls_in rs = map (λ (r : Run). r.call) rs

-- what `fresh` leaves (its contract) is the fresh watch of C rows; fewer than C others were marked since k's latest mark at every point
pub kept : (C : ℕ) → 1 ≤ C → C ≤ 4096 → (k : M.Key) (xs : List Row) (ys ws : List ℕ) (rs : List Run) → watch_is xs ys ws ≡ fresh_watch siting.form C → Met xs ys ws rs → Safe C k (calls_in rs)
    → answers_to k (map event_of rs) ≡ card_answers k None (calls_of k (calls_in rs))
kept C one most k xs ys ws rs fresh m safe =
    ap (answers_to k) (answers_are xs ys ws rs m ∙ ap (λ (w : Watch Part). history (watch_step kind siting) w (calls_in rs)) fresh) ∙ promise.answers C one most k (calls_in rs) safe
