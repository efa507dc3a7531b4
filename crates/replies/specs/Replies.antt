-- The answers of the seven calls as numbers, since no enum crosses to C; of the arguments, what is given by a tag is sites/Sites.given. Definitions only.
use Rattle.std.specs.Prelude.{◌≡◌, ℕ, List, [], ◌∷◌, Some, None, Option}
use Rattle.table.specs.Machine as M
use Rattle.table.specs.Machine.{Step, refused, said}
use Rattle.table.specs.Rows.{Watch}
use Rattle.near_field.specs.declared.Judgment.{Judgment}
use Rattle.near_field.specs.declared.Judgment.TheVariants as Judgments
use Rattle.near_field.specs.declared.Evidence.{Evidence}
use Rattle.near_field.specs.declared.Evidence.TheVariants as Evidences
use Rattle.receiver.specs.declared.Part.{Part}
use Rattle.verdicts.specs.declared.CheckState.{CheckState}
use Rattle.verdicts.specs.declared.CheckState.TheVariants as States
use Rattle.receiver.specs.Calls.{Out, generation_is, judgment_is, says, freed, done}
use Rattle.rows.specs.Read.{watch_is}
use Rattle.flat.specs.Table.{rows_of, Left}
use Rattle.packing.specs.Words.{key_words}

-- ANSWERS: nine numbers. What it is (0 refused, 1 a generation, 2 a judgment, 3 a state, 4 the key freed, 5 accepted), its value, a distance, the
-- evidence, whether a key was pushed out, and a key's four words; what an answer has not is 0.
abbrev pub evidence_word : Evidence → ℕ
evidence_word Evidences.Horizon = 1
evidence_word Evidences.NearField = 2
evidence_word Evidences.NothingNear = 3

abbrev pub plain : ℕ → ℕ → ℕ → ℕ → List ℕ
plain what value off by = what ∷ value ∷ off ∷ by ∷ 0 ∷ 0 ∷ 0 ∷ 0 ∷ 0 ∷ []

abbrev pub keyed : ℕ → ℕ → ℕ → M.Key → List ℕ
keyed what value pushed k = what ∷ value ∷ 0 ∷ 0 ∷ pushed ∷ key_words k

-- Unjudged 0, Fits 1, Wrong 2 with the distance
abbrev pub judgment_words : Judgment → List ℕ
judgment_words Judgments.Unjudged = plain 2 0 0 0
judgment_words Judgments.Fits = plain 2 1 0 0
judgment_words (Judgments.Wrong off by) = plain 2 2 off (evidence_word by)

abbrev pub state_words : CheckState → List ℕ
state_words States.Unjudged = plain 3 0 0 0
state_words States.Fits = plain 3 1 0 0
state_words (States.Wrong off) = plain 3 2 off 0

abbrev pub generation_words : Option M.Key → ℕ → List ℕ
generation_words None g = plain 1 g 0 0
generation_words (Some k) g = keyed 1 g 1 k

abbrev pub said_words : Option M.Key → Out → List ℕ
said_words p (generation_is g) = generation_words p g
said_words p (judgment_is j) = judgment_words j
said_words p (says s) = state_words s
said_words p (freed k) = keyed 4 0 0 k
said_words p done = plain 5 0 0 0

abbrev pub answer_words : M.Answer Out → List ℕ
answer_words (refused n) = plain 0 n 0 0
answer_words (said p out) = said_words p out

-- WHAT A CALL COMES TO: the answer's numbers and the watch that is left are the call's, and the words of the rows are what it leaves
unfoldable pub Told : List ℕ → List ℕ → List ℕ → List ℕ → List ℕ → Step (Watch Part) Out → Type 0
Told answer before after ys ws s = (answer ≡ answer_words s.answer) × (watch_is (rows_of after) ys ws ≡ s.next) × Left s.answer before after
