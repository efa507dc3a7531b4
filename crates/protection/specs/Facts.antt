-- What users ask of every list from a fresh watch, beside demand 3. Definitions only; proofs/Facts proves both. That two watches given the same list give
-- the same answers and the same bytes needs no theorem: a call is a function of the watch and its arguments (`any_step`).
use Rattle.std.specs.Prelude.{◌≡◌, ℕ, ◌≤◌, true, List, [], ◌∷◌, None}
use Rattle.table.specs.Machine.{Key, Call, Step}
use Rattle.table.specs.Rows.{Watch}
use Rattle.table.specs.Questions.{question1, question2}
use Rattle.table.specs.Watch.{fresh_watch, watch_step}
use Rattle.receiver.specs.declared.Part.{Part}
use Rattle.receiver.specs.Calls.{Act, Out, kind, siting, fresh_call, drop_oldest}
use Rattle.protection.specs.Marks.{Stays}
use Rattle.protection.specs.Promise.{marks_key, told}

-- any of the seven calls
pub data AnyCall : Type 0 where
  with_key : Call Act → AnyCall
  fresh : AnyCall
  dropping : AnyCall

abbrev pub any_step : Watch Part → AnyCall → Step (Watch Part) Out
any_step w (with_key c) = watch_step kind siting w c
any_step w fresh = fresh_call w
any_step w dropping = drop_oldest w

abbrev pub any_after : Watch Part → List AnyCall → Watch Part
any_after w [] = w
any_after w (c ∷ cs) = any_after (any_step w c).next cs

-- Questions 1 and 2 are never answered no: any list of the seven calls from a fresh watch leaves one that passes both.
abbrev pub NeverNo : Type 0
NeverNo =
    (C : ℕ) → 1 ≤ C → C ≤ 4096 → (calls : List AnyCall) →
    (question1 siting.form (any_after (fresh_watch siting.form C) calls) ≡ true) × (question2 siting.form (any_after (fresh_watch siting.form C) calls) ≡ true)

-- No row is pushed out while fewer than C others were marked since its key's latest mark, whatever came before.
abbrev pub NotPushedOut : Type 0
NotPushedOut = (C : ℕ) → 1 ≤ C → C ≤ 4096 → (k : Key) (calls : List (Call Act)) → Stays marks_key C k None (told C calls)
