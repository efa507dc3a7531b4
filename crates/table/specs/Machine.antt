-- A key's calls: what a call does to the key's row, its answer, and a list of calls with their answers. Definitions only.
-- Act are the calls' arguments without the key, Out what an accepted call says: both are parameters, and so is what a row holds.
use Rattle.std.specs.Prelude.{ℕ, Bool, true, false, ◌&&◌, List, [], ◌∷◌, eqb, Option}

-- A key is 32 bytes.
abbrev pub Key : Type 0
Key = List ℕ

abbrev pub same : Key → Key → Bool
same [] [] = true
same [] (b ∷ l) = false
same (a ∷ k) [] = false
same (a ∷ k) (b ∷ l) = eqb a b && same k l

-- What an accepted call does with its key's row: it makes one if there is none and marks it (claim), it marks it (position), it
-- does neither (judging, check), or it frees it (take-out).
pub data Kind : Type 0 where
  enters uses looks leaves : Kind

-- What a row answers to a call: a refusal by its number, or the row's next state and what is said.
pub data Outcome (S O : Type 0) : Type 0 where
  refuse : ℕ → Outcome S O
  accept : S → O → Outcome S O

-- One receiver's machine: its states, the state of a fresh row, and what a call does.
pub record Machine (Act Out : Type 0) : Type 1 where
  pub State : Type 0
  pub fresh : State
  pub act : Key → State → Act → Outcome State Out

pub record Call (Act : Type 0) : Type 0 where
  pub key : Key
  pub act : Act

-- A call's answer: refused with a number; or accepted, with the key that it pushed out or none, and what is said.
pub data Answer (Out : Type 0) : Type 0 where
  refused : ℕ → Answer Out
  said : Option Key → Out → Answer Out

pub record Step (W Out : Type 0) : Type 0 where
  pub next : W
  pub answer : Answer Out

-- a call of a list, with its answer
pub record Event (Act Out : Type 0) : Type 0 where
  pub call : Call Act
  pub answer : Answer Out

-- the calls of a list in turn, each from what the one before left, with their answers
abbrev pub history : {W Act Out : Type 0} → (W → Call Act → Step W Out) → W → List (Call Act) → List (Event Act Out)
history step w [] = []
history step w (c ∷ cs) = record { call = c; answer = (step w c).answer } ∷ history step (step w c).next cs

-- what a list of calls leaves
abbrev pub after : {W Act Out : Type 0} → (W → Call Act → Step W Out) → W → List (Call Act) → W
after step w [] = w
after step w (c ∷ cs) = after step (step w c).next cs
