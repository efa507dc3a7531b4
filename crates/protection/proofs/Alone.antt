-- A machine that serves one key, alone: what a card is, whatever it holds.
use Rattle.std.specs.Prelude.{Option, None, Some}
use mathlib.Core.Bool.{Bool, true, false}
use mathlib.Core.List.{List, [], ◌∷◌}
use Rattle.table.specs.Machine.{Key, Kind, enters, uses, looks, leaves, Outcome, refuse, accept, Machine, Answer, refused, said, Step}

-- which kinds mark
abbrev pub marks : Kind → Bool
marks enters = true
marks uses = true
marks looks = false
marks leaves = false

-- The machine alone: blank (none) or filled.
module _ {Act Out : Type 0} (kind : Act → Kind) (M : Machine Act Out) where
  abbrev pub kept : Kind → M.State → Option M.State
  kept enters s = Some s
  kept uses s = Some s
  kept looks s = Some s
  kept leaves s = None

  -- a refusal leaves the card as it is
  abbrev pub settle : Kind → Option M.State → Outcome M.State Out → Step (Option M.State) Out
  settle κ m (refuse n) = record { next = m; answer = refused n }
  settle κ m (accept s o) = record { next = kept κ s; answer = said None o }

  -- a call on a blank card: only a claim fills it, any other call is refused with 3
  abbrev pub blank_call : Kind → Outcome M.State Out → Step (Option M.State) Out
  blank_call enters r = settle enters None r
  blank_call uses r = record { next = None; answer = refused 3 }
  blank_call looks r = record { next = None; answer = refused 3 }
  blank_call leaves r = record { next = None; answer = refused 3 }

  abbrev pub alone : Key → Option M.State → Act → Step (Option M.State) Out
  alone k None a = blank_call (kind a) (M.act k M.fresh a)
  alone k (Some s) a = settle (kind a) (Some s) (M.act k s a)

  -- the answers to a receiver's own calls
  abbrev pub answers_alone : Key → Option M.State → List Act → List (Answer Out)
  answers_alone k m [] = []
  answers_alone k m (a ∷ l) = (alone k m a).answer ∷ answers_alone k (alone k m a).next l

  -- the card that they leave
  abbrev pub alone_after : Key → Option M.State → List Act → Option M.State
  alone_after k m [] = m
  alone_after k m (a ∷ l) = alone_after k (alone k m a).next l
