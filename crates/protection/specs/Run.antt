-- A run of judgments in demand 3's words, and what check says over it (01, 'Verdict and run', 'A receiver's card'). Definitions only.
use Rattle.std.specs.Prelude.{◌≡◌, ℕ, Bool, true, false, not, cond, ◌&&◌, ◌||◌, List, [], ◌∷◌, ◌++◌}
use Rattle.near_field.specs.declared.Judgment.{Judgment}
use Rattle.near_field.specs.declared.Judgment.TheVariants.{Unjudged, Fits, Wrong}
use Rattle.verdicts.specs.declared.CheckState.{CheckState}
use Rattle.verdicts.specs.declared.CheckState.TheVariants as Says

-- A run of judgments, THE NEWEST FIRST.
abbrev pub Run : Type 0
Run = List Judgment

abbrev pub is_wrong : Judgment → Bool
is_wrong (Wrong d e) = true
is_wrong Fits = false
is_wrong Unjudged = false

abbrev pub is_other : Judgment → Bool
is_other j = not (is_wrong j)

-- the three newest are such
abbrev pub three_newest : (Judgment → Bool) → Run → Bool
three_newest p [] = false
three_newest p (a ∷ []) = false
three_newest p (a ∷ b ∷ []) = false
three_newest p (a ∷ b ∷ c ∷ r) = p a && p b && p c

-- nowhere three others in a row
abbrev pub no_three_other : Run → Bool
no_three_other [] = true
no_three_other (j ∷ r) = not (three_newest is_other (j ∷ r)) && no_three_other r

-- The run holds three Wrongs in a row with no three others in a row after them.
pub record HeldWrong (r : Run) : Type 0 where
  pub later : Run
  pub earlier : Run
  pub split : r ≡ later ++ earlier
  pub three : three_newest is_wrong earlier ≡ true
  pub quiet : no_three_other later ≡ true

-- The same as a test: going back from the newest, three Wrongs in a row come before three others in a row. (proofs/Runs shows it so.)
abbrev pub held : Run → Bool
held [] = false
held (j ∷ r) = three_newest is_wrong (j ∷ r) || (not (three_newest is_other (j ∷ r)) && held r)

-- the distance of the run's last Wrong
abbrev pub last_wrong : Run → ℕ
last_wrong [] = 0
last_wrong (Wrong d e ∷ r) = d
last_wrong (Fits ∷ r) = last_wrong r
last_wrong (Unjudged ∷ r) = last_wrong r

-- Check over a run, whose newest judgment is j: wrong, with that distance, when held wrong, else fits if the last judging was Fits, else unjudged.
abbrev pub plain : Judgment → CheckState
plain Fits = Says.Fits
plain Unjudged = Says.Unjudged
plain (Wrong d e) = Says.Unjudged

abbrev pub says_of : Judgment → Run → CheckState
says_of j r = cond (held (j ∷ r)) (Says.Wrong (last_wrong (j ∷ r))) (plain j)
