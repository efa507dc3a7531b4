-- A judging's answer as a number, for the comparison runs. What is given by a tag is sites/Sites.given. Definitions only.
use Rattle.sites.specs.declared.Site.{Site}
use Rattle.std.specs.Prelude.{ℕ, ◌+◌, ◌*◌, false, cond, List, eqb, ℤ, pos, Float, length, Option}
use Rattle.std.specs.Float.{fin}
use Rattle.near_field.specs.declared.Judgment.{Judgment}
use Rattle.near_field.specs.declared.Judgment.TheVariants.{Unjudged, Fits, Wrong}
use Rattle.near_field.specs.declared.Evidence.{Evidence}
use Rattle.near_field.specs.declared.Evidence.TheVariants.{Horizon, NearField, NothingNear}
use Rattle.judge.specs.Judging.{judge_of}

abbrev pub evidence_number : Evidence → ℕ
evidence_number Horizon = 1
evidence_number NearField = 2
evidence_number NothingNear = 3

-- Unjudged 0, Fits 1, Wrong: 4 × distance + the evidence's number
abbrev pub judgment_number : Judgment → ℕ
judgment_number Unjudged = 0
judgment_number Fits = 1
judgment_number (Wrong off by) = 4 * off + evidence_number by

abbrev pub zero_degrees : Float
zero_degrees = fin false 0 (pos 0)

-- a judging looks at no degrees
abbrev pub without_degrees : Option ℤ → Site
without_degrees altitude = record { lat = zero_degrees; lon = zero_degrees; alt_m = altitude }

-- 2 where the cells are not 3,344
unfoldable pub judged_number : List ℕ → Option Site → Option ℕ → Option ℕ → ℕ → ℕ → ℕ
judged_number cells site even odd now aircraft = cond (eqb (length cells) 3344) (judgment_number (judge_of site even odd cells now aircraft)) 2
