-- The questions of a call by their numbers (01, 'Seven calls, seven questions'; 8 and 9: 02, Items 1 and 3). Definitions only.
use Rattle.std.specs.Prelude.{ℕ}
use Rattle.table.specs.declared.Refusal.{Refusal}
use Rattle.table.specs.declared.Refusal.TheVariants as R

abbrev pub number_of : Refusal → ℕ
number_of R.Sizes = 1
number_of R.NotInOrder = 2
number_of R.NotHeld = 3
number_of R.Degrees = 4
number_of R.NoSite = 5
number_of R.TooOld = 6
number_of R.NeverJudged = 7
number_of R.Turn = 8
number_of R.TooSoon = 9
