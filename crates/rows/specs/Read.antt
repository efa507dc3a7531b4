-- The lent rows, cells and ends, read as the watch of 01, 'Seven calls, seven questions'; and what a look at them tells. Definitions only.
use Rattle.std.specs.Prelude.{◌≡◌, ℕ, Bool, cond, List, map, length, Result, Err}
use Rattle.table.specs.Machine as M
use Rattle.table.specs.Rows as T
use Rattle.table.specs.Rows.{Watch, Form}
use Rattle.table.specs.Questions.{question1, question2, find_row}
use Rattle.receiver.specs.declared.Part.{Part}
use Rattle.receiver.specs.Calls.{siting, unmade_part}
use Rattle.scans.specs.declared.Key.{Key}
use Rattle.rows.specs.declared.Row.{Row}
use Rattle.scans.specs.declared.Ends.{Ends}
use Rattle.scans.specs.Ends.{ends_of, ends_is}
use Rattle.scans.specs.Scan.{row_or_no}
use Rattle.table.specs.declared.Refusal.{Refusal}
use Rattle.table.specs.declared.Refusal.TheVariants as R

-- a row of the siting watch
abbrev pub form : Form Part
form = siting.form

-- what question 2 asks of one row's part
abbrev pub fits : Part → Bool
fits p = form.sound p

abbrev pub row_is : Row → T.Row Part
row_is r = record { key = r.key; part = r.part; prev = r.prev; next = r.next }

abbrev pub watch_of : List Row → List ℕ → Ends → Watch Part
watch_of xs ys e = record { rows = map row_is xs; cells = ys; ends = ends_of e }

abbrev pub watch_is : List Row → List ℕ → List ℕ → Watch Part
watch_is xs ys ws = record { rows = map row_is xs; cells = ys; ends = ends_is ws }

-- QUESTIONS 1, 2 AND 3 IN ONE: the number of the first no, or the row
abbrev pub looked_in : Watch Part → M.Key → Result ℕ Refusal
looked_in w k = cond (question1 form w) (cond (question2 form w) (row_or_no (find_row unmade_part w.rows (length w.rows) k w.ends.head)) (Err R.NotInOrder)) (Err R.Sizes)

-- for any m cells
abbrev pub Looked : List Row → ℕ → Ends → Key → Result ℕ Refusal → Type 0
Looked xs m e k r = (ys : List ℕ) → length ys ≡ m → r ≡ looked_in (watch_of xs ys e) k.bytes
