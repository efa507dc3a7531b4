-- What the code's answers say: for each case 01's number, or the row's part and cells and what is said. Definitions only.
use Rattle.std.specs.Prelude.{ℕ, ◌+◌, cond, List, replicate, slice_index, slice_set, Result, Ok, Err}
use Rattle.std.proofs.lemmas.List.Edits.{sets}
use Rattle.table.specs.Machine.{Outcome, refuse, accept}
use Rattle.table.specs.Watch.{Body}
use Rattle.table.specs.Refusals.{number_of}
use Rattle.table.specs.declared.Refusal.{Refusal}
use Rattle.cells.specs.Cells.{empty_word, added_word}
use Rattle.heard.specs.declared.Heard.{Heard}
use Rattle.heard.specs.declared.Claiming.{Claiming}
use Rattle.heard.specs.declared.counting.Counting.{Counting}
use Rattle.heard.specs.Heard.{half, empty_cells, Moved, moved, stayed}

-- `set_site`, of a row whose cells are l
abbrev pub claiming_is : Result Claiming Refusal → List ℕ → Outcome (Body Heard) Moved
claiming_is (Err r) l = refuse (number_of r)
claiming_is (Ok c) l = accept (record { part = c.heard; cells = cond c.moved empty_cells l }) (cond c.moved moved stayed)

-- `count`: the half emptied if its id is newer or the first, then one position more
unfoldable pub half_before : Counting → List ℕ → List ℕ
half_before c l = cond c.newer (sets l c.start (replicate half empty_word)) l

unfoldable pub counting_is : Counting → List ℕ → List ℕ
counting_is c l = slice_set (half_before c l) (c.start + c.place) (added_word (slice_index (half_before c l) (c.start + c.place)) c.low c.bit)

-- `hear`
abbrev pub hearing_is : Result Counting Refusal → List ℕ → Outcome (Body Heard) (Unit {0})
hearing_is (Err r) l = refuse (number_of r)
hearing_is (Ok c) l = accept (record { part = c.heard; cells = counting_is c l }) tt
