-- What is asked of one row of the lent words. Definitions only.
use Rattle.std.specs.Prelude.{ℕ, ◌*◌, Bool, false, cond, List, leb, length, take, drop}
use Rattle.table.specs.Machine.{same}
use Rattle.rows.specs.declared.Row.{Row}
use Rattle.rows.specs.Read.{fits}
use Rattle.flat.specs.Words.{words_of_row, row_fits}
use Rattle.flat.specs.Table.{rows_of}
use Rattle.scans.specs.declared.Links.{Links}
use Rattle.glances.specs.declared.Glance.{Glance}

-- the words of row i, and whether there are any and all fit
abbrev pub words_at : List ℕ → ℕ → List ℕ
words_at ws i = take words_of_row (drop (words_of_row * i) ws)

unfoldable pub fits_at : List ℕ → ℕ → Bool
fits_at ws i = cond (leb (length (rows_of ws)) i) false (row_fits (words_at ws i))

abbrev pub links_of : Row → Links
links_of r = record { prev = r.prev; next = r.next }

-- in the search for a key
abbrev pub glance_of : List ℕ → Row → Glance
glance_of k r = record { prev = r.prev; next = r.next; sound = fits r.part; same = same k r.key }
