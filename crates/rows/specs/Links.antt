-- What the steps on links come to on the lent rows. A store at a link that is no row changes nothing, so that nothing here asks if a link is none.
-- Definitions only; proofs/Chains shows them to be the steps of crate `table`.
use Rattle.std.specs.Prelude.{ℕ, zero, suc, ◌+◌, true, false, cond, List, [], ◌∷◌, eqb, ltb, get_or, set, Option, Some, None}
use Rattle.table.specs.Rows.{NONE, zero_key}
use Rattle.receiver.specs.declared.Part.{Part}
use Rattle.receiver.specs.Calls.{unmade_part}
use Rattle.scans.specs.declared.Key.{Key}
use Rattle.rows.specs.declared.Row.{Row}
use Rattle.scans.specs.declared.Ends.{Ends}
use Rattle.rows.specs.declared.Seat.{Seat}
use Rattle.scans.specs.Ends.{out_ends, linked_ends, with_free}

-- ROWS BY VALUE
abbrev pub unmade : ℕ → Row
unmade n = record { key = zero_key; part = unmade_part; prev = NONE; next = n }

abbrev pub blank : Row
blank = unmade NONE

abbrev pub with_links : Row → ℕ → ℕ → Row
with_links r p n = record { key = r.key; part = r.part; prev = p; next = n }

abbrev pub with_next : Row → ℕ → Row
with_next r n = with_links r r.prev n

abbrev pub with_prev : Row → ℕ → Row
with_prev r p = with_links r p r.next

abbrev pub with_part : Row → Part → Row
with_part r p = record { key = r.key; part = p; prev = r.prev; next = r.next }

abbrev pub made_row : Row → Key → Part → Row
made_row r k p = record { key = k.bytes; part = p; prev = r.prev; next = r.next }

-- STEPS ON LINKS
abbrev pub nexted : List Row → ℕ → ℕ → List Row
nexted rows i n = set rows i (with_next (get_or rows i blank) n)

abbrev pub preved : List Row → ℕ → ℕ → List Row
preved rows i p = set rows i (with_prev (get_or rows i blank) p)

abbrev pub before : List Row → ℕ → ℕ
before rows i = (get_or rows i blank).prev

abbrev pub after : List Row → ℕ → ℕ
after rows i = (get_or rows i blank).next

abbrev pub unlinked_rows : List Row → ℕ → List Row
unlinked_rows rows i = preved (nexted rows (before rows i) (after rows i)) (after rows i) (before rows i)

abbrev pub unlinked_ends : List Row → Ends → ℕ → Ends
unlinked_ends rows e i = out_ends e (before rows i) (after rows i)

abbrev pub linked_rows : List Row → Ends → ℕ → List Row
linked_rows rows e i = nexted (set rows i (with_links (get_or rows i blank) e.tail NONE)) e.tail i

abbrev pub released_rows : List Row → Ends → ℕ → List Row
released_rows rows e i = set (unlinked_rows rows i) i (unmade e.free)

abbrev pub released_ends : List Row → Ends → ℕ → Ends
released_ends rows e i = with_free (unlinked_ends rows e i) i

abbrev pub touched_rows : List Row → Ends → ℕ → List Row
touched_rows rows e i = linked_rows (unlinked_rows rows i) (unlinked_ends rows e i) i

abbrev pub touched_ends : List Row → Ends → ℕ → Ends
touched_ends rows e i = linked_ends (unlinked_ends rows e i) i

-- a part stored
abbrev pub parted_rows : List Row → ℕ → Part → List Row
parted_rows rows i p = set rows i (with_part (get_or rows i blank) p)

abbrev pub marked_rows : List Row → Ends → ℕ → Part → List Row
marked_rows rows e i p = touched_rows (parted_rows rows i p) e i

abbrev pub marked_ends : List Row → Ends → ℕ → Part → Ends
marked_ends rows e i p = touched_ends (parted_rows rows i p) e i

-- A ROW FOR A KEY
abbrev pub room_rows : List Row → Ends → List Row
room_rows rows e = cond (eqb e.free NONE) (released_rows rows e e.head) rows

abbrev pub room_ends : List Row → Ends → Ends
room_ends rows e = cond (eqb e.free NONE) (released_ends rows e e.head) e

abbrev pub taken_rows : List Row → Ends → Key → Part → List Row
taken_rows rows e k p = linked_rows (set rows e.free (made_row (get_or rows e.free blank) k p)) (with_free e (after rows e.free)) e.free

abbrev pub taken_ends : List Row → Ends → Ends
taken_ends rows e = linked_ends (with_free e (after rows e.free)) e.free

abbrev pub entered_rows : List Row → Ends → Key → Part → List Row
entered_rows rows e k p = taken_rows (room_rows rows e) (room_ends rows e) k p

abbrev pub entered_ends : List Row → Ends → Ends
entered_ends rows e = taken_ends (room_rows rows e) (room_ends rows e)

abbrev pub kept_seat : Ends → ℕ → Seat
kept_seat d i = record { ends = d; at = i; made = false; pushed = None }

-- with no row free the key of the oldest is pushed out
abbrev pub made_seat : Ends → Row → Ends → Seat
made_seat e old d = record { ends = d; at = d.tail; made = true; pushed = cond (eqb e.free NONE) (Some old.key) None }

-- row i has the key, or none: what a claim goes on from
abbrev pub part_at : List Row → Option ℕ → Part
part_at rows None = unmade_part
part_at rows (Some i) = (get_or rows i blank).part

abbrev pub seat_of : List Row → Ends → Option ℕ → Part → Seat
seat_of rows e None p = made_seat e (get_or rows e.head blank) (entered_ends rows e)
seat_of rows e (Some i) p = kept_seat (marked_ends rows e i p) i

abbrev pub seated_rows : List Row → Ends → Option ℕ → Key → Part → List Row
seated_rows rows e None k p = entered_rows rows e k p
seated_rows rows e (Some i) k p = marked_rows rows e i p

-- FRESH: row i of n
abbrev pub fresh_of : ℕ → ℕ → Row
fresh_of n i = unmade (cond (ltb i 4095) (cond (eqb (i + 1) n) NONE (i + 1)) NONE)

-- k rows from the i-th of n on
abbrev pub fresh_from : ℕ → ℕ → ℕ → List Row
fresh_from n i zero = []
fresh_from n i (suc k) = fresh_of n i ∷ fresh_from n (suc i) k
