-- A watch in a lent piece of memory, and the lines that write it word by word (README, 'A list of calls'). Definitions only.
use Rattle.std.specs.Prelude.{◌≡◌, ℕ, ◌*◌, ◌≤◌, cond, List, [], ◌∷◌, ◌++◌, length, take, drop, replicate, nat_le, nat_lt, slice_set, Result, Ok, Err}
use Rattle.table.specs.Machine as M
use Rattle.table.specs.Rows.{NONE, Watch}
use Rattle.cells.specs.Cells.{empty_word}
use Rattle.receiver.specs.declared.Part.{Part}
use Rattle.rows.specs.declared.Row.{Row}
use Rattle.rows.specs.Links.{blank}
use Rattle.rows.specs.Read.{watch_is}
use Rattle.flat.specs.Table.{rows_of}
use Rattle.readers.specs.declared.Fault.{Fault}
use Rattle.readers.specs.declared.Fault.TheVariants as fault
use Rattle.lending.specs.declared.Size.{Size}
use Rattle.grammar.specs.declared.Change.{Change}
use Rattle.grammar.specs.declared.Change.TheVariants as change

-- the watch is the first 25 × C words of the rows, the first N cells, and the ends
abbrev pub Within : Size → List ℕ → List ℕ → Type 0
Within z xs ys = (25 * z.rows ≤ length xs) × (z.cells ≤ length ys)

abbrev pub rows_in : ℕ → List ℕ → List Row
rows_in c xs = rows_of (take (25 * c) xs)

abbrev pub lent_to : Size → List ℕ → List ℕ → List ℕ → Watch Part
lent_to z xs ys ws = watch_is (rows_in z.rows xs) (take z.cells ys) ws

-- 64 rows and their cells are lent
abbrev pub Room : List ℕ → List ℕ → Type 0
Room xs ys = (1600 ≤ length xs) × (214016 ≤ length ys)

-- what lies behind the rows stays
abbrev pub RowsBecome : ℕ → List Row → List ℕ → List ℕ → Type 0
RowsBecome c rs xs xs' = (rows_in c xs' ≡ rs) × (drop (25 * c) xs' ≡ drop (25 * c) xs)

-- lend C N: C rows as unmade (all links none), N cells of 65,280, ends none
abbrev pub no_ends : List ℕ
no_ends = NONE ∷ NONE ∷ NONE ∷ []

unfoldable pub lendable : ℕ → ℕ → Result Size Fault
lendable c n = cond (nat_le c 64) (cond (nat_le n 214016) (Ok (record { rows = c; cells = n })) (Err fault.TooManyCells)) (Err fault.TooManyRows)

abbrev pub LentBy : Result Size Fault → List ℕ → List ℕ → List ℕ → List ℕ → List ℕ → List ℕ → Type 0
LentBy (Ok z) xs ys ws xs' ys' ws' = RowsBecome z.rows (replicate z.rows blank) xs xs' × (ys' ≡ replicate z.cells empty_word ++ drop z.cells ys) × (ws' ≡ no_ends)
LentBy (Err f) xs ys ws xs' ys' ws' = (xs' ≡ xs) × (ys' ≡ ys) × (ws' ≡ ws)

unfoldable pub Lent : ℕ → ℕ → List ℕ → List ℕ → List ℕ → List ℕ → List ℕ → List ℕ → Result Size Fault → Type 0
Lent c n xs ys ws xs' ys' ws' r = (r ≡ lendable c n) × LentBy r xs ys ws xs' ys' ws'

-- row I KEY ..: row I of the C, whole
unfoldable pub row_there : Size → ℕ → Result (Unit {0}) Fault
row_there z i = cond (nat_lt i z.rows) (Ok tt) (Err fault.NoSuchRow)

abbrev pub RowBy : Result (Unit {0}) Fault → Size → ℕ → Row → List ℕ → List ℕ → Type 0
RowBy (Ok u) z i x xs xs' = RowsBecome z.rows (slice_set (rows_in z.rows xs) i x) xs xs'
RowBy (Err f) z i x xs xs' = xs' ≡ xs

unfoldable pub RowSet : Size → ℕ → Row → List ℕ → List ℕ → Result (Unit {0}) Fault → Type 0
RowSet z i x xs xs' r = (r ≡ row_there z i) × RowBy r z i x xs xs'

-- cell I WORD: cell I of the N
unfoldable pub cell_there : Size → ℕ → Result (Unit {0}) Fault
cell_there z i = cond (nat_lt i z.cells) (Ok tt) (Err fault.NoSuchCell)

abbrev pub cells_by : Result (Unit {0}) Fault → ℕ → ℕ → List ℕ → List ℕ
cells_by (Ok u) i w ys = slice_set ys i w
cells_by (Err f) i w ys = ys

unfoldable pub CellSet : Size → ℕ → ℕ → List ℕ → List ℕ → Result (Unit {0}) Fault → Type 0
CellSet z i w ys ys' r = (r ≡ cell_there z i) × (ys' ≡ cells_by r i w ys)

-- an error leaves the watch and its size as they were
abbrev pub lent_size : Result Size Fault → Size → Size
lent_size (Ok y) z = y
lent_size (Err f) z = z

abbrev pub done_by : Result Size Fault → Result (Unit {0}) Fault
done_by (Ok y) = Ok tt
done_by (Err f) = Err f

unfoldable pub Lends : ℕ → ℕ → Size → List ℕ → List ℕ → List ℕ → Size → List ℕ → List ℕ → List ℕ → Result (Unit {0}) Fault → Type 0
Lends c n z xs ys ws z' xs' ys' ws' r = Lent c n xs ys ws xs' ys' ws' (lendable c n) × (z' ≡ lent_size (lendable c n) z) × (r ≡ done_by (lendable c n))

-- one of the four lines, and the key that it names
abbrev pub AppliedBy : Change → M.Key → Size → List ℕ → List ℕ → List ℕ → Size → List ℕ → List ℕ → List ℕ → Result (Unit {0}) Fault → Type 0
AppliedBy (change.Lend c n) k z xs ys ws z' xs' ys' ws' r = Lends c n z xs ys ws z' xs' ys' ws' r
AppliedBy (change.Row i p a b) k z xs ys ws z' xs' ys' ws' r = RowSet z i (record { key = k; part = p; prev = a; next = b }) xs xs' r × (ys' ≡ ys) × (ws' ≡ ws) × (z' ≡ z)
AppliedBy (change.Cell i w) k z xs ys ws z' xs' ys' ws' r = (xs' ≡ xs) × CellSet z i w ys ys' r × (ws' ≡ ws) × (z' ≡ z)
AppliedBy (change.Ends a b c) k z xs ys ws z' xs' ys' ws' r = (xs' ≡ xs) × (ys' ≡ ys) × (ws' ≡ a ∷ b ∷ c ∷ []) × (z' ≡ z) × (r ≡ Ok tt)

unfoldable pub Applied : Change → M.Key → Size → List ℕ → List ℕ → List ℕ → Size → List ℕ → List ℕ → List ℕ → Result (Unit {0}) Fault → Type 0
Applied m k z xs ys ws z' xs' ys' ws' r = AppliedBy m k z xs ys ws z' xs' ys' ws' r
