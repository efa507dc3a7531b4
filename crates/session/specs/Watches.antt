-- A list of calls on a lent watch. Definitions only.
use Rattle.std.specs.Prelude.{ℕ, ◌*◌, ◌≡◌, ◌<◌, ◌≤◌, List, take, drop, replicate, Option, Some, None, Result, Ok, Err}
use Rattle.table.specs.Machine as M
use Rattle.table.specs.Machine.{Step}
use Rattle.table.specs.Rows.{Watch}
use Rattle.receiver.specs.declared.Part.{Part}
use Rattle.receiver.specs.Calls.{Out, fresh_call, drop_oldest, call_on, check, take_out, claim, position, judging}
use Rattle.flat.specs.Table.{rows_of}
use Rattle.moves.specs.Answers.{Answer, outcome}
use Rattle.grammar.specs.declared.Call.{Call}
use Rattle.grammar.specs.declared.Call.TheVariants as call
use Rattle.grammar.specs.declared.Line.{Line}
use Rattle.grammar.specs.declared.Line.TheVariants as line
use Rattle.lending.specs.declared.Size.{Size}
use Rattle.grammar.specs.declared.Change.{Change}
use Rattle.grammar.specs.declared.Said.{Said}
use Rattle.lending.specs.Digests.{digest_of}
use Rattle.lending.specs.Lendings.{lent_to, no_ends, Applied}
use Rattle.session.specs.Replies.{reply_of}
use Rattle.readers.specs.declared.Fault.{Fault}
use Rattle.readers.specs.declared.Fault.TheVariants as fault
use Rattle.answers.specs.Answers.{Replied}
use Rattle.answers.specs.declared.Reply.TheVariants as reply

-- the call that a line asks for, of the key that it names
abbrev pub call_by : Call → M.Key → Watch Part → Step (Watch Part) Out
call_by call.Fresh k w = fresh_call w
call_by call.Drop k w = drop_oldest w
call_by call.Check k w = call_on w k check
call_by call.TakeOut k w = call_on w k take_out
call_by (call.Claim s) k w = call_on w k (claim s)
call_by (call.Position p) k w = call_on w k (position p)
call_by (call.Judging t n) k w = call_on w k (judging t n)

-- a call comes to what its definition says of that watch, and what lies behind it stays
pub record Called (z : Size) (c : Call) (k : M.Key) (xs ys ws xs' ys' ws' : List ℕ) (r : Answer) : Type 0 where
  pub is : outcome r (rows_of (take (25 * z.rows) xs')) (take z.cells ys') ws' ≡ call_by c k (lent_to z xs ys ws)
  pub rows_behind : drop (25 * z.rows) xs' ≡ drop (25 * z.rows) xs
  pub cells_behind : drop z.cells ys' ≡ drop z.cells ys

-- ---- what a line comes to

-- a watch of C rows has 3,344 × C cells
abbrev pub sized_of : ℕ → Size
sized_of c = record { rows = c; cells = 3344 * c }

-- the watch stays as it is
abbrev pub Stays : Replied → Size → List ℕ → List ℕ → List ℕ → Size → List ℕ → List ℕ → List ℕ → Replied → Type 0
Stays p z xs ys ws z' xs' ys' ws' r = (r ≡ p) × (z' ≡ z) × (xs' ≡ xs) × (ys' ≡ ys) × (ws' ≡ ws)

-- a fresh watch, or too many rows
abbrev pub OpenedBy : Result Answer Fault → ℕ → List ℕ → List ℕ → List ℕ → List ℕ → List ℕ → List ℕ → Type 0
OpenedBy (Ok a) c xs ys ws xs' ys' ws' = (c ≤ 64) × Called (sized_of c) call.Fresh (replicate 32 0) xs ys no_ends xs' ys' ws' a
OpenedBy (Err f) c xs ys ws xs' ys' ws' = (64 < c) × (f ≡ fault.TooManyRows) × (xs' ≡ xs) × (ys' ≡ ys) × (ws' ≡ ws)

unfoldable pub Opened : ℕ → List ℕ → List ℕ → List ℕ → List ℕ → List ℕ → List ℕ → Result Answer Fault → Type 0
Opened c xs ys ws xs' ys' ws' r = OpenedBy r c xs ys ws xs' ys' ws'

-- a call's answer stands in the reply
pub record Answers (c : Call) (k : M.Key) (z : Size) (xs ys ws : List ℕ) (z' : Size) (xs' ys' ws' : List ℕ) (r : Replied) : Type 0 where
  pub to : Answer
  pub called : Called z c k xs ys ws xs' ys' ws' to
  pub told : r ≡ Ok (Some (reply.Answered to))
  pub size : z' ≡ z

-- watch, lend, row, cell, ends: what is written, and no answer but for what is wrong
abbrev pub reply_for : {A : Type 0} → Result A Fault → Replied
reply_for (Ok a) = Ok None
reply_for (Err f) = Err f

abbrev pub size_for : Result Answer Fault → ℕ → Size → Size
size_for (Ok a) c z = sized_of c
size_for (Err f) c z = z

pub record Watched (c : ℕ) (z : Size) (xs ys ws : List ℕ) (z' : Size) (xs' ys' ws' : List ℕ) (r : Replied) : Type 0 where
  pub to : Result Answer Fault
  pub is : Opened c xs ys ws xs' ys' ws' to
  pub told : r ≡ reply_for to
  pub size : z' ≡ size_for to c z

pub record Written (m : Change) (k : M.Key) (z : Size) (xs ys ws : List ℕ) (z' : Size) (xs' ys' ws' : List ℕ) (r : Replied) : Type 0 where
  pub to : Result (Unit {0}) Fault
  pub is : Applied m k z xs ys ws z' xs' ys' ws' to
  pub told : r ≡ reply_for to

-- by what a line asks of the watch
abbrev pub RanBy : Line → M.Key → Size → List ℕ → List ℕ → List ℕ → Size → List ℕ → List ℕ → List ℕ → Replied → Type 0
RanBy (line.Call c) k z xs ys ws z' xs' ys' ws' r = Answers c k z xs ys ws z' xs' ys' ws' r
RanBy (line.Watch c) k z xs ys ws z' xs' ys' ws' r = Watched c z xs ys ws z' xs' ys' ws' r
RanBy line.Digest k z xs ys ws z' xs' ys' ws' r = Stays (Ok (Some (reply.Digest (digest_of (lent_to z xs ys ws))))) z xs ys ws z' xs' ys' ws' r
RanBy (line.Change m) k z xs ys ws z' xs' ys' ws' r = Written m k z xs ys ws z' xs' ys' ws' r
RanBy (line.Place a b c d) k z xs ys ws z' xs' ys' ws' r = Stays (Ok (reply_of (line.Place a b c d))) z xs ys ws z' xs' ys' ws' r
RanBy (line.Same a b c d) k z xs ys ws z' xs' ys' ws' r = Stays (Ok (reply_of (line.Same a b c d))) z xs ys ws z' xs' ys' ws' r
RanBy (line.Horizon a b) k z xs ys ws z' xs' ys' ws' r = Stays (Ok (reply_of (line.Horizon a b))) z xs ys ws z' xs' ys' ws' r
RanBy (line.Bucket f) k z xs ys ws z' xs' ys' ws' r = Stays (Ok (reply_of (line.Bucket f))) z xs ys ws z' xs' ys' ws' r
RanBy (line.Bit a) k z xs ys ws z' xs' ys' ws' r = Stays (Ok (reply_of (line.Bit a))) z xs ys ws z' xs' ys' ws' r
RanBy (line.Turn n t m) k z xs ys ws z' xs' ys' ws' r = Stays (Ok (reply_of (line.Turn n t m))) z xs ys ws z' xs' ys' ws' r

unfoldable pub Ran : Line → M.Key → Size → List ℕ → List ℕ → List ℕ → Size → List ℕ → List ℕ → List ℕ → Replied → Type 0
Ran l k z xs ys ws z' xs' ys' ws' r = RanBy l k z xs ys ws z' xs' ys' ws' r

-- what was read of a line: nothing to do, or something wrong, leaves the watch as it is
abbrev pub HeardBy : Result (Option Said) Fault → Size → List ℕ → List ℕ → List ℕ → Size → List ℕ → List ℕ → List ℕ → Replied → Type 0
HeardBy (Ok (Some s)) z xs ys ws z' xs' ys' ws' r = Ran s.line s.key z xs ys ws z' xs' ys' ws' r
HeardBy (Ok None) z xs ys ws z' xs' ys' ws' r = Stays (Ok None) z xs ys ws z' xs' ys' ws' r
HeardBy (Err f) z xs ys ws z' xs' ys' ws' r = Stays (Err f) z xs ys ws z' xs' ys' ws' r

unfoldable pub Heard : Result (Option Said) Fault → Size → List ℕ → List ℕ → List ℕ → Size → List ℕ → List ℕ → List ℕ → Replied → Type 0
Heard a z xs ys ws z' xs' ys' ws' r = HeardBy a z xs ys ws z' xs' ys' ws' r
