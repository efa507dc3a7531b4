-- What a line asks for (README, 'A list of calls'). Definitions only.
use Rattle.std.specs.Prelude.{ℕ, ◌-◌, Bool, ◌&&◌, cond, List, [], ◌∷◌, eqb, ltb, length, get_or, replicate, Some, None, Option, Ok, Err, Result}
use Prim.Native.String.{String}
use Rattle.fields.specs.Text.{spell, Piece, text_end, field_at, part_of, same_bytes}
use Rattle.fields.specs.declared.Stray.{Stray}
use Rattle.readers.specs.Reading.{Reading}
use Rattle.readers.specs.Fields.{start_at, Read, ◌>>=◌, ◌>>◌, gives, small, wide, link, feet, key, ended, two, four, claim, part, links, clock}
use Rattle.readers.specs.declared.Name.{Name}
use Rattle.readers.specs.declared.Name.TheVariants as name
use Rattle.readers.specs.declared.Fault.{Fault}
use Rattle.readers.specs.declared.Fault.TheVariants as fault
use Rattle.grammar.specs.declared.Line.{Line}
use Rattle.grammar.specs.declared.Line.TheVariants as line
use Rattle.grammar.specs.declared.Call.TheVariants as call
use Rattle.grammar.specs.declared.Change.TheVariants as change
use Rattle.grammar.specs.declared.Said.{Said}

-- ---- the lines

-- the line with the key that it names; nothing follows its last field
abbrev pub keyed : Name → List ℕ → Line → Read Said
keyed last k l = do
  ended last
  gives (record { line = l; key = k })

-- a line that names no key
abbrev pub unkeyed : Name → Line → Read Said
unkeyed last l = keyed last (replicate 32 0) l

-- fresh, drop, digest
abbrev pub bare_line : Line → Read Said
bare_line l = unkeyed name.Word l

-- check KEY, takeout KEY
unfoldable pub key_line : Line → Read Said
key_line l = do
  k ← key
  keyed name.Key k l

-- watch C
unfoldable pub watch_line : Read Said
watch_line = do
  c ← small name.Rows
  unkeyed name.Rows (line.Watch c)

-- claim KEY -, claim KEY LAT LON ALT|-
unfoldable pub claim_line : Read Said
claim_line = do
  k ← key
  site ← claim
  keyed name.Alt k (line.Call (call.Claim site))

-- position KEY LAT LON FEET|- ADDRESS AT_MS
unfoldable pub position_line : Read Said
position_line = do
  k ← key
  p ← two name.Lat name.Lon
  m ← feet
  a ← small name.Address
  t ← wide name.AtMs
  keyed name.AtMs k (line.Call (call.Position (record { lat = p.0; lon = p.1; feet = m; address = a; at_ms = t })))

-- judging KEY NOW_MS AIRCRAFT
unfoldable pub judging_line : Read Said
judging_line = do
  k ← key
  now ← wide name.NowMs
  aircraft ← wide name.Aircraft
  keyed name.Aircraft k (line.Call (call.Judging now aircraft))

-- turn NEXT K ROOM
unfoldable pub turn_line : Read Said
turn_line = do
  next ← small name.Next
  k ← small name.K
  room ← small name.Room
  unkeyed name.Room (line.Turn next k room)

-- place LAT1 LON1 LAT2 LON2, same LAT1 LON1 LAT2 LON2
unfoldable pub place_line : Read Said
place_line = do
  p ← four
  unkeyed name.Lon2 (line.Place p.0 p.1 p.2 p.3)

unfoldable pub same_line : Read Said
same_line = do
  p ← four
  unkeyed name.Lon2 (line.Same p.0 p.1 p.2 p.3)

-- horizon A B
unfoldable pub horizon_line : Read Said
horizon_line = do
  p ← two name.A name.B
  unkeyed name.B (line.Horizon p.0 p.1)

-- bucket FEET|-
unfoldable pub bucket_line : Read Said
bucket_line = do
  m ← feet
  unkeyed name.Feet (line.Bucket m)

-- bit ADDRESS
unfoldable pub bit_line : Read Said
bit_line = do
  a ← small name.Address
  unkeyed name.Address (line.Bit a)

-- lend C N
unfoldable pub lend_line : Read Said
lend_line = do
  c ← small name.Rows
  n ← small name.Cells
  unkeyed name.Cells (line.Change (change.Lend c n))

-- row I KEY SITE GEN EVEN ODD VERDICT BEFORE AFTER [NOW]
unfoldable pub row_line : Read Said
row_line = do
  i ← small name.Number
  k ← key
  p ← part
  l ← links
  t ← clock
  keyed name.Now k (line.Change (change.Row i (record { heard = p.0; verdict = p.1; judged_ms = t }) l.0 l.1))

-- cell I WORD
unfoldable pub cell_line : Read Said
cell_line = do
  i ← small name.Number
  w ← small name.Value
  unkeyed name.Value (line.Change (change.Cell i w))

-- ends FIRST LAST FREE
unfoldable pub ends_line : Read Said
ends_line = do
  a ← link name.First
  b ← link name.Last
  c ← link name.Free
  unkeyed name.Free (line.Change (change.Ends a b c))

-- ---- the words

-- each call by its word
abbrev pub calls : List (String × Read Said)
calls =
    ("watch", watch_line) ∷
    ("fresh", bare_line (line.Call call.Fresh)) ∷
    ("drop", bare_line (line.Call call.Drop)) ∷
    ("check", key_line (line.Call call.Check)) ∷
    ("takeout", key_line (line.Call call.TakeOut)) ∷
    ("claim", claim_line) ∷
    ("position", position_line) ∷
    ("judging", judging_line) ∷
    ("turn", turn_line) ∷
    ("digest", bare_line line.Digest) ∷
    ("place", place_line) ∷
    ("same", same_line) ∷
    ("horizon", horizon_line) ∷
    ("bucket", bucket_line) ∷
    ("bit", bit_line) ∷
    ("lend", lend_line) ∷
    ("row", row_line) ∷
    ("cell", cell_line) ∷
    ("ends", ends_line) ∷
    []

abbrev pub read_by : List (String × Read Said) → List ℕ → Fault → Read Said
read_by [] w unknown r = Err unknown
read_by (c ∷ cs) w unknown r = cond (same_bytes w (spell c.0)) (c.1 r) (read_by cs w unknown r)

-- the word ends at `end`
unfoldable pub line_by : List ℕ → ℕ → Read Said
line_by w end = read_by calls w (fault.Unknown end)

-- what is read, where nothing is read behind it
abbrev pub value_of : {A : Type 0} → Result (A × Reading) Fault → Result A Fault
value_of (Ok p) = Ok p.0
value_of (Err e) = Err e

-- the text's first field is the call's word, and the call's own fields are those behind it, each ended by a space (32)
unfoldable pub call_of : List ℕ → Piece → Result Said Fault
call_of t word = value_of (line_by word.bytes (length word.bytes) (start_at t word.next 32))

-- a text that ends in a carriage return (13) has a stray one
unfoldable pub return_at_end : List ℕ → Bool
return_at_end t = ltb 0 (length t) && eqb (get_or t (length t - 1) 0) 13

abbrev pub asked : Result Said Fault → Result (Option Said) Fault
asked (Ok s) = Ok (Some s)
asked (Err e) = Err e

abbrev pub text_by : List ℕ → Result (Option Piece) Stray → Result (Option Said) Fault
text_by t (Ok (Some word)) = asked (call_of t word)
text_by t (Ok None) = Ok None
text_by t (Err e) = Err (fault.Stray e.sep)

unfoldable pub text_of : List ℕ → Result (Option Said) Fault
text_of t = cond (return_at_end t) (Err fault.StrayReturn) (text_by t (field_at 32 t 0))

-- `#` starts a comment; empty lines are passed over
unfoldable pub line_of : List ℕ → Result (Option Said) Fault
line_of s = cond (eqb (text_end s) 0) (Ok None) (text_of (part_of s 0 (text_end s)))
