-- The fields of a line, read in turn; the first thing that is wrong is what reading comes to. Definitions only.
use Rattle.std.specs.Prelude.{ℕ, ◌-◌, ◌^◌, Bool, cond, List, eqb, Option, Some, None, Result, Ok, Err, option_map, ℤ, Float}
use Rattle.std.specs.Borrow.{Bor}
use Rattle.fields.specs.Text.{spell, Piece, field_at, same_bytes}
use Rattle.fields.specs.declared.Stray.{Stray}
use Rattle.numbers.specs.Numbers.{whole_of, signed_of}
use Rattle.reals.specs.Reals.{real_of}
use Rattle.keys.specs.Keys.{key_of}
use Rattle.sites.specs.declared.Site.{Site}
use Rattle.heard.specs.declared.Heard.{Heard}
use Rattle.verdicts.specs.declared.Verdict.{Verdict}
use Rattle.verdicts.specs.declared.Last.{Last}
use Rattle.verdicts.specs.declared.Last.TheVariants as last
use Rattle.readers.specs.declared.Name.{Name}
use Rattle.readers.specs.declared.Name.TheVariants as name
use Rattle.readers.specs.declared.Fault.{Fault}
use Rattle.readers.specs.declared.Fault.TheVariants as fault
use Rattle.readers.specs.declared.RowNumber.{RowNumber}
use Rattle.readers.specs.Reading.{Reading}

abbrev pub start_at : List ℕ → ℕ → ℕ → Reading
start_at t at sep = record { text = t; at = at; sep = sep }

-- a value, and where reading stands behind it; or the first fault
abbrev pub Read : Type 0 → Type 0
Read A = Reading → Result (A × Reading) Fault

abbrev pub and_then : {A B : Type 0} → Result (A × Reading) Fault → (A → Read B) → Result (B × Reading) Fault
and_then (Ok p) f = f p.0 p.1
and_then (Err e) f = Err e

-- the ? of the logic
infixl 10 ◌>>=◌
abbrev pub ◌>>=◌ : {A B : Type 0} → Read A → (A → Read B) → Read B
◌>>=◌ m f r = and_then (m r) f

infixl 10 ◌>>◌
abbrev pub ◌>>◌ : {A B : Type 0} → Read A → Read B → Read B
◌>>◌ m k r = and_then (m r) (λ _. k)

abbrev pub gives : {A : Type 0} → A → Read A
gives x r = Ok (x, r)

-- what a method comes to that leaves its reader there
abbrev pub left : {A : Type 0} → Result A Fault → Read A
left (Ok x) r = Ok (x, r)
left (Err e) r = Err e

abbrev pub left_bytes : Result (Bor (List ℕ)) Fault → Read (List ℕ)
left_bytes (Ok s) r = Ok (s.now, r)
left_bytes (Err e) r = Err e

abbrev pub left_some : Result (Option (Bor (List ℕ))) Fault → Read (Option (List ℕ))
left_some (Ok s) r = Ok (option_map (λ t. t.now) s, r)
left_some (Err e) r = Err e

-- ---- one field

-- the next field's bytes
abbrev pub piece_by : Name → Result (Option Piece) Stray → Read (List ℕ)
piece_by n (Ok (Some f)) r = Ok (f.bytes, record r { at = f.next })
piece_by n (Ok None) r = Err (fault.Missing n)
piece_by n (Err e) r = Err (fault.Stray e.sep)

unfoldable pub piece : Name → Read (List ℕ)
piece n r = piece_by n (field_at r.sep r.text r.at) r

-- where a reader stands that has read one field, whatever the field came to: behind it; where there is none, or a stray separator, it stays
abbrev pub next_or : ℕ → Result (Option Piece) Stray → ℕ
next_or at (Ok (Some f)) = f.next
next_or at (Ok None) = at
next_or at (Err e) = at

abbrev pub past : Reading → Reading
past r = record r { at = next_or r.at (field_at r.sep r.text r.at) }

-- what the bytes say, if they say something
abbrev pub said_by : {A : Type 0} → Fault → Option A → Read A
said_by f (Some x) r = Ok (x, r)
said_by f None r = Err f

unfoldable pub field : {A : Type 0} → (List ℕ → Option A) → Name → Read A
field reads n = do
  s ← piece n
  said_by (fault.NotNumber n) (reads s)

-- `-` is none
unfoldable pub unless_dash : Name → Read (Option (List ℕ))
unless_dash n = do
  s ← piece n
  gives (cond (same_bytes s (spell "-")) None (Some s))

-- none, or what is read where there is some
abbrev pub if_some : {A B : Type 0} → Option A → (A → Read B) → Read (Option B)
if_some (Some x) f r = and_then (f x r) (λ y. gives (Some y))
if_some None f r = Ok (None, r)

unfoldable pub optional : {A : Type 0} → (List ℕ → Option A) → Name → Read (Option A)
optional reads n = do
  s ← unless_dash n
  if_some s (λ t. said_by (fault.NotNumber n) (reads t))

-- a number of 32 bits, and one of 64
abbrev pub small : Name → Read ℕ
small n = field (whole_of (2 ^ 32 - 1)) n

abbrev pub wide : Name → Read ℕ
wide n = field (whole_of (2 ^ 64 - 1)) n

-- FEET|-
abbrev pub feet : Read (Option ℤ)
feet = optional signed_of name.Feet

-- KEY
unfoldable pub key : Read (List ℕ)
key = do
  s ← piece name.Key
  said_by fault.NotKey (key_of s)

-- nothing follows the last field
abbrev pub ended_by : Name → Result (Option Piece) Stray → Read (Unit {0})
ended_by n (Ok (Some f)) r = Err (fault.Extra n)
ended_by n (Ok None) r = Ok (tt, r)
ended_by n (Err e) r = Err (fault.Stray e.sep)

unfoldable pub ended : Name → Read (Unit {0})
ended n r = ended_by n (field_at r.sep r.text r.at) r

-- ---- what numbers say

-- LAST is 0, 1, 2 (Unjudged, Fits, Wrong)
abbrev pub last_of : ℕ → Last
last_of n = cond (eqb n 0) last.Unjudged (cond (eqb n 1) last.Fits last.Wrong)

abbrev pub as_last : List ℕ → Option Last
as_last s = option_map last_of (whole_of 2 s)

-- MOVED is 0 or 1
abbrev pub as_flag : List ℕ → Option Bool
as_flag s = option_map (λ n. eqb n 1) (whole_of 1 s)

-- a row number; none is the number that stands for it, which is no row's
abbrev pub as_row : List ℕ → Option RowNumber
as_row s = option_map (λ n. record { 0 = n }) (whole_of (2 ^ 32 - 2) s)

abbrev pub link_by : Option RowNumber → ℕ
link_by (Some n) = n.0
link_by None = 2 ^ 32 - 1

unfoldable pub link : Name → Read ℕ
link n = do
  m ← optional as_row n
  gives (link_by m)

-- ---- several fields

unfoldable pub two : Name → Name → Read (Float × Float)
two first second = do
  a ← field real_of first
  b ← field real_of second
  gives (a, b)

-- LAT1 LON1 LAT2 LON2
unfoldable pub four : Read (Float × Float × Float × Float)
four = do
  p ← two name.Lat1 name.Lon1
  q ← two name.Lat2 name.Lon2
  gives (p.0, p.1, q.0, q.1)

-- LON ALT|-, behind LAT
unfoldable pub site_from : Float → Read Site
site_from lat = do
  lon ← field real_of name.Lon
  alt ← optional signed_of name.Alt
  gives (record { lat = lat; lon = lon; alt_m = alt })

-- a claim's site: `-`, or LAT LON ALT|-
unfoldable pub claim : Read (Option Site)
claim = do
  lat ← optional real_of name.Lat
  if_some lat site_from

-- the parts of a field, which commas (44) separate; reading goes on behind the field
abbrev pub parts_of : List ℕ → Reading
parts_of s = start_at s 0 44

abbrev pub behind : {A : Type 0} → Result (A × Reading) Fault → Read A
behind (Ok p) r = Ok (p.0, r)
behind (Err e) r = Err e

abbrev pub within : {A : Type 0} → List ℕ → Read A → Read A
within s m r = behind (m (parts_of s)) r

-- LAT,LON,ALT|-
unfoldable pub site_parts : Read Site
site_parts = do
  lat ← field real_of name.Lat
  x ← site_from lat
  ended name.Alt
  gives x

-- SITE of a row
unfoldable pub site : Read (Option Site)
site = do
  s ← unless_dash name.Site
  if_some s (λ t. within t site_parts)

-- LAST,WRONGS,OTHERS,DISTANCE|-,MOVED
unfoldable pub verdict_parts : Read Verdict
verdict_parts = do
  last ← field as_last name.Last
  wrongs ← field (whole_of 255) name.Wrongs
  others ← field (whole_of 255) name.Others
  by ← optional (whole_of (2 ^ 32 - 1)) name.Distance
  moved ← field as_flag name.Moved
  ended name.Moved
  gives (record { last = last; wrong_run = wrongs; other_run = others; wrong_by = by; moved = moved })

-- VERDICT of a row
unfoldable pub verdict : Read (Option Verdict)
verdict = do
  s ← unless_dash name.Verdict
  if_some s (λ t. within t verdict_parts)

-- SITE GEN EVEN ODD
unfoldable pub heard : Read Heard
heard = do
  x ← site
  generation ← small name.Generation
  even ← optional (whole_of (2 ^ 64 - 1)) name.Even
  odd ← optional (whole_of (2 ^ 64 - 1)) name.Odd
  gives (record { site = x; generation = generation; even = even; odd = odd })

-- SITE GEN EVEN ODD VERDICT
unfoldable pub part : Read (Heard × Option Verdict)
part = do
  x ← heard
  v ← verdict
  gives (x, v)

-- BEFORE AFTER
unfoldable pub links : Read (ℕ × ℕ)
links = do
  prev ← link name.Before
  next ← link name.After
  gives (prev, next)

-- NOW, the last field of a row, `-` or a number; missing it is none
abbrev pub clock_by : Result (Option Piece) Stray → Read (Option ℕ)
clock_by (Ok (Some f)) = optional (whole_of (2 ^ 64 - 1)) name.Now
clock_by (Ok None) = gives None
clock_by (Err e) = optional (whole_of (2 ^ 64 - 1)) name.Now

unfoldable pub clock : Read (Option ℕ)
clock r = clock_by (field_at r.sep r.text r.at) r
