-- Where a line lies in the buffer, and what is done with the bytes that came; `Streams` says what a source has left.
use Rattle.std.specs.Prelude.{ℕ, ◌≤◌, ◌+◌, ◌-◌, ◌≡◌, Bool, true, false, cond, List, [], length, take, drop, eqb, ltb}
use Rattle.std.specs.declared.option.Option.{Option}
use Rattle.std.specs.Io.KnownBytes.{Consumes}
use Rattle.fields.specs.Text.{first_of, part_of}
use Rattle.lines.specs.declared.Input.{Input}
use Rattle.lines.specs.declared.Step.{Step}
use Rattle.lines.specs.declared.Line.{Line}
use Rattle.lines.specs.declared.Line.TheVariants.{At, TooLong, Nothing}

-- the bytes that wait lie within the buffer
abbrev pub Within : Input → List ℕ → Type 0
Within s buf = (s.at ≤ s.have) × (s.have ≤ length buf)

abbrev pub waiting : Input → List ℕ → List ℕ
waiting s buf = take (s.have - s.at) (drop s.at buf)

-- at first none wait
abbrev pub start_of : Input
start_of = record { at = 0; have = 0; long = false; more = true }

-- a line is at most 1,024 bytes; of a longer one the first bytes may have been dropped
unfoldable pub line_of : Bool → ℕ → ℕ → Line
line_of long start end = cond long TooLong (cond (ltb 1024 (end - start)) TooLong (At start end))

-- at the end of the input, what is left at the front of the buffer is a line, if it is anything
unfoldable pub last_of : Bool → ℕ → Line
last_of long have = cond long TooLong (cond (eqb have 0) Nothing (line_of false 0 have))

-- bytes with no line end, more than a line can have, are dropped
unfoldable pub kept_of : Input → Input
kept_of s = cond (ltb 1024 (s.have - s.at)) (record { at = s.have; have = s.have; long = true; more = true }) s

-- the next line ends at the first line end (10) of the bytes that wait; it is passed over, and what follows waits
abbrev pub taken_by : Input → ℕ → Step
taken_by s n =
    cond (eqb n (s.have - s.at)) (record { input = s; line = Nothing })
    (record { input = record { at = s.at + n + 1; have = s.have; long = false; more = true }; line = line_of s.long s.at (s.at + n) })

unfoldable pub taken_of : Input → List ℕ → Step
taken_of s buf = taken_by s (first_of 10 (waiting s buf))

-- the bytes that are kept stand at the front then, and what came behind them; where nothing came they are the last line
abbrev pub read_on : Input → ℕ → Step
read_on k came =
    cond (eqb came 0) (record { input = record { at = 0; have = 0; long = false; more = false }; line = last_of k.long (k.have - k.at) })
    (record { input = record { at = 0; have = k.have - k.at + came; long = k.long; more = true }; line = Nothing })

pub record Refilled (s : Input) (r : Step) : Type 0 where
  pub came : ℕ
  pub is : r ≡ read_on (kept_of s) came

-- how many bytes are kept
abbrev pub kept_count : Input → ℕ
kept_count s = (kept_of s).have - (kept_of s).at

-- more was read: the bytes that are kept stand at the front of the buffer, and those that came behind them are what the source gave
pub record ReadOn (s : Input) (left left' : Option (List ℕ)) (buf buf' : List ℕ) (r : Step) : Type 0 where
  pub front : take (kept_count s) buf' ≡ waiting (kept_of s) buf
  pub bytes : Consumes left left' (drop (kept_count s) (take r.input.have buf'))

-- a line that is whole is given; where none is, more is read
abbrev pub Next : Input → Step → Step → Line → Type 0
Next s t r Nothing = Refilled s r
Next s t r TooLong = r ≡ t
Next s t r (At start end) = r ≡ t

abbrev pub bytes_of : List ℕ → Line → List ℕ
bytes_of buf (At start end) = part_of buf start end
bytes_of buf TooLong = []
bytes_of buf Nothing = []
