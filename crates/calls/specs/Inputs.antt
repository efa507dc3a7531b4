-- What a line comes to, its number, and its answer in the buffer. What is read and written crate `lines` says of a source and a sink.
use Rattle.std.specs.Prelude.{◌≡◌, ℕ, ◌+◌, ◌%◌, ◌^◌, cond, List, [], length, nat_lt, Option, Some, None, Result, Ok, Err}
use Rattle.fields.specs.Text.{part_of}
use Rattle.print.specs.Print.{put_in}
use Rattle.table.specs.Rows.{Watch}
use Rattle.receiver.specs.declared.Part.{Part}
use Rattle.lines.specs.declared.Line.{Line}
use Rattle.lines.specs.declared.Line.TheVariants.{At, TooLong, Nothing}
use Rattle.grammar.specs.Lines.{line_of}
use Rattle.grammar.specs.declared.Said.{Said}
use Rattle.readers.specs.declared.Fault.{Fault}
use Rattle.readers.specs.declared.Fault.TheVariants as fault
use Rattle.lending.specs.declared.Size.{Size}
use Rattle.lending.specs.Lendings.{lent_to}
use Rattle.session.specs.Watches.{Stays, Heard}
use Rattle.answers.specs.Answers.{Replied, text_of}
use Rattle.rounds.specs.Rounds.{line_text}

-- what a line comes to, whose bytes ask for q; one of more than 1,024 bytes is not read
abbrev pub CameBy : Line → Result (Option Said) Fault → Size → List ℕ → List ℕ → List ℕ → Size → List ℕ → List ℕ → List ℕ → Replied → Type 0
CameBy (At start end) q z xs ys ws z' xs' ys' ws' r = Heard q z xs ys ws z' xs' ys' ws' r
CameBy TooLong q z xs ys ws z' xs' ys' ws' r = Stays (Err fault.TooLong) z xs ys ws z' xs' ys' ws' r
CameBy Nothing q z xs ys ws z' xs' ys' ws' r = Stays (Ok None) z xs ys ws z' xs' ys' ws' r

unfoldable pub Came : Line → Result (Option Said) Fault → Size → List ℕ → List ℕ → List ℕ → Size → List ℕ → List ℕ → List ℕ → Replied → Type 0
Came l q z xs ys ws z' xs' ys' ws' r = CameBy l q z xs ys ws z' xs' ys' ws' r

-- lines are counted, too long ones also
abbrev pub number_of : Line → ℕ → ℕ
number_of (At start end) n = (n + 1) % 2 ^ 64
number_of TooLong n = (n + 1) % 2 ^ 64
number_of Nothing n = n

-- where the next answer goes: answers that fill the buffer nearly are written first
unfoldable pub room_of : ℕ → ℕ
room_of n = cond (nat_lt 61000 n) 0 n

-- and what is written then: the n bytes that wait in the buffer, or none
unfoldable pub written_of : List ℕ → ℕ → List ℕ
written_of out n = cond (nat_lt 61000 n) (part_of out 0 n) []

-- a tick's answer, and nothing for what asks for none
abbrev pub tick_of : Watch Part → Result (Option Said) Fault → List ℕ
tick_of w (Ok (Some s)) = line_text w s.line
tick_of w (Ok None) = []
tick_of w (Err f) = []

-- a line's answer, whole in the buffer, and a tick's, whole behind it: of any line one of the two is empty
pub record Answered (line : Line) (b : List ℕ) (number : ℕ) (z : Size) (xs ys ws out : List ℕ) (n : ℕ) (z' : Size) (xs' ys' ws' out' : List ℕ) (n' : ℕ) : Type 0 where
  pub reply : Replied
  pub came : Came line (line_of b) z xs ys ws z' xs' ys' ws' reply
  pub end : n' ≡ room_of n + length (text_of reply number b) + length (tick_of (lent_to z' xs' ys' ws') (line_of b))
  pub put : out' ≡ put_in (put_in out (room_of n) (text_of reply number b)) (room_of n + length (text_of reply number b)) (tick_of (lent_to z' xs' ys' ws') (line_of b))
