-- The turns of a run, and all that it writes. Definitions only.
use Rattle.std.specs.Prelude.{◌≡◌, ℕ, List, [], ◌++◌, Option}
use Rattle.std.specs.Io.KnownBytes.{Appends}
use Rattle.fields.specs.Text.{part_of}
use Rattle.lines.specs.Lines.{taken_of, Next, bytes_of}
use Rattle.lines.specs.declared.Input.{Input}
use Rattle.lines.specs.declared.Line.{Line}
use Rattle.lines.specs.declared.Lines.{Lines}
use Rattle.lending.specs.declared.Size.{Size}
use Rattle.lending.specs.declared.watch.Watch.{Watch}
use Rattle.answers.specs.Answers.{Replied}
use Rattle.session.specs.Watches.{Watched}
use Rattle.calls.specs.declared.output.Output.{Output}
use Rattle.calls.specs.Inputs.{number_of, written_of, Answered}

-- what stands between two turns: the bytes that were read, the watch, the answers that wait, and how many lines came
pub record Held : Type 0 where
  pub input : Input
  pub read : List ℕ
  pub size : Size
  pub rows : List ℕ
  pub cells : List ℕ
  pub ends : List ℕ
  pub out : List ℕ
  pub n : ℕ
  pub lines : ℕ

abbrev pub held : {R W : Type 0} → Lines R → Watch → Output W → Held
held l w o = record {
  input = l.input;
  read = l.buf.now;
  size = w.size;
  rows = w.rows.now;
  cells = w.cells.now;
  ends = w.ends.now;
  out = o.text.out.now;
  n = o.text.n;
  lines = o.lines;
}

-- a turn: the next line is taken or more is read, and what came is answered
pub record Stepped (a b : Held) : Type 0 where
  pub line : Line
  pub next : Next a.input (taken_of a.input a.read) (record { input = b.input; line = line }) (taken_of a.input a.read).line
  pub number : b.lines ≡ number_of line a.lines
  pub answered : Answered line (bytes_of b.read line) b.lines a.size a.rows a.cells a.ends a.out a.n b.size b.rows b.cells b.ends b.out b.n

-- turns in a row, and what they write: before an answer is put, the answers that nearly fill the buffer are written
pub data Turns (a : Held) : Held → List ℕ → Type 0 where
  none : Turns a a []
  turn : (b c : Held) (s : List ℕ) → Turns a b s → Stepped b c → Turns a c (s ++ written_of b.out b.n)

-- a run: a fresh watch of one row is opened, turns follow, and at last the answers that wait are written; x is what the sink held and y what it holds
pub record Told (a : Held) (x y : Option (List ℕ)) : Type 0 where
  pub first : Held
  pub last : Held
  pub text : List ℕ
  pub reply : Replied
  pub opened : Watched 1 a.size a.rows a.cells a.ends first.size first.rows first.cells first.ends reply
  pub begun : first ≡ record a { size = first.size; rows = first.rows; cells = first.cells; ends = first.ends }
  pub turns : Turns first last text
  pub written : Appends x y (text ++ part_of last.out 0 last.n)
