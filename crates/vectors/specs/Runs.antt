-- A turn of the program, and a run of turns: what is read, done and written. Definitions only.
use Rattle.std.specs.Prelude.{◌≡◌, ℕ, zero, suc, ◌-◌, ◌^◌, Bool, true, false, List, Option}
use Rattle.std.specs.Io.KnownBytes.{Appends}
use Rattle.lines.specs.Lines.{bytes_of, taken_of, Next, ReadOn}
use Rattle.lines.specs.Streams.{left_in, held_by, sink_failed}
use Rattle.lines.specs.declared.Input.{Input}
use Rattle.lines.specs.declared.Line.{Line}
use Rattle.lines.specs.declared.Line.TheVariants.{Nothing}
use Rattle.lines.specs.declared.streams.Stream.{Stream}
use Rattle.vectors.specs.Replays.{answered}
use Rattle.vectors.specs.Print.{shown_text}
use Rattle.vectors.specs.declared.replay.Done.{Done}

-- what stands between two turns: what was done, what waits in the buffer, what the source has left, what the sink holds, and whether an error came there
pub record View : Type 0 where
  pub done : Done
  pub input : Input
  pub buf : List ℕ
  pub left : Option (List ℕ)
  pub held : Option (List ℕ)
  pub failed : Bool

abbrev pub view_of : {R W : Type 0} → (R → Option (List ℕ)) → (W → Option (List ℕ)) → Input → List ℕ → Stream R → Stream W → Done → View
view_of remaining contents input buf from to done =
    record { done = done; input = input; buf = buf; left = left_in remaining from; held = held_by contents to; failed = sink_failed to }

-- a turn: a line that is whole is taken, and else more is read; the line is answered, and what it asks for is written
pub record Stepped (a b : View) : Type 0 where
  pub line : Line
  pub next : Next a.input (taken_of a.input a.buf) (record { input = b.input; line = line }) (taken_of a.input a.buf).line
  pub whole : ((taken_of a.input a.buf).line ≡ Nothing → ⊥) → (b.left ≡ a.left) × (b.buf ≡ a.buf)
  pub came : (taken_of a.input a.buf).line ≡ Nothing → ReadOn a.input a.left b.left a.buf b.buf (record { input = b.input; line = line })
  pub is : b.done ≡ answered a.done line (bytes_of b.buf line)
  pub written : b.failed ≡ false → Appends a.held b.held (shown_text a.done.counts (bytes_of b.buf line))

-- n turns, one after another
abbrev pub Turns : ℕ → View → View → Type 0
Turns zero a b = b ≡ a
Turns (suc n) a b = (m : View) × (Turns n a m × Stepped m b)

-- a run: turns until the input has ended, or as many as are counted
pub record Replayed (a : View) (b : Done → View) : Type 0 where
  pub turns : ℕ
  pub done : Done
  pub are : Turns turns a (b done)
  pub end : (b done).input.more ≡ true → turns ≡ 2 ^ 64 - 1
