-- Where an answer goes, that it is put whole, and what a run of turns writes.
use Rattle.std.proofs.Common.{◌≡◌, ℕ, ◌+◌, ◌<◌, ◌≤◌, Bool, true, false, cond, ltb, List, [], ◌++◌, length, refl, sym, ap, ◌∙◌, arith, ltb-false, le-ltb, lt-ltb, le-leb, Option, Some, None, Result, Ok, Err}
use Rattle.table.specs.Rows.{Watch}
use Rattle.receiver.specs.declared.Part.{Part}
use Rattle.lines.specs.declared.Line.{Line}
use Rattle.grammar.specs.Lines.{line_of}
use Rattle.grammar.specs.declared.Said.{Said}
use Rattle.readers.specs.declared.Fault.{Fault}
use Rattle.fields.specs.Text.{part_of}
use Rattle.print.specs.declared.Text.{Text}
use Rattle.print.specs.Print.{put_in, Wrote, Adds}
use Rattle.lending.specs.Lendings.{lent_to}
use Rattle.lending.specs.declared.Size.{Size}
use Rattle.answers.specs.Answers.{Replied, text_of, answered_in, answered_end}
use Rattle.answers.proofs.Lengths.{text_length}
use Rattle.answers.proofs.Writing.{put_length}
use Rattle.rounds.proofs.Lengths.{line_length}
use Rattle.std.specs.Io.KnownBytes.{Appends}
use Rattle.std.proofs.KnownBytes.{Appends-nil, Appends-trans}
use Rattle.lines.specs.declared.streams.Stream.{Stream}
use Rattle.lines.specs.Streams.{held_by, sink_failed}
use Rattle.calls.specs.Turns.{Held, Stepped, Turns, none, turn}
use Rattle.calls.specs.Inputs.{Came, room_of, written_of, tick_of, Answered}

-- ---- where the answer goes
pub room_full : (n : ℕ) → 61000 < n → 0 ≡ room_of n
unfolding room_of
room_full n h = rw (lt-ltb 61000 n h)

pub room_left : (n : ℕ) → n ≤ 61000 → n ≡ room_of n
unfolding room_of
room_left n h = rw (le-ltb 61000 n h)

pub written_full : (out : List ℕ) (n : ℕ) → 61000 < n → part_of out 0 n ≡ written_of out n
unfolding written_of
written_full out n h = rw (lt-ltb 61000 n h)

pub written_none : (out : List ℕ) (n : ℕ) → n ≤ 61000 → [] ≡ written_of out n
unfolding written_of
written_none out n h = rw (le-ltb 61000 n h)

-- an answer starts 4,536 bytes before the buffer's end, or earlier: it is put whole, and a tick's behind it
room_few : (n : ℕ) → room_of n ≤ 61000
unfolding room_of
room_few n = by (ltb 61000 n) refl where
  by : (b : Bool) → ltb 61000 n ≡ b → cond b 0 n ≤ 61000
  by true e = omega arith
  by false e = ltb-false 61000 n e

tick_few : (w : Watch Part) (q : Result (Option Said) Fault) → length (tick_of w q) ≤ 4300
tick_few w (Ok (Some s)) = line_length w s.line
tick_few w (Ok None) = omega arith
tick_few w (Err f) = omega arith

-- what is put whole where it fits, and fits
fitting : (a b : Text) (s : List ℕ) → Adds a s b → a.n + length s ≤ length a.out.now → (b.n ≡ a.n + length s) × (b.out.now ≡ put_in a.out.now a.n s)
unfolding Adds Wrote
fitting a b s w h = w.1 h

module _ (line : Line) (b : List ℕ) (number : ℕ) (z : Size) (xs ys ws out : List ℕ) (n : ℕ) (z' : Size) (xs' ys' ws' : List ℕ) (m to : Text) (at : ℕ) (reply : Replied) (asked : Result (Option Said) Fault) where
  pub answered_is : asked ≡ line_of b → Came line asked z xs ys ws z' xs' ys' ws' reply → at ≡ room_of n → 65536 ≤ length out → (m.n ≡ answered_end out at (text_of reply number b)) × (m.out.now ≡ answered_in out at (text_of reply number b))
      → Adds m (tick_of (lent_to z' xs' ys' ws') asked) to
      → Answered line b number z xs ys ws out n z' xs' ys' ws' to.out.now to.n
  unfolding answered_end answered_in
  answered_is g e f h i w =
      let text = text_of reply number b in
      let tick = tick_of (lent_to z' xs' ys' ws') (line_of b) in
      let t = le-leb (room_of n + 128) (length out) (omega (arith, room_few n)) in
      let end : m.n ≡ room_of n + length text = i.0 ∙ (rw (f, t)) in
      let put : m.out.now ≡ put_in out (room_of n) text = i.1 ∙ (rw (f, t)) in
      let whole : length (put_in out (room_of n) text) ≡ length out = put_length out (room_of n) text (omega (arith, room_few n, text_length reply number b)) in
      let both = fitting m to tick (rw g at w)
      (omega (arith, end, ap length put, whole, room_few n, text_length reply number b, tick_few (lent_to z' xs' ys' ws') (line_of b))) in
      record { reply = reply; came = rw g at e; end = rw end at both.0; put = rw (put, end) at both.1 }

-- ---- the run
-- turns in a row from a to b, and what they have written; y is what the sink holds now
pub record Going (a b : Held) (x y : Option (List ℕ)) (failed : Bool) : Type 0 where
  pub text : List ℕ
  pub turns : Turns a b text
  pub written : failed ≡ false → Appends x y text

pub going_start : (a : Held) (x : Option (List ℕ)) (f : Bool) → Going a a x x f
going_start a x f = record { text = []; turns = none; written = λ _. Appends-nil x }

-- a sink that had failed stays as it is, turn by turn
pub still_failed : {W : Type 0} (r s t : Stream W) → (sink_failed r ≡ true → s ≡ r) → (sink_failed s ≡ true → t ≡ s) → sink_failed r ≡ true → t ≡ r
still_failed r s t f g h = let e = f h in g (ap sink_failed e ∙ h) ∙ e

module _ {W : Type 0} (contents : W → Option (List ℕ)) (s t : Stream W) (h : sink_failed s ≡ true → t ≡ s) where
  -- after an error the sink stays as it is
  was_sound : sink_failed t ≡ false → sink_failed s ≡ false
  was_sound k = by (sink_failed s) refl where
    by : (b : Bool) → sink_failed s ≡ b → b ≡ false
    by false e = refl
    by true e = sym e ∙ sym (ap sink_failed (h e)) ∙ k

  pub going_more : (a b c : Held) (x : Option (List ℕ)) → Going a b x (held_by contents s) (sink_failed s) → Stepped b c → (sink_failed t ≡ false → Appends (held_by contents s) (held_by contents t) (written_of b.out b.n))
      → Going a c x (held_by contents t) (sink_failed t)
  going_more a b c x g k w = record {
    text = g.text ++ written_of b.out b.n;
    turns = turn b c g.text g.turns k;
    written = λ sound. Appends-trans x (held_by contents s) (held_by contents t) g.text (written_of b.out b.n) (g.written (was_sound sound)) (w sound);
  }
