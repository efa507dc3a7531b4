-- The ways out of `put_reply`: the whole answer where 128 bytes are free, else nothing.
use Rattle.std.proofs.Common.{◌≡◌, ℕ, ◌+◌, ◌≤◌, ◌<◌, List, length, arith, le-leb}
use Rattle.std.proofs.lemmas.Bool.{lt-leb}
use Rattle.print.specs.declared.Text.{Text}
use Rattle.answers.specs.Answers.{Replied, text_of, answered_in, answered_end}
use Rattle.print.specs.Print.{Wrote, Adds}
use Rattle.answers.proofs.Lengths.{text_length}

pub told_none : (out s : List ℕ) (n : ℕ) → length out < n + 128 → (n ≡ answered_end out n s) × (out ≡ answered_in out n s)
unfolding answered_end answered_in
told_none out s n h = (rw (lt-leb (n + 128) (length out) h), rw (lt-leb (n + 128) (length out) h))

pub told_whole : (a b : Text) (line : List ℕ) (number : ℕ) (r : Replied) → Adds a (text_of r number line) b → a.n + 128 ≤ length a.out.now → (b.n ≡ answered_end a.out.now a.n (text_of r number line)) × (b.out.now ≡ answered_in a.out.now a.n (text_of r number line))
unfolding Adds Wrote answered_end answered_in
told_whole a b line number r w h =
    let x = w.1 (omega (arith, text_length r number line)) in
    let e = le-leb (a.n + 128) (length a.out.now) h in (rw e x.0, rw e x.1)
