-- What a run holds of its caller's: the buffers and the sink that were lent. Definitions only.
use Rattle.std.specs.Prelude.{◌≡◌, length}
use Rattle.print.specs.Print.{SameBuffer}
use Rattle.lines.specs.declared.Lines.{Lines}
use Rattle.calls.specs.declared.output.Output.{Output}

-- the list's buffer is the one that was lent, and as long
abbrev pub SameList : {R : Type 0} → Lines R → Lines R → Type 0
SameList l m = (m.buf.ghost_name ≡ l.buf.ghost_name) × (length m.buf.now ≡ length l.buf.now)

-- the sink and the answers' buffer are the ones that were lent, and the buffer is as long
abbrev pub SameOut : {W : Type 0} → Output W → Output W → Type 0
SameOut o p = (p.to.ghost_name ≡ o.to.ghost_name) × SameBuffer o.text p.text
