-- The printable bytes are i, plus those from i on, and i is at most 32.
use Rattle.std.proofs.Common.{◌≡◌, ◌≤◌, ◌+◌, drop}
use Rattle.fields.specs.Text.{printable}
use Rattle.fields.proofs.shown.Given as goal

abbrev pub invariant-loop-i : goal.invariant-loop-i
invariant-loop-i l = (l.i ≤ 32) × (printable l.s ≡ l.i + printable (drop l.i l.s))
