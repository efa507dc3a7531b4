-- The first eight of what is left from the i-th byte on; a byte's range is its type's.
use Rattle.std.proofs.Common.{◌-◌, length, take, drop, ap, ◌∙◌, arith, length-drop}
use lib.Seq.{take_all}
use Rattle.std.specs.Int.{w64, from_le_bytes}
use Rattle.packing.proofs.word_at.Goals as goal

pub returns : goal.returns
returns c =
    let chunk = (rw c.unwrap.ensures at c.first_chunk.ensures.cases) in
    let b = c.args.bytes.now in
    (c.from_le_bytes.ensures ∙ ap (from_le_bytes w64) (chunk.same ∙ ap (take 8) (take_all (length b - c.args.i) (drop c.args.i b) (omega (arith, length-drop c.args.i b)))), λ j. (c.type_inv.bytes j).fits)
