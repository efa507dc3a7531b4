-- Each turn is one of `all_digits`, at the byte at the index.
use Rattle.std.proofs.Common.{◌∙◌, arith}
use Rattle.numbers.proofs.Values.{digits_on}
use Rattle.keys.proofs.Keys.{hex_stop, hex_end}
use Rattle.keys.proofs.all_hex.Goals as goal

pub returns-then-digit-gt15 : goal.returns-then-digit-gt15
returns-then-digit-gt15 c =
    let l = c.loop-c in hex_stop c.args.s.now l.c-index (omega arith) (omega (arith, c.digit.ensures)) l.invariant

pub loop-c-preserved : goal.loop-c-preserved
loop-c-preserved c =
    let l = c.loop-c in
    l.invariant ∙ digits_on 16 c.args.s.now l.c-index (omega arith) (omega (arith, c.digit.ensures))

pub returns : goal.returns
returns c = let l = c.loop-c in hex_end c.args.s.now l.c-index (omega arith) l.invariant
