-- A line end that was found lies before `have`; the two cases are the definition's.
use Rattle.std.proofs.Common.{◌-◌, ◌∙◌, sym, drop, length-take, arith}
use Rattle.lines.proofs.Waiting.{taken_none, taken_line}
use Rattle.lines.proofs.taken.Goals as goal

pub returns-in_default : goal.returns-in_default
returns-in_default c =
    let s = c.args.s in
    let buf = c.args.buf.now in
    (taken_none s buf (omega arith, omega arith) (sym c.in_default.is ∙ c.first_place.ensures.is), (omega arith, omega arith))

pub returns : goal.returns
returns c =
    let s = c.args.s in
    let buf = c.args.buf.now in
    (taken_line s buf (sym c.in-Some.is ∙ c.first_place.ensures.is) c.whole.ensures, (omega (arith, c.in-Some.ensures.inside, length-take (s.have - s.at) (drop s.at buf)), omega arith))
