-- Each return is one law of the third nearest place: none near, three near, or fewer than three of them near.
use Rattle.std.proofs.Common.{arith}
use Rattle.nothing_near.proofs.Third.{none_near, three_near, few_near}
use Rattle.nothing_near.proofs.third_is_near.Goals as goal

pub returns-then-near-eq0 : goal.returns-then-near-eq0
returns-then-near-eq0 c = none_near c.args.m.grid.now c.args.m.far c.requires (omega (arith, c.near_cells-near.ensures, c.if-near-eq0.true))

pub returns-then-near-eq3 : goal.returns-then-near-eq3
returns-then-near-eq3 c = three_near c.args.m.grid.now c.args.m.far c.requires (omega (arith, c.near_cells-near.ensures, c.if-near-eq3.true))

pub returns : goal.returns
returns c =
    let n = c.near_cells-near.ensures in
    few_near c.args.m.grid.now c.args.m.far c.requires c.places_in.result c.near_cells-near.result c.places_in.ensures (omega (arith, c.if-near-eq3.false))
    (omega (arith, c.if-near-eq3.false))
