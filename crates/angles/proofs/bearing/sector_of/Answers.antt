-- A law for none and for the due directions; what lies between them is `between`.
use Rattle.std.proofs.Common.{arith, true, false}
use Rattle.angles.proofs.Sector.{none_at, north_south_at, east_west_at}
use Rattle.angles.proofs.bearing.sector_of.Goals as goal

pub returns-in-0-eq0 : goal.returns-in-0-eq0
returns-in-0-eq0 c = (none_at c.args.y.minus c.args.x.minus c.in-0-eq0.is-0 c.in-0-eq0.is-1, omega arith)

pub returns-then-x : goal.returns-then-x
returns-then-x c = (north_south_at c.args.y.minus true c.args.x.size c.in-0-default.is-0 c.if-x.true (omega (arith, c.in-0-default.is-1)), omega arith)

pub returns-else-x : goal.returns-else-x
returns-else-x c = (north_south_at c.args.y.minus false c.args.x.size c.in-0-default.is-0 c.if-x.false (omega (arith, c.in-0-default.is-1)), omega arith)

pub returns-then-y : goal.returns-then-y
returns-then-y c = (east_west_at c.args.x.minus true c.args.y.size c.in_default-eq0.is-1 c.if-y.true (omega (arith, c.in_default-eq0.is-0)), omega arith)

pub returns-else-y : goal.returns-else-y
returns-else-y c = (east_west_at c.args.x.minus false c.args.y.size c.in_default-eq0.is-1 c.if-y.false (omega (arith, c.in_default-eq0.is-0)), omega arith)
