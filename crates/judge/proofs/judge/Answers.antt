-- One law of Ways for each way out.
use Rattle.judge.proofs.Ways.{no_site, few_aircraft, by_row}
use Rattle.judge.proofs.judge.Goals as goal

pub returns-then-aircraft-lt15 : goal.returns-then-aircraft-lt15
returns-then-aircraft-lt15 c =
    let s = c.args in
    few_aircraft s.site s.even s.odd s.cells.now s.now_ms s.aircraft _ c.in-Some.is c.if-aircraft-lt15.true

pub returns-else-aircraft-lt15 : goal.returns-else-aircraft-lt15
returns-else-aircraft-lt15 c =
    let s = c.args in
    by_row s.site s.even s.odd s.cells.now s.now_ms s.aircraft _ _ _ _ c.in-Some.is c.if-aircraft-lt15.false c.kept_at.ensures c.kept_at-in-Some.ensures
    c.judge_row.ensures

pub returns-in-None : goal.returns-in-None
returns-in-None c = let s = c.args in no_site s.site s.even s.odd s.cells.now s.now_ms s.aircraft c.in-None.is
