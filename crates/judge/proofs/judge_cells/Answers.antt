-- The parts are what the callees answer.
use Rattle.std.proofs.Common.{rules}
use Rattle.judge.proofs.judge_cells.Goals as goal

pub returns : goal.returns
returns c = c.judge_by.ensures c.args.m.grid.now c.outside.ensures (λ e p. search rules) (λ j p. search rules)
