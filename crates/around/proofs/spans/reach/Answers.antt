-- The table of the eleven rows is right (`reach_at`).
use Rattle.around.proofs.Rows.{reaches, reach_at}
use Rattle.around.proofs.spans.reach.Goals as goal

pub returns : goal.returns
unfolding reaches
returns c = reach_at c.args.m c.requires
