-- A judging's number is small (Small).
use Rattle.probes.proofs.Small.{judged_small}
use Rattle.probes.proofs.row.judged.Goals as goal

pub judgment_number-requires : goal.judgment_number-requires
judgment_number-requires c = judged_small _ _ _ _ _ _ _ c.judge.ensures
