-- Each return is one case of `put`.
use Rattle.nearest.proofs.Two.{put_before, put_behind}
use Rattle.nearest.proofs.put.Goals as goal

pub returns-then-spot-near : goal.returns-then-spot-near
returns-then-spot-near c = put_before _ _ c.if-spot-near.true

pub returns : goal.returns
returns c = put_behind _ _ c.if-spot-near.false
