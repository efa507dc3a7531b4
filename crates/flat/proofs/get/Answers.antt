-- A row's number gives what its words open as (`got`).
use Rattle.flat.proofs.Rows.{got}
use Rattle.flat.proofs.get.Goals as goal

pub returns : goal.returns
returns c = got _ _ _ _ _ c.outside.ensures c.if-outside.false c.words_at.ensures c.open.ensures
