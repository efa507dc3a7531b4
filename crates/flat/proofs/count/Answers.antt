-- As many rows as chunks, none where words are left over (`counted`, `left_over`).
use Rattle.flat.proofs.Rows.{counted, left_over}
use Rattle.flat.proofs.count.Goals as goal

pub returns-then-is_empty : goal.returns-then-is_empty
returns-then-is_empty c = counted _ _ _ _ c.as_chunks.ensures.front_len c.as_chunks.ensures.back_len c.is_empty.ensures c.if-is_empty.true

pub returns-else-is_empty : goal.returns-else-is_empty
returns-else-is_empty c = left_over _ _ _ c.as_chunks.ensures.back_len c.is_empty.ensures c.if-is_empty.false
