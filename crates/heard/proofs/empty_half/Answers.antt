-- A half's 1,672 cells lie within the row.
use Rattle.std.proofs.Common.{arith}
use Rattle.heard.proofs.SiteLaws.{half_room}
use Rattle.heard.proofs.empty_half.Goals as goal

pub slice_bounds-empty-end : goal.slice_bounds-empty-end
slice_bounds-empty-end c = half_room c.args.c _ _ c.requires (omega arith)
