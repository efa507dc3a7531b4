-- `copy_within` at the front is `moved_to`.
use Rattle.std.proofs.Common.{refl, zero-add}
use Rattle.fields.specs.Text.{moved_to}
use Rattle.fields.proofs.to_front.Goals as goal

pub returns : goal.returns
unfolding moved_to
returns c = (refl, simp zero-add at c.copy_within.ensures.after)
