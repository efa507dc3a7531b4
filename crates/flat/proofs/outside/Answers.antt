-- A row lies within where its end does, if the slice is whole rows (`outside_whole`, `outside_torn`).
use Rattle.flat.proofs.Rows.{wide_is, outside_whole, outside_torn}
use Rattle.std.proofs.Common.{not, ap, ◌∙◌}
use borrow.Author.Tests.{ne_eqb}
use Rattle.flat.proofs.outside.Goals as goal

pub returns-then-n-ne0 : goal.returns-then-n-ne0
returns-then-n-ne0 c = ap not (ne_eqb _ 0 c.if-n-ne0.true) ∙ outside_torn _ 25 _ wide_is c.if-n-ne0.true

pub returns-else-n-ne0 : goal.returns-else-n-ne0
returns-else-n-ne0 c = outside_whole _ 25 _ _ wide_is c.if-n-ne0.false c.end_of.ensures
