-- Where a `#` was found the part before it is moved back over spaces, otherwise the line's length is the end: the two cases of `text_end`.
use Rattle.std.proofs.Common.{◌∙◌, sym}
use Rattle.fields.proofs.Lines.{text_comment, text_whole}
use Rattle.fields.proofs.text_end.Goals as goal

pub returns-in-Some : goal.returns-in-Some
returns-in-Some c = c.back_over.ensures ∙ text_comment c.args.line.now c.in-Some.hash (sym c.in-Some.is ∙ c.first_place.ensures.is)

pub returns-in-None : goal.returns-in-None
returns-in-None c = sym (text_whole c.args.line.now (sym c.in-None.is ∙ c.first_place.ensures.is))
