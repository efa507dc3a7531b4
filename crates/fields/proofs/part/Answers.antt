-- The two tests of `part_of` are those of `get`.
use Rattle.std.proofs.Common.{◌∙◌, ap, refl, Bor, List, ℕ}
use Rattle.fields.proofs.Lines.{part_is}
use Rattle.fields.proofs.part.Goals as goal

pub returns : goal.returns
returns c =
    ap (λ (x : Bor (List ℕ)). x.now) c.unwrap_or.ensures
    ∙ part_is c.args.s.now c.args.start c.args.end c.get.result _ refl c.get.ensures.lookup.0
