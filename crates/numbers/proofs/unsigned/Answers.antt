-- What is stripped is the minus sign.
use Rattle.std.proofs.Common.{◌∙◌, ap, refl, Bor, List, ℕ}
use Rattle.numbers.proofs.Values.{unsigned_is}
use Rattle.numbers.proofs.unsigned.Goals as goal

pub returns : goal.returns
returns c =
    ap (λ (x : Bor (List ℕ)). x.now) c.unwrap_or.ensures
    ∙ unsigned_is c.args.s.now c.strip_prefix.result c.args.s refl c.strip_prefix.ensures.cases
