-- The library's `position` is `first_in`.
use Rattle.std.proofs.Common.{◌≡◌, ◌==◌, rules}
use borrow.Author.Tests.{tests}
use Rattle.std.proofs.lemmas.Iterator.{YieldsList-from_slice}
use Rattle.std.proofs.lemmas.Iterator.Search.{position_from_yields_List}
use Rattle.std.specs.List.{position}
use Rattle.fields.proofs.Lines.{first_found}
use Rattle.fields.proofs.first_place.Goals as goal

pub returns-clause-is : goal.returns-clause-is
returns-clause-is c =
    let s = c.args.s.now in
    let p : c.position.result ≡ position (λ x. x == c.args.byte) s = position_from_yields_List (λ x. x == c.args.byte) _ _ c.position.result c.position.ensures.ran (YieldsList-from_slice _ c.iter.ensures.rest) (λ x b q k. search (rules, tests)) in
    first_found c.args.byte s c.position.result p
