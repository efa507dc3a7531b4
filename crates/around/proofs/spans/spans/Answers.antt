-- The four are the definition's, each sector's number as in the list of the numbers.
use Rattle.std.proofs.Common.{ℕ, List, ◌≡◌, ◌<◌, length, get_or, map, sym, arith}
use Rattle.std.proofs.lemmas.List.{get_or-map}
use Rattle.around.specs.declared.Sector.{Sector}
use Rattle.around.proofs.Rows.{in_turn}
use Rattle.around.proofs.spans.spans.Goals as goal

number : (ss : List Sector) (i : ℕ) (none : Sector) → i < length ss → (get_or ss i none).k ≡ get_or (map (λ s. s.k) ss) i 0
number ss i none l = sym (get_or-map (λ (s : Sector). s.k) ss i none 0 l)

pub returns : goal.returns
returns c =
    in_turn _ _ _ _ _ _ _ _ _ _ _ _ _ _ _ _ _ _ _ _ _ _ _ _ c.span-a.ensures c.span-b.ensures c.span-c.ensures c.span.ensures
    c.cut-from.ensures.0 c.cut-second.ensures.0 c.cut-third.ensures.0 c.cut-fourth.ensures.0 c.cut-end.ensures.0
    (number c.args.sectors 0 _ (omega arith)) (number c.args.sectors 1 _ (omega arith)) (number c.args.sectors 2 _ (omega arith)) (number c.args.sectors 3 _ (omega arith))
