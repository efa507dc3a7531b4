-- `turns::mark_used` meets its contract: a row that is marked leaves the rest of the chain to mark.
use Rattle.std.proofs.Common.{◌≡◌, ℕ, ◌<◌, ◌-◌, ◌+◌, true, set, ap, ◌∙◌, arith}
use Rattle.turns.proofs.Laws.{marked, rest_of, mark_goes}
use Rattle.turns.proofs.mark_used.Goals as goal

pub loop-done-preserved : goal.loop-done-preserved
loop-done-preserved g c =
    let xs = g.W.Lent.rows_in c.args.rows.now in
    let l = c.loop-done in
    let left : 0 < c.args.n - l.done = omega (arith, c.loop-done-test.true) in
    let less : c.args.n - (l.done + 1) ≡ c.args.n - l.done - 1 = omega (arith, c.loop-done-test.true) in
    ap (λ (m : ℕ). marked (rest_of xs m c.links_at-at.result.next) (set l.marks l.at true)) less
    ∙ mark_goes xs c.args.n (c.args.n - l.done) l.at l.marks c.outside.result c.requires.0 c.requires.1 c.outside.ensures c.links_at-at.result left c.if-outside.false c.links_at-at.ensures
    ∙ l.invariant
