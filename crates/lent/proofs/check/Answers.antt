-- What is said of the row that was found is the definition's check (`check_so`); no word changes.
use Rattle.std.proofs.Common.{refl, sym, ap, ◌∙◌, Ok}
use Rattle.receiver.specs.Calls.{check}
use Rattle.rows.specs.declared.Row.{Row}
use Rattle.moves.specs.Answers.{check_answer}
use Rattle.moves.proofs.Entries.{check_so}
use Rattle.lent.proofs.Exit.{told_call}
use Rattle.lent.proofs.check.Goals as goal

pub returns : goal.returns
returns g c =
    let a = c.args in
    told_call g.met.W.Lent.leaves _ _ _ a.ends.now c.check_answer.result (λ x q. refl) _ _ check
    (check_so (g.W.Lent.rows_in a.rows.now) a.cells.now a.ends.now c.from-e.result a.key c.look_up.result c.from-e.ensures c.look_up.ensures (Ok c.in_ok-i.i) c.in_ok-i.was c.check_answer.result
    a.ends.now (sym c.from-e.ensures) (c.check_answer.ensures ∙ ap (λ (x : Row). check_answer x.part.verdict) c.get.ensures))
