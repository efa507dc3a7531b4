-- What a call answers by `?`, and what it leaves in what is lent where it accepts: a word is no refusal.
use mathlib.Core.Path.{◌≡◌, sym, ap, ◌∙◌}
use Rattle.std.specs.Prelude.{Ok, Err, IsErrAnd}
use Rattle.table.specs.declared.Refusal.{Refusal}
use Rattle.moves.specs.declared.Word.{Word}
use Rattle.moves.specs.Answers.{Answer}
use Rattle.rows.proofs.Passed.{no_ok}

-- `?` hands a refusal on
pub handed_on : (r : Answer) (x : Refusal) → IsErrAnd r (λ e. e ≡ x) → r ≡ Err x
handed_on (Ok w) x h = absurd h
handed_on (Err e) x h = ap Err h

pub accepts : {X : Type 0} (r : Answer) (v : Word) → r ≡ Ok v → (x : Refusal) → r ≡ Err x → X
accepts r v p x q = no_ok (sym p ∙ q)
