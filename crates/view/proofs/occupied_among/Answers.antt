-- A word more counts one where it is occupied.
use Rattle.std.proofs.Common.{ℕ, ◌≡◌, ◌+◌, sym, ◌∙◌, ap, Bool, cond, List, get_or, arith}
use Rattle.cells.proofs.Passes.{pass_none, sum_step}
use Rattle.cells.specs.Cells.{occupied_word}
use Rattle.view.specs.View.{occupied_among}
use Rattle.view.proofs.occupied_among.Goals as goal
use Rattle.view.proofs.occupied_among.Goals.{then-occupied, else-occupied}

-- a turn counts r, 1 or 0
counts : (words : List ℕ) (n i r m : ℕ) (b : Bool) → n ≡ occupied_among words i → b ≡ occupied_word (get_or words i 0) → r ≡ cond b 1 0 → m ≡ n + r → m ≡ occupied_among words (i + 1)
unfolding occupied_among
counts words n i r m b e o q h =
    h ∙ sum_step (λ (k : ℕ). occupied_word (get_or words k 0)) (λ (k : ℕ). 1) n r i e (q ∙ ap (λ (t : Bool). cond t 1 0) o)

pub loop-w-init : goal.loop-w-init
unfolding occupied_among
loop-w-init c = record { count = sym (pass_none _ 0); bound = omega arith }

pub loop-w-preserved : goal.loop-w-preserved
loop-w-preserved c =
    let l = c.loop-w in
    let words = c.args.words.now in
    elim c.if-occupied.branch [
      | then-occupied w ↦ record { count = counts words l.n l.w-index 1 _ _ l.invariant.count c.occupied.ensures (rw w.if-occupied.true) w.n-is; bound = omega arith }
      | else-occupied w ↦ record { count = counts words l.n l.w-index 0 _ _ l.invariant.count c.occupied.ensures (rw w.if-occupied.false) (omega arith); bound = omega arith }
    ]
