-- A sector more is `marked_more`.
use Rattle.std.proofs.Common.{◌≡◌, ℕ, Bool, true, cond, set, ap, ◌∙◌, arith}
use Rattle.cells.specs.Passes.{some, table}
use Rattle.around.specs.Marks.{bin_in}
use Rattle.outside.proofs.Heard.{marked, marked_none, marked_more, marked_all}
use Rattle.outside.proofs.bin_marks.Goals as goal

pub loop-k-init : goal.loop-k-init
loop-k-init c = λ f e. marked_none f _ _ e

pub loop-k-preserved : goal.loop-k-preserved
loop-k-preserved c =
    let l = c.loop-k in
    let bins = c.args.bins.now in
    λ f e. marked_more f (λ (j : ℕ). some (bin_in bins j) 72) l.k l.m c.mark-next.result (omega arith) (l.invariant f e)
    (c.mark-next.ensures ∙ ap (λ (b : Bool). cond b (set l.m l.k true) l.m) c.bin_heard.ensures)

pub returns : goal.returns
returns c =
    let l = c.loop-k in
    let bins = c.args.bins.now in
    let n : l.k ≡ 8 = omega arith in
    λ f e. l.invariant f e ∙ ap (λ (k : ℕ). table (marked f (λ (j : ℕ). some (bin_in bins j) 72) k) 8) n ∙ marked_all f (λ (j : ℕ). some (bin_in bins j) 72)
