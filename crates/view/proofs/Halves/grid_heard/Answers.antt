-- In one half or in the other (`grid_heard` of Views).
use Rattle.std.proofs.Common.{◌&&◌, Bool, sym, ap, ◌∙◌, length-take, arith}
use Rattle.view.proofs.Views.{grid_heard, part_heard}
use Rattle.view.proofs.Halves.grid_heard.Goals as goal

pub slice_bounds-kept_heard-end : goal.slice_bounds-kept_heard-end
slice_bounds-kept_heard-end c = simp length-take (omega arith)

pub returns-then-kept_heard : goal.returns-then-kept_heard
returns-then-kept_heard c =
    let s = c.args.self in
    let h = c.kept_heard.ensures ∙ ap (λ (b : Bool). s.even && b) (part_heard s.cells.now 0 1600 1600 (omega arith) (omega arith)) in
    rw (grid_heard s.cells.now s.even s.odd, sym h ∙ c.if-kept_heard.true) c.if-kept_heard.true

pub returns-else-kept_heard : goal.returns-else-kept_heard
returns-else-kept_heard c =
    let s = c.args.self in
    let h = c.kept_heard.ensures ∙ ap (λ (b : Bool). s.even && b) (part_heard s.cells.now 0 1600 1600 (omega arith) (omega arith)) in
    rw (grid_heard s.cells.now s.even s.odd, sym h ∙ c.if-kept_heard.false)
    (c.kept_heard-else-kept_heard.ensures ∙ ap (λ (b : Bool). s.odd && b) (part_heard s.cells.now 1672 1600 3272 (omega arith) (omega arith)))
