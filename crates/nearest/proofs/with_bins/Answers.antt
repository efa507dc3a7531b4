-- A word at a turn is `gather_next`; one that is not occupied changes nothing (`gather_none`), and once all positions were seen none is left that is (`all_gathered_by`).
use Rattle.std.proofs.Common.{◌≡◌, ℕ, List, get_or, sym, ap, ◌∙◌, arith}
use borrow.Author.Tests.{ltb-false}
use Rattle.cells.specs.Cells.{count_of}
use Rattle.cells.specs.Passes.{pass}
use Rattle.cells.proofs.Words.{count_small}
use Rattle.cells.proofs.Passes.{pass_none}
use Rattle.nearest.specs.Counted.{bin_step, gather, all_steps}
use Rattle.view.proofs.Views.{positions_fit}
use Rattle.nearest.proofs.Sums.{none_seen, seen_one, seen_none}
use Rattle.nearest.proofs.Gathered.{bins_below_fit, gather_next, gather_same, gather_none, all_gathered_by}
use Rattle.nearest.proofs.with_bins.Goals as goal
use Rattle.nearest.proofs.with_bins.Goals.{then-occupied, else-occupied}

pub loop-j-init : goal.loop-j-init
loop-j-init c = record { at = sym (pass_none (gather bin_step c.args.far.cells) c.args.cells); seen = none_seen _ }

pub overflow_add-at : goal.overflow_add-at
overflow_add-at c =
    let l = c.loop-j in
    let p = c.requires.0 in
    let k = c.bin_step-k.result in
    omega (
      arith,
      ap (λ (t : List ℕ). get_or t k 0) (l.invariant.at ∙ ap (λ (t : List ℕ). pass (gather bin_step c.args.far.cells) t l.j) p.1),
      bins_below_fit p.0 c.args.far.cells l.j k,
      count_small (get_or c.args.far.cells l.j 0),
    )

pub overflow_add-seen : goal.overflow_add-seen
overflow_add-seen c =
    let l = c.loop-j in
    omega (arith, l.invariant.seen, positions_fit c.args.far.cells l.j, count_small (get_or c.args.far.cells l.j 0))

pub loop-j-preserved : goal.loop-j-preserved
loop-j-preserved c =
    let l = c.loop-j in
    let s = c.args in
    elim c.if-occupied.branch [
      | then-occupied w ↦ record {
        at = w.at-is ∙ gather_same l.at w.bin_step-k.ensures.0 w.count_of-n.ensures ∙ gather_next bin_step s.far.cells s.cells l.at l.j l.invariant.at;
        seen = w.seen-is ∙ seen_one _ l.seen _ l.j l.invariant.seen w.count_of-n.ensures;
      }
      | else-occupied w ↦
          let word = get_or s.far.cells l.j 0 in
          let free = sym c.occupied.ensures ∙ w.if-occupied.false in
          let none : count_of word ≡ 0 = omega (arith, ltb-false 0 (count_of word) free) in
          record {
            at = w.at-is ∙ gather_none l.at (bin_step l.j) (count_of word) none ∙ gather_next bin_step s.far.cells s.cells l.at l.j l.invariant.at;
            seen = w.seen-is ∙ seen_none _ l.seen l.j l.invariant.seen free;
          }
    ]

pub returns-then-far-seen : goal.returns-then-far-seen
unfolding all_steps
returns-then-far-seen c =
    let l = c.loop-j in
    let s = c.args in
    let all = all_gathered_by bin_step s.far.cells s.cells l.j 72 (omega arith) (omega (arith, l.invariant.seen, c.requires.1)) in
    λ g h. l.invariant.at ∙ sym all ∙ ap (λ (t : List ℕ). pass (gather bin_step s.far.cells) t 72) h

pub returns : goal.returns
unfolding all_steps
returns c =
    let l = c.loop-j in
    let e : l.j ≡ 72 = omega arith in
    λ g h. rw e at l.invariant.at ∙ ap (λ (t : List ℕ). pass (gather bin_step c.args.far.cells) t 72) h
