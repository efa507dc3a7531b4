-- A word at a turn is `among_one`; one that is not occupied changes nothing (`among_none`), and once all positions were seen none is left that is (`all_nearest`).
use Rattle.std.proofs.Common.{◌≡◌, get_or, sym, ◌∙◌, arith}
use Rattle.cells.proofs.Words.{count_small}
use Rattle.nearest.specs.Counted.{bin_spot}
use Rattle.view.proofs.Views.{positions_fit}
use Rattle.nearest.proofs.Sums.{none_seen, seen_one, seen_none}
use Rattle.nearest.proofs.Two.{among_start, among_one, among_none, all_nearest}
use Rattle.nearest.proofs.nearest_bins.Goals as goal
use Rattle.nearest.proofs.nearest_bins.Goals.{then-occupied, else-occupied}

pub loop-j-init : goal.loop-j-init
loop-j-init c = record { near = among_start bin_spot _ _; seen = none_seen _ }

pub overflow_add-seen : goal.overflow_add-seen
overflow_add-seen c =
    let l = c.loop-j in
    omega (arith, l.invariant.seen, positions_fit c.args.far.cells l.j, count_small (get_or c.args.far.cells l.j 0))

pub loop-j-preserved : goal.loop-j-preserved
loop-j-preserved c =
    let l = c.loop-j in
    elim c.if-occupied.branch [
      | then-occupied w ↦ record {
        near = w.near-is ∙ w.with_bin-near.ensures ∙ among_one bin_spot _ _ l.near l.j l.invariant.near (sym c.occupied.ensures ∙ w.if-occupied.true);
        seen = w.seen-is ∙ seen_one _ l.seen _ l.j l.invariant.seen w.count_of-seen.ensures;
      }
      | else-occupied w ↦
          let free = sym c.occupied.ensures ∙ w.if-occupied.false in
          record { near = w.near-is ∙ among_none bin_spot _ _ l.near l.j l.invariant.near free; seen = w.seen-is ∙ seen_none _ l.seen l.j l.invariant.seen free }
    ]

pub returns-then-far-seen : goal.returns-then-far-seen
returns-then-far-seen c =
    let l = c.loop-j in
    l.invariant.near ∙ sym (all_nearest bin_spot c.args.far.cells _ l.j 72 (omega arith) (omega (arith, l.invariant.seen, c.requires)))

pub returns : goal.returns
returns c = let l = c.loop-j in let e : l.j ≡ 72 = omega arith in rw e at l.invariant.near
