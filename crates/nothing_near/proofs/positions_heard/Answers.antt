-- The grid's positions and the bins' are all (`positions_counted`).
use Rattle.std.proofs.Common.{◌≡◌, ℕ, List, length, arith}
use Rattle.view.specs.View.{positions_among}
use Rattle.nothing_near.proofs.Counted.{positions_counted}
use Rattle.nothing_near.proofs.positions_heard.Goals as goal

-- the positions of a whole array
whole : {n : ℕ} (words : List ℕ) (k : ℕ) → length words ≡ k → n ≡ positions_among words (length words) → n ≡ positions_among words k
whole words k e h = rw e at h

pub returns : goal.returns
returns c =
    let m = c.args.m in
    let a = whole m.grid.now 1600 (omega arith) c.positions_among.ensures.0 in
    let b = whole m.far.cells 72 (omega arith) c.positions_among-past.ensures.0 in
    (omega (arith, positions_counted m.grid.now m.far), b)
