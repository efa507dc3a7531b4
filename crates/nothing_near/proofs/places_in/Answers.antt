-- The cells and the bins counted are the places heard (`places_counted`).
use Rattle.std.proofs.Common.{◌≡◌, length, arith}
use Rattle.nearest.specs.Nothing.{places}
use Rattle.nothing_near.proofs.Counted.{places_counted}
use Rattle.nothing_near.proofs.places_in.Goals as goal

pub returns : goal.returns
unfolding places
returns c =
    let s = c.args in
    let cells : length s.m.grid.now ≡ 1600 = omega arith in
    let bins : length s.m.far.cells ≡ 72 = omega arith in
    let a = rw cells at c.occupied_among.ensures.0 in
    let b = rw bins at c.occupied_among-2.ensures.0 in
    omega (arith, places_counted s.m.grid.now s.m.far)
