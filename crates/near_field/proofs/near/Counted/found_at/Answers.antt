-- The mean's squared distance is m / n² (`mean_of`): under 10 half cells, or said in steps.
use Rattle.std.proofs.Common.{◌≡◌, ℕ, ◌+◌, ◌*◌, List}
use Rattle.cells.specs.Passes.{sum_of}
use Rattle.plane.specs.Plane.{east_of, north_of, apart, square}
use Rattle.near_field.specs.Near.{member, members, mean_square}
use Rattle.near_field.proofs.Judged.{mean_under, mean_over}
use Rattle.near_field.proofs.near.Counted.found_at.Goals as goal

-- the mean's squared distance, from the sums and how many they are
mean_of :
    {a b e n k : ℕ} (g : List ℕ) (best : ℕ) → a ≡ square (apart e (40 * k)) → b ≡ square (apart n (40 * k))
    → k ≡ members g best → e ≡ sum_of (member g best) east_of 1600 → n ≡ sum_of (member g best) north_of 1600 → a + b ≡ mean_square g best
unfolding mean_square
mean_of g best p q r s t = cc

pub returns-then-m-n : goal.returns-then-m-n
returns-then-m-n c =
    let s = c.args in
    let g = c.group_of-g.ensures in
    mean_under s.scale s.self.grid.now s.best.i _ _ (mean_of s.self.grid.now s.best.i c.gap.ensures.0 c.gap-2.ensures.0 g.0 g.1 g.2) g.0 c.if-m-n.true

pub returns : goal.returns
returns c =
    let s = c.args in
    let g = c.group_of-g.ensures in
    mean_over s.scale s.self.grid.now s.best.i _ _ _ (mean_of s.self.grid.now s.best.i c.gap.ensures.0 c.gap-2.ensures.0 g.0 g.1 g.2) g.0 c.if-m-n.false
    c.rounded.ensures
