-- `past_horizon`: fewer than three are past where fewer are occupied (`too_few_occupied`).
use Rattle.std.proofs.Common.{◌≡◌, length, arith, rules}
use Rattle.sites.specs.Sites.{antenna}
use Rattle.past_horizon.specs.Horizon.{past_horizon}
use Rattle.past_horizon.proofs.Bins.{too_few_occupied}
use Rattle.past_horizon.proofs.past_horizon.Goals as goal

pub returns-then-occupied_among-lt3 : goal.returns-then-occupied_among-lt3
unfolding past_horizon
returns-then-occupied_among-lt3 c =
    let bins : length c.args.far.cells ≡ 72 = search rules in
    let few = rw bins at c.occupied_among.ensures.0 in
    too_few_occupied c.args.far (antenna c.args.site) (omega (arith, few, c.if-occupied_among-lt3.true))
