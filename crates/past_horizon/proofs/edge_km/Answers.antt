-- `edge_km`: the array is the list of the definition.
use Rattle.std.proofs.Common.{refl}
use Rattle.past_horizon.specs.Horizon.{edge_of}
use Rattle.past_horizon.proofs.edge_km.Goals as goal

pub returns : goal.returns
unfolding edge_of
returns c = refl
