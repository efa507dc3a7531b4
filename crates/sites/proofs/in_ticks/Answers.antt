-- `in_ticks`: the two ticks, each no larger than its range.
use Rattle.sites.proofs.Ranges.{lat_in, lat_tickable, lon_in, tick_size}
use Rattle.sites.proofs.in_ticks.Goals as goal

pub tick-requires : goal.tick-requires
tick-requires c = lat_tickable c.args.lat c.args.lon c.requires

pub invariant_of-result : goal.invariant_of-result
invariant_of-result c = record {
  lat_in = tick_size 90 _ _ (lat_in c.args.lat c.args.lon c.requires) (record { sfits = c.tick.type_inv }) c.tick.ensures;
  lon_in = tick_size 180 _ _ (lon_in c.args.lat c.args.lon c.requires) (record { sfits = c.tick-2.type_inv }) c.tick-2.ensures;
}
