-- One law of Ways for each way out.
use Rattle.std.proofs.Common.{refl, ◌∙◌}
use Rattle.std.specs.Prelude.{None}
use Rattle.judge.proofs.Ways.{after_few, after_near}
use Rattle.judge.proofs.near_field.Goals as goal

pub returns-then-places_in-lt12 : goal.returns-then-places_in-lt12
returns-then-places_in-lt12 c = let s = c.args in after_few None s.m.grid.now s.m.far s.outside _ refl c.places_in.ensures c.if-places_in-lt12.true

pub returns : goal.returns
returns c = let s = c.args in c.near_field.ensures ∙ after_near None s.m.grid.now s.m.far s.outside _ refl c.places_in.ensures c.if-places_in-lt12.false
