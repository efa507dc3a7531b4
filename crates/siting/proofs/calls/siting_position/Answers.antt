-- The call is on the key of the four words, with the altitude that is given or none (`told_call`).
use Rattle.std.proofs.Common.{◌≡◌, rules}
use Rattle.receiver.specs.Calls.{Act, position}
use Rattle.sites.specs.Sites.{given}
use Rattle.replies.proofs.Told.{told_call}
use Rattle.siting.proofs.calls.siting_position.Goals as goal

pub returns : goal.returns
returns c =
    let same : ◌≡◌ {A = Act} (position (record { lat = c.args.lat; lon = c.args.lon; feet = c.then_some.result; address = c.args.address; at_ms = c.args.at_ms })) (position (record { lat = c.args.lat; lon = c.args.lon; feet = given c.args.has_feet c.args.feet; address = c.args.address; at_ms = c.args.at_ms })) = search rules in
    told_call c.position.result _ _ _ _ c.position.new.ends _ _ _ _ _ c.tell.ensures c.position.ensures c.key_by.ensures same
