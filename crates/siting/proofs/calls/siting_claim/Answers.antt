-- The call is on the key of the four words, with the site that is given or none (`told_call`).
use Rattle.std.proofs.Common.{◌≡◌, rules}
use Rattle.receiver.specs.Calls.{Act, claim}
use Rattle.sites.specs.Sites.{given}
use Rattle.replies.proofs.Told.{told_call}
use Rattle.siting.proofs.calls.siting_claim.Goals as goal

pub returns : goal.returns
returns c =
    let same : ◌≡◌ {A = Act} (claim c.then_some-claimed.result) (claim (given c.args.site (record { lat = c.args.lat; lon = c.args.lon; alt_m = given c.args.alt c.args.alt_m }))) = search rules in
    told_call c.claim.result _ _ _ _ c.claim.new.ends _ _ _ _ _ c.tell.ensures c.claim.ensures c.key_by.ensures same
