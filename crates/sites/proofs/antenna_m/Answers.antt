-- `antenna_m`: `unwrap_or` is the definition's `alt_or0`.
use Rattle.std.proofs.Common.{◌≡◌, refl, ap, ◌∙◌, w32, SFits, to_z-of_z, rules, Option, Some, None, ℤ, pos, unwrap_or}
use Rattle.floats.specs.Horizon.{antenna_of}
use Rattle.sites.specs.Sites.{alt_or0, antenna}
use Rattle.sites.proofs.antenna_m.Goals as goal

or0 : (a : Option ℤ) → unwrap_or a (pos 0) ≡ alt_or0 a
or0 (Some m) = refl
or0 None = refl

pub returns : goal.returns
unfolding antenna
returns c =
    let fits : SFits w32 c.unwrap_or.result = search rules in
    c.antenna_m.ensures ∙ ap antenna_of (to_z-of_z fits ∙ c.unwrap_or.ensures ∙ or0 c.args.s.alt_m)
