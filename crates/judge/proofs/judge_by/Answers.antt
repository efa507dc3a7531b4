-- What is asked only outside is the definition's choice (`asked`); then one law of Ways for each way out. An excess is a distance, so that it may be
-- said in steps (`past_distance`).
use Rattle.std.proofs.Common.{◌≡◌, ℕ, Bool, cond, sym, ap, ◌∙◌}
use Rattle.std.specs.Prelude.{Option, Some, None, is_some, IfSome}
use Rattle.std.specs.Option.{option_flatten}
use Rattle.past_horizon.proofs.Range.{past_distance}
use Rattle.judge.specs.Judging.{if_outside, after_horizon}
use Rattle.judge.proofs.Ways.{after_off, by_excess, by_none}
use Rattle.judge.proofs.judge_by.Goals as goal

asked :
    (t : Option (Option ℕ)) (out : Bool) (e n : Option ℕ) (P : Option ℕ → Type 0) → is_some t ≡ out → IfSome t P → ((e : Option ℕ) → P e → e ≡ n)
    → e ≡ option_flatten t → e ≡ if_outside out n
unfolding if_outside
asked (Some o) out e n P s p h q = q ∙ h o p ∙ ap (λ (b : Bool). cond b n None) s
asked None out e n P s p h q = q ∙ ap (λ (b : Bool). cond b n None) s

pub horizon_off-requires : goal.horizon_off-requires
horizon_off-requires g c = past_distance c.args.site c.args.far c.in-Some.excess (sym c.past_horizon.ensures ∙ c.in-Some.is)

pub returns-in-Some : goal.returns-in-Some
returns-in-Some g c =
    λ grid out off near.
    by_excess c.args.site grid c.args.far _ _ _ out (asked _ _ _ _ _ c.then.ensures.variant c.then.ensures.some off c.flatten-empty.ensures) c.past_horizon.ensures _ _
    c.in-Some.is c.horizon_off.ensures

pub returns-in-Some-empty : goal.returns-in-Some-empty
returns-in-Some-empty g c =
    λ grid out off near.
    by_none c.args.site grid c.args.far _ _ _ out (asked _ _ _ _ _ c.then.ensures.variant c.then.ensures.some off c.flatten-empty.ensures) c.past_horizon.ensures _
    c.in-None.is (after_off _ grid c.args.far c.args.outside _ c.in-Some-empty.is)

pub returns-in-None-empty : goal.returns-in-None-empty
returns-in-None-empty g c =
    λ grid out off near.
    by_none c.args.site grid c.args.far _ _ _ out (asked _ _ _ _ _ c.then.ensures.variant c.then.ensures.some off c.flatten-empty.ensures) c.past_horizon.ensures _
    c.in-None.is (near _ c.near.ensures ∙ ap (λ (e : Option ℕ). after_horizon e grid c.args.far c.args.outside) (sym c.in-None-empty.is))
