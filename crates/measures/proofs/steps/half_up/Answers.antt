-- `half_up`: twice y is exact, and its half rounded is y rounded.
use Rattle.std.proofs.Common.{ℕ, ◌+◌, ◌*◌, ◌/◌, ◌^◌, ◌<◌, false, T, sym, ap, ◌∙◌, subst, arith}
use lib.Ieee.{of_bits}
use lib.Ieee.Positive.{num, den, den_pos}
use Rattle.measures.proofs.Scaled.{twice, in_range, cut, halved}
use Rattle.measures.proofs.steps.half_up.Goals as goal

below_53 : (a c : ℕ) → a < 2 ^ 52 * c → a * 2 < 2 ^ 53 * c
below_53 a c h = omega arith

below_64 : (a c : ℕ) → a < 2 ^ 52 * c → a * 2 < 2 ^ 64 * c
below_64 a c h = omega arith

pub rounded_half-requires : goal.rounded_half-requires
unfolding of_bits
rounded_half-requires c =
    let y = c.args.y in
    let d = twice y (subst T (sym c.well_formed.0.1) tt) c.requires in
    in_range 53 _ false (num y * 2) (den y) (den_pos y) d.value (λ t. absurd t) (below_53 (num y) (den y) d.bound)

pub returns : goal.returns
unfolding of_bits
returns c =
    let y = c.args.y in
    let d = twice y (subst T (sym c.well_formed.0.1) tt) c.requires in
    c.rounded_half.ensures
    ∙ ap (λ (n : ℕ). (n + 1) / 2) (cut _ false (num y * 2) (den y) (den_pos y) d.value (λ t. absurd t) (below_64 (num y) (den y) d.bound))
    ∙ halved (num y) (den y) (den_pos y) ∙ sym d.whole
