-- `tick`: 2 ^ 25 times the size of the degrees is exact, `rounded_half` rounds its half, and the sign is put back.
use Rattle.std.proofs.Common.{◌≡◌, ℕ, ◌^◌, ◌<◌, cond, T, pos, neg_ℤ, sym, refl, ap, ◌∙◌, subst, to_z-of_z, w64}
use lib.Ieee.{Float, binary64, fits, mul, lt, neg, of_bits}
use Rattle.root.specs.Root.{plus_zero}
use Rattle.measures.specs.Degrees.{within}
use Rattle.measures.proofs.Ticks.{Ticks, two25, ticks_of_lem, in_reach, half_is, ticks_lt}
use Rattle.measures.proofs.degrees.tick.Goals as goal

-- the product that `rounded_half` is given, of the size v of x
ticks : (x v : Float) → T (fits binary64 x) → T (within 180 x) → v ≡ cond (lt x plus_zero) (neg x) x → Ticks x (mul binary64 v two25) (lt x plus_zero)
ticks x v f w e = subst (λ (y : Float). Ticks x (mul binary64 y two25) (lt x plus_zero)) (sym e) (ticks_of_lem x f w (lt x plus_zero) refl)

pub rounded_half-n-requires : goal.rounded_half-n-requires
unfolding of_bits
rounded_half-n-requires c =
    let x = c.args.deg in
    in_reach x (mul binary64 c.size.result two25) (lt x plus_zero) (ticks x c.size.result (subst T (sym c.well_formed.0.1) tt) c.requires c.size.ensures)

pub signed-requires : goal.signed-requires
unfolding of_bits
signed-requires c =
    let x = c.args.deg in
    let t : Ticks x (mul binary64 c.size.result two25) (lt x plus_zero) = ticks x c.size.result (subst T (sym c.well_formed.0.1) tt) c.requires c.size.ensures in
    subst (λ (n : ℕ). n < 2 ^ 40) (sym (c.rounded_half-n.ensures ∙ half_is x (mul binary64 c.size.result two25) (lt x plus_zero) t)) (ticks_lt x (mul binary64 c.size.result two25) (lt x plus_zero) t)

pub returns : goal.returns
unfolding of_bits
returns c =
    let x = c.args.deg in
    let t : Ticks x (mul binary64 c.size.result two25) (lt x plus_zero) = ticks x c.size.result (subst T (sym c.well_formed.0.1) tt) c.requires c.size.ensures in
    to_z-of_z {w = w64} {z = c.signed.result} (record { sfits = c.signed.type_inv }) ∙ c.signed.ensures
    ∙ ap (λ (n : ℕ). cond (lt x plus_zero) (neg_ℤ (pos n)) (pos n)) (c.rounded_half-n.ensures ∙ half_is x (mul binary64 c.size.result two25) (lt x plus_zero) t) ∙ sym t.is
