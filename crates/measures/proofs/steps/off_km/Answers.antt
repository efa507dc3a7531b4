-- `off_km`: the quotient is at most 160, so `half_up` takes it.
use Rattle.std.proofs.Common.{◌≡◌, ℕ, ◌*◌, ◌≤◌, T, max, sym, ap, ◌∙◌, subst, arith}
use lib.Ieee.{Float, binary64, div, of_bits}
use Rattle.measures.specs.Steps.{half_away, off_of, distance}
use Rattle.measures.proofs.Quotient.{quotient}
use Rattle.measures.proofs.steps.off_km.Goals as goal

few : (x : Float) (n : ℕ) → T (distance x) → n ≡ half_away (div binary64 x (of_bits binary64 4617315517961601024)) → n ≤ 160
unfolding of_bits
few x n d e = subst (λ (m : ℕ). m ≤ 160) (sym e) (quotient x d).bound

pub half_up-requires : goal.half_up-requires
unfolding of_bits
half_up-requires c = (quotient c.args.km c.requires).counts

pub overflow_mul-result : goal.overflow_mul-result
overflow_mul-result c = omega (arith, c.max.ensures, few c.args.km c.half_up.result c.requires c.half_up.ensures)

pub overflow_cast-result : goal.overflow_cast-result
overflow_cast-result c = omega (arith, c.max.ensures, few c.args.km c.half_up.result c.requires c.half_up.ensures)

pub returns : goal.returns
unfolding of_bits off_of
returns c = first c.max.result c.half_up.result c.max.ensures ∙ ap (λ (n : ℕ). 5 * max 1 n) c.half_up.ensures
  where
    first : (m n : ℕ) → m ≡ max n 1 → m * 5 ≡ 5 * max 1 n
    first m n e = omega arith
