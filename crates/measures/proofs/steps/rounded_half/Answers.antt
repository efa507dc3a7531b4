-- `rounded_half`: the shifted digits of y's pattern are y without its fraction.
use Rattle.std.proofs.Common.{ℕ, ◌+◌, ◌/◌, T, sym, ap, subst}
use lib.Ieee.{binary64, fits, le}
use Rattle.std.proofs.num.Truncating.{one, at_least_one, under_one, down_by, cut_down, below_one}
use Rattle.measures.proofs.Digits.{whole}
use Rattle.measures.proofs.steps.rounded_half.Goals as goal

pub overflow_sub-result : goal.overflow_sub-result
overflow_sub-result c =
    let y = c.args.y in
    let f : T (fits binary64 y) = subst T (sym c.well_formed.0.1) tt in
    (whole y f (at_least_one y c.if-y.true) c.requires.1).low

pub overflow_shr-result : goal.overflow_shr-result
overflow_shr-result c =
    let y = c.args.y in
    let f : T (fits binary64 y) = subst T (sym c.well_formed.0.1) tt in
    let o : T (le one y) = at_least_one y c.if-y.true in
    down_by y f o (whole y f o c.requires.1).wide

pub returns-then-y : goal.returns-then-y
returns-then-y c =
    let y = c.args.y in
    let f : T (fits binary64 y) = subst T (sym c.well_formed.0.1) tt in
    let o : T (le one y) = at_least_one y c.if-y.true in
    let w = whole y f o c.requires.1 in
    ap (λ (n : ℕ). (n + 1) / 2) (cut_down y f o w.wide w.low)

pub returns-else-y : goal.returns-else-y
returns-else-y c = ap (λ (n : ℕ). (n + 1) / 2) (below_one 64 c.args.y (under_one c.args.y c.if-y.false))
