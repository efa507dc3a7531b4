-- `root_pattern`: shifted into place, m keeps its value, and `pattern_of` reads the result.
use Rattle.std.proofs.Common.{◌≡◌, refl, zero-mul, Bool, true, false, ltb, ℕ, ◌+◌, ◌*◌, ◌-◌, ◌%◌, ◌^◌, ◌<◌, ◌≤◌, sym, ap, ◌∙◌, subst, arith}
use Rattle.std.specs.Int.Count.{count_leading_zeros}
use borrow.Author.Tests.{ltb-true, ltb-false}
use Rattle.root.proofs.Whole.{twice_at_most, once_at_least}
use Rattle.root.specs.Root.{nearest54}
use Rattle.root.proofs.Guessed.{nearest_le}
use Rattle.root.proofs.Pattern.{pattern_of}
use Rattle.root.proofs.Shifted.{Shifted, room, in_place}
use Rattle.root.proofs.root_pattern.Goals as goal

-- the shift drops no digit
module _ (m h : ℕ) (digits : m < 2 ^ 53) (large : 2 ^ 52 ≤ m * 2 ^ h) where
  some : 0 < m
  some = by (ltb 0 m) refl
    where
      none : m ≡ 0 → m * 2 ^ h ≡ 0
      none e = ap (λ (x : ℕ). x * 2 ^ h) e ∙ zero-mul (2 ^ h)

      by : (b : Bool) → ltb 0 m ≡ b → 0 < m
      by true e = ltb-true 0 m e
      by false e = absurd (omega (arith, large, none (omega (arith, ltb-false 0 m e))))

  abbrev f : ℕ
  f = count_leading_zeros 64 m - 11

  abbrev n : ℕ
  n = m * 2 ^ f % 2 ^ 64

  abbrev k : ℕ
  k = h - f

  put : Shifted m h f
  put = in_place m some digits h large

  whole : n ≡ m * 2 ^ f
  whole = omega (arith, put.high)

  low : 2 ^ 52 ≤ n
  low = omega (arith, whole, put.low)

  high : n < 2 ^ 53
  high = omega (arith, whole, put.high)

  same : n * 2 ^ k ≡ m * 2 ^ h
  same = ap (λ (x : ℕ). x * 2 ^ k) whole ∙ put.same

  within : n * (k % 2 + 1) < 2 ^ 54
  within = twice_at_most n (k % 2) high (omega arith)

  -- the nearest has 53 digits, or is the number after them
  small : (c : ℕ) → c ≡ nearest54 (n * (k % 2 + 1)) → c ≤ 2 ^ 53
  small c e = subst (λ (r : ℕ). r ≤ 2 ^ 53) (sym e) (nearest_le (n * (k % 2 + 1)) within)

pub overflow_sub-free : goal.overflow_sub-free
overflow_sub-free c = room c.args.m (some c.args.m c.args.h c.requires.0 c.requires.2) c.requires.0

pub overflow_sub-k : goal.overflow_sub-k
overflow_sub-k c = (put c.args.m c.args.h c.requires.0 c.requires.2).places

pub overflow_mul-p : goal.overflow_mul-p
overflow_mul-p c = omega (arith, within c.args.m c.args.h c.requires.0 c.requires.2)

pub invariant_of-p : goal.invariant_of-p
invariant_of-p c =
    let r = c.requires in
    record { low = once_at_least (n c.args.m c.args.h r.0 r.2) _ (low c.args.m c.args.h r.0 r.2); high = within c.args.m c.args.h r.0 r.2 }

pub overflow_add-result-2 : goal.overflow_add-result-2
overflow_add-result-2 c =
    omega (arith, c.requires.1, small c.args.m c.args.h c.requires.0 c.requires.2 c.nearest54.result c.nearest54.ensures)

pub returns : goal.returns
returns c =
    let m = c.args.m in
    let h = c.args.h in
    let r = c.requires in (
      λ u e. pattern_of u (n m h r.0 r.2) (k m h r.0 r.2) c.nearest54.result (low m h r.0 r.2) (high m h r.0 r.2)
          (same m h r.0 r.2 ∙ e) (omega (arith, r.1)) c.nearest54.ensures,
      omega (arith, r.1, small m h r.0 r.2 c.nearest54.result c.nearest54.ensures),
    )
