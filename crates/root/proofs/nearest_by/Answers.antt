-- `nearest_by`: what the two tests pass, `set_right` of `proofs/Guessed.antt` sets right.
use Rattle.std.proofs.Common.{◌≡◌, ℕ, ◌+◌, ◌-◌, ◌*◌, ◌/◌, ◌%◌, ◌^◌, ◌<◌, ◌≤◌, mul-le-mul, arith}
use Rattle.root.proofs.Guessed.{set_right}
use Rattle.root.proofs.nearest_by.Goals as goal

-- the two halves of the guess, and their products
module _ (q : ℕ) (small : q < 2 ^ 53) where
  abbrev s : ℕ
  s = q / 2 ^ 26

  abbrev t : ℕ
  t = q % 2 ^ 26

  s_le : s ≤ 2 ^ 27
  s_le = omega arith

  t_le : t ≤ 2 ^ 26
  t_le = omega arith

  ss_le : s * s ≤ 2 ^ 54
  ss_le = mul-le-mul s_le s_le

  st_le : s * t ≤ 2 ^ 53
  st_le = mul-le-mul s_le t_le

-- what the wrapped differences were
whole_left : (p m : ℕ) → (p + (2 ^ 64 - m)) % 2 ^ 64 < 2 ^ 30 → p < 2 ^ 54 → m ≤ 2 ^ 54 → p ≡ (p + (2 ^ 64 - m)) % 2 ^ 64 + m
whole_left p m h j k = omega arith

whole_rest : (a m s : ℕ) → (a + (2 ^ 64 - m * 2)) % 2 ^ 64 < s * 5 → s ≤ 2 ^ 27 → m ≤ 2 ^ 53 → a < 2 ^ 57 → (a + (2 ^ 64 - m * 2)) % 2 ^ 64 + m * 2 ≡ a
whole_rest a m s h k l j = omega arith

pub returns : goal.returns
returns c =
    let p = c.args.p.n in
    let q = c.in_ok-q.q in
    let s = q / 2 ^ 26 in
    let t = q % 2 ^ 26 in
    let within : (2 ^ 52 ≤ q) × (q < 2 ^ 53) = c.in_ok-q.ensures in
    let small = within.1 in
    set_right p q s t _ _ (omega arith) (omega (arith, within.0)) (omega arith)
    (whole_left p (s * s) c.if-left.false c.args.p.high (ss_le q small))
    (whole_rest _ (s * t) s c.if-w-s.false (s_le q small) (st_le q small) (omega (arith, c.if-left.false, s_le q small))) c.if-w-s.false
