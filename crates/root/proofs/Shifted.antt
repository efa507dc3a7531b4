-- The digits of a smallest value brought to their place: shifted over its leading zeros, m has 53 digits. Assumes nothing.
use Rattle.std.proofs.Common.{◌≡◌, ℕ, suc, ◌+◌, ◌-◌, ◌*◌, ◌^◌, ◌<◌, ◌≤◌, sym, ap, ◌∙◌, subst, le_trans, lt_irrefl, lt_of_not-le, lt_of_lt_of_le, lt_of_le_of_lt, mul_assoc, mul-le-mul_right, pow-add, arith}
use Rattle.std.specs.Int.Count.{count_leading_zeros}
use Rattle.std.proofs.lemmas.Nat.{leading_top, pow_pos}
use Rattle.std.proofs.Math.Nat.{pow-le-pow_right, mul-lt-mul_of_pos_right}

-- f places of m * 2 ^ h
pub record Shifted (m h f : ℕ) : Type 0 where
  pub places : f ≤ h
  pub low : 2 ^ 52 ≤ m * 2 ^ f
  pub high : m * 2 ^ f < 2 ^ 53
  pub same : m * 2 ^ f * 2 ^ (h - f) ≡ m * 2 ^ h

back : (f h : ℕ) → f ≤ h → f + (h - f) ≡ h
back f h l = omega arith

next : (j f : ℕ) → j + f ≡ 52 → suc j + f ≡ 53
next j f e = omega arith

-- m has j + 1 digits
module _ (m h j f : ℕ) (all : j + f ≡ 52) (lower : 2 ^ j ≤ m) (upper : m < 2 ^ suc j) (large : 2 ^ 52 ≤ m * 2 ^ h) where
  least : 2 ^ 52 ≤ m * 2 ^ f
  least = subst (λ (x : ℕ). x ≤ m * 2 ^ f) (sym (pow-add 2 j f) ∙ ap (λ (x : ℕ). 2 ^ x) all) (mul-le-mul_right (2 ^ f) lower)

  most : (k : ℕ) → m * 2 ^ k < 2 ^ (suc j + k)
  most k = subst (λ (x : ℕ). m * 2 ^ k < x) (sym (pow-add 2 (suc j) k)) (mul-lt-mul_of_pos_right upper (pow_pos k))

  enough : suc j + h ≤ 52 → ⊥
  enough k = lt_irrefl (2 ^ 52) (lt_of_le_of_lt large (lt_of_lt_of_le (most h) (pow-le-pow_right {n = 2} (omega arith) k)))

  within : f ≤ h
  within = go j h f all (lt_of_not-le enough)
    where
      go : (j h f : ℕ) → j + f ≡ 52 → 52 < suc j + h → f ≤ h
      go j h f e l = omega arith

  shifted : Shifted m h f
  shifted = record {
    places = within;
    low = least;
    high = subst (λ (x : ℕ). m * 2 ^ f < 2 ^ x) (next j f all) (most f);
    same = mul_assoc m (2 ^ f) (2 ^ (h - f)) ∙ ap (λ (x : ℕ). m * x) (sym (pow-add 2 f (h - f)) ∙ ap (λ (x : ℕ). 2 ^ x) (back f h within));
  }

-- at most 53 digits
few : (m j : ℕ) → m < 2 ^ 53 → 2 ^ j ≤ m → j < 53
few m j h l = lt_of_not-le (λ (k : 53 ≤ j). lt_irrefl m (lt_of_lt_of_le h (le_trans (pow-le-pow_right {n = 2} (omega arith) k) l)))

module _ (m : ℕ) (some : 0 < m) (digits : m < 2 ^ 53) where
  abbrev top : (j : ℕ) × (count_leading_zeros 64 m + suc j ≡ 64) × (2 ^ j ≤ m) × (m < 2 ^ suc j)
  top = leading_top 64 m some (omega arith)

  pub room : 11 ≤ count_leading_zeros 64 m
  room = omega (arith, top.1, few m top.0 digits top.2)

  pub in_place : (h : ℕ) → 2 ^ 52 ≤ m * 2 ^ h → Shifted m h (count_leading_zeros 64 m - 11)
  in_place h l = shifted m h top.0 (count_leading_zeros 64 m - 11) (omega (arith, room, top.1)) top.2 top.3 l
