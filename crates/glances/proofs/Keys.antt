-- Two keys are the same if their four words are: eight bytes make one word and come back from it.
use mathlib.Core.Path.{◌≡◌, refl, sym, ap, ap₂, ◌∙◌}
use Prim.Native.Nat.{ℕ, ◌≤◌, ◌<◌}
use native.Mathlib.Omega.{arith}
use mathlib.Core.Bool.{Bool, true, false, ◌&&◌}
use mathlib.Core.List.{List, [], ◌∷◌, ◌++◌}
use borrow.Author.Tests.{eqb-true, eqb-false}
use lib.Dec.{eqb}
use lib.ListN.{length, get_or}
use Rattle.table.specs.Machine.{same}
use Rattle.table.proofs.Tests.{by_bool}
use Rattle.table.proofs.Keys.{same_refl, same_eq}
use Rattle.std.specs.Int.{w64, from_le_bytes, to_le_bytes}
use Rattle.packing.specs.Words.{most64, key_of}
use Rattle.packing.proofs.Keys.{word_back}

same_bytes_lem : (x y : ℕ) → x ≤ most64 → y ≤ most64 → same (to_le_bytes w64 x) (to_le_bytes w64 y) ≡ eqb x y
same_bytes_lem x y hx hy =
    by_bool (eqb x y) (λ e. ap (λ (n : ℕ). same (to_le_bytes w64 x) (to_le_bytes w64 n)) (sym (eqb-true x y e)) ∙ same_refl (to_le_bytes w64 x) ∙ sym e) (λ e. by_bool (same (to_le_bytes w64 x) (to_le_bytes w64 y)) (λ s. absurd (eqb-false x y e (equal s))) (λ s. s ∙ sym e))
  where
    equal : same (to_le_bytes w64 x) (to_le_bytes w64 y) ≡ true → x ≡ y
    equal s = sym (word_back x hx) ∙ ap (from_le_bytes w64) (same_eq (to_le_bytes w64 x) (to_le_bytes w64 y) s) ∙ word_back y hy

and_assoc : (a b c : Bool) → (a && (b && c)) ≡ ((a && b) && c)
and_assoc true b c = refl
and_assoc false b c = refl

same_append : (p q r s : List ℕ) → length p ≡ length q → same (p ++ r) (q ++ s) ≡ (same p q && same r s)
same_append [] [] r s e = refl
same_append [] (b ∷ q) r s e = absurd (omega arith)
same_append (a ∷ p) [] r s e = absurd (omega arith)
same_append (a ∷ p) (b ∷ q) r s e = ap (λ (t : Bool). eqb a b && t) (same_append p q r s (omega arith)) ∙ and_assoc (eqb a b) (same p q) (same r s)

-- the four tests, of words in range
module _ (ks ws : List ℕ) (hk : (i : ℕ) → get_or ks i 0 < 18446744073709551616) (hw : (i : ℕ) → get_or ws i 0 < 18446744073709551616) where
  low : (n : ℕ) → n < 18446744073709551616 → n ≤ most64
  unfolding most64
  low n h = omega arith

  abbrev test : ℕ → Bool
  test i = eqb (get_or ks i 0) (get_or ws i 0)

  one : (i : ℕ) → same (to_le_bytes w64 (get_or ks i 0)) (to_le_bytes w64 (get_or ws i 0)) ≡ test i
  one i = same_bytes_lem (get_or ks i 0) (get_or ws i 0) (low _ (hk i)) (low _ (hw i))

  more : (i : ℕ) (r s : List ℕ) (t : Bool) → same r s ≡ t → same (to_le_bytes w64 (get_or ks i 0) ++ r) (to_le_bytes w64 (get_or ws i 0) ++ s) ≡ (test i && t)
  more i r s t e = same_append (to_le_bytes w64 (get_or ks i 0)) (to_le_bytes w64 (get_or ws i 0)) r s refl ∙ ap₂ {C = Bool} (λ u v. u && v) (one i) e

  pub same_by_words : (r : Bool) → r ≡ (test 0 && (test 1 && (test 2 && test 3))) → r ≡ same (key_of ks) (key_of ws)
  unfolding key_of
  same_by_words r e =
      let k : ℕ → List ℕ = λ i. to_le_bytes w64 (get_or ks i 0) in
      let w : ℕ → List ℕ = λ i. to_le_bytes w64 (get_or ws i 0) in
      e ∙ sym (more 0 (k 1 ++ (k 2 ++ k 3)) (w 1 ++ (w 2 ++ w 3)) _ (more 1 (k 2 ++ k 3) (w 2 ++ w 3) _ (more 2 (k 3) (w 3) _ (one 3))))
