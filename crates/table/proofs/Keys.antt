-- The test `same` is equality of keys.
use mathlib.Core.Path.{◌≡◌, refl, sym, ap₂, ◌∙◌}
use mathlib.Core.Bool.{true}
use mathlib.Core.List.{[], ◌∷◌}
use lib.Dec.{eqb, eqb_refl}
use Rattle.table.specs.Machine.{Key, same}
use Rattle.table.proofs.Tests.{by_bool, clash, T_true, and_1, and_2, eqb_true}

pub same_refl : (k : Key) → same k k ≡ true
same_refl [] = refl
same_refl (a ∷ k) = rw (T_true (eqb a a) (eqb_refl a)) (same_refl k)

pub same_eq : (k l : Key) → same k l ≡ true → k ≡ l
same_eq [] [] e = refl
same_eq [] (b ∷ l) e = clash e refl
same_eq (a ∷ k) [] e = clash e refl
same_eq (a ∷ k) (b ∷ l) e = ap₂ {C = Key} (λ x y. x ∷ y) (eqb_true a b (and_1 (eqb a b) (same k l) e)) (same_eq k l (and_2 (eqb a b) (same k l) e))

pub same_flip : (k l : Key) → same k l ≡ same l k
same_flip k l = by_bool (same k l) (λ p. rw (same_eq k l p)) (λ p. by_bool (same l k) (λ q. clash (rw (same_eq l k q) (same_refl k)) p) (λ q. p ∙ sym q))

-- two keys that are the same have the same tests
pub same_as : (x k l : Key) → same k l ≡ true → same x l ≡ same x k
same_as x k l p = rw (same_eq k l p)
