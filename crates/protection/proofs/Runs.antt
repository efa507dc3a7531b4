-- The test `held` says of a run what `HeldWrong` says (`held_means`, `means_held`).
use mathlib.Core.Path.{◌≡◌, refl, sym, ap, subst}
use mathlib.Core.Bool.{Bool, true, false, not, ◌&&◌}
use mathlib.Core.List.{[], ◌∷◌, ◌++◌}
use Rattle.near_field.specs.declared.Judgment.{Judgment}
use Rattle.table.proofs.Tests.{by_bool, clash, and_1, and_2, or_1, or_2}
use Rattle.protection.specs.Run.{Run, is_wrong, is_other, three_newest, no_three_other, HeldWrong, held}

not_true : (b : Bool) → not b ≡ true → b ≡ false
not_true true e = sym e
not_true false e = refl

-- three newest stay the three newest when older ones are added
three_longer : (p : Judgment → Bool) (l m : Run) → three_newest p l ≡ true → three_newest p (l ++ m) ≡ true
three_longer p [] m t = clash t refl
three_longer p (a ∷ []) m t = clash t refl
three_longer p (a ∷ b ∷ []) m t = clash t refl
three_longer p (a ∷ b ∷ c ∷ l) m t = t

-- THERE: what the test finds
pub held_means : (r : Run) → held r ≡ true → HeldWrong r
held_means [] t = clash t refl
held_means (j ∷ r) t =
    by_bool (three_newest is_wrong (j ∷ r))
    (λ p. record { later = []; earlier = j ∷ r; split = refl; three = p; quiet = refl })
    (λ p. go (rw p at t) (λ h. held_means r h))
  where
    more : HeldWrong r → three_newest is_other (j ∷ r) ≡ false → HeldWrong (j ∷ r)
    more h n =
        let q : three_newest is_other (j ∷ h.later) ≡ false = by_bool (three_newest is_other (j ∷ h.later)) (λ s. clash (subst (λ (l : Run). three_newest is_other (j ∷ l) ≡ true) (sym h.split) (three_longer is_other (j ∷ h.later) h.earlier s)) n) (λ s. s) in
        record { later = j ∷ h.later; earlier = h.earlier; split = ap {B = Run} (λ l. j ∷ l) h.split; three = h.three; quiet = rw q h.quiet }

    go : (not (three_newest is_other (j ∷ r)) && held r) ≡ true → (held r ≡ true → HeldWrong r) → HeldWrong (j ∷ r)
    go u ih = more (ih (and_2 (not (three_newest is_other (j ∷ r))) (held r) u)) (not_true (three_newest is_other (j ∷ r)) (and_1 (not (three_newest is_other (j ∷ r))) (held r) u))

-- BACK: three Wrongs break a row of others
second : (x y z u : Bool) → (y && z && u) ≡ true → (not x && not y && not z) ≡ false
second true y z u t = refl
second false true z u t = refl
second false false z u t = clash t refl

third : (x y z u v : Bool) → (z && u && v) ≡ true → (not x && not y && not z) ≡ false
third true y z u v t = refl
third false true z u v t = refl
third false false true u v t = refl
third false false false u v t = clash t refl

no_three : (j : Judgment) (l e : Run) → three_newest is_wrong e ≡ true → three_newest is_other (j ∷ l) ≡ false → three_newest is_other (j ∷ (l ++ e)) ≡ false
no_three j [] [] w n = clash w refl
no_three j [] (a ∷ []) w n = clash w refl
no_three j [] (a ∷ b ∷ []) w n = clash w refl
no_three j [] (a ∷ b ∷ c ∷ e) w n = second (is_wrong j) (is_wrong a) (is_wrong b) (is_wrong c) w
no_three j (x ∷ []) [] w n = clash w refl
no_three j (x ∷ []) (a ∷ []) w n = clash w refl
no_three j (x ∷ []) (a ∷ b ∷ []) w n = clash w refl
no_three j (x ∷ []) (a ∷ b ∷ c ∷ e) w n = third (is_wrong j) (is_wrong x) (is_wrong a) (is_wrong b) (is_wrong c) w
no_three j (x ∷ y ∷ l) e w n = n

held_append : (l e : Run) → three_newest is_wrong e ≡ true → no_three_other l ≡ true → held (l ++ e) ≡ true
held_append [] [] w q = clash w refl
held_append [] (a ∷ e) w q = or_1 (three_newest is_wrong (a ∷ e)) (not (three_newest is_other (a ∷ e)) && held e) w
held_append (j ∷ l) e w q =
    let a = not (three_newest is_other (j ∷ l)) in
    let n = no_three j l e w (not_true (three_newest is_other (j ∷ l)) (and_1 a (no_three_other l) q)) in
    or_2 (three_newest is_wrong (j ∷ (l ++ e))) (not (three_newest is_other (j ∷ (l ++ e))) && held (l ++ e))
    (rw n (held_append l e w (and_2 a (no_three_other l) q)))

pub means_held : (r : Run) → HeldWrong r → held r ≡ true
means_held r h = subst (λ (l : Run). held l ≡ true) (sym h.split) (held_append h.later h.earlier h.three h.quiet)
