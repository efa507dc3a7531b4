-- Fresh rows: what a fill makes is the definition's.
use mathlib.Core.Path.{◌≡◌, refl, ◌∙◌, ap, ap₂}
use Prim.Native.Nat.{ℕ, zero, suc, ◌<◌, ◌≤◌, ◌+◌}
use native.Mathlib.Omega.{arith}
use mathlib.Core.Bool.{cond}
use mathlib.Core.List.{List, [], ◌∷◌, map, ◌++◌, append_assoc}
use lib.Dec.{eqb, ltb}
use lib.ListN.{length, set, length-append}
use borrow.Author.Tests.{ltb-false}
use Rattle.walks.proofs.Fill.{filled}
use Rattle.table.specs.Rows as W
use Rattle.table.specs.Rows.{NONE, unmade_row}
use Rattle.table.specs.Watch.{fresh_rows}
use Rattle.table.proofs.Tests.{by_bool, eqb_yes}
use Rattle.receiver.specs.declared.Part.{Part}
use Rattle.receiver.specs.Calls.{unmade_part}
use Rattle.rows.specs.declared.Row.{Row}
use Rattle.rows.specs.Read.{row_is}
use Rattle.rows.specs.Links.{fresh_of, fresh_from}

set_mid : (pre rest : List Row) (x v : Row) → set (pre ++ x ∷ rest) (length pre) v ≡ (pre ++ v ∷ []) ++ rest
set_mid [] rest x v = refl
set_mid (y ∷ pre) rest x v = ap {B = List Row} (λ r. y ∷ r) (set_mid pre rest x v)

filled_from : (n : ℕ) (pre rest : List Row) → filled (fresh_of n) (length rest) (length pre) (pre ++ rest) ≡ pre ++ fresh_from n (length pre) (length rest)
unfolding filled
filled_from n pre [] = refl
filled_from n pre (x ∷ rest) =
    let v = fresh_of n (length pre) in
    let l : length pre + 1 ≡ length (pre ++ v ∷ []) = omega (arith, length-append pre (v ∷ [])) in
    let s : length (pre ++ v ∷ []) ≡ suc (length pre) = omega (arith, length-append pre (v ∷ [])) in
    ap₂ {C = List Row} (λ i z. filled (fresh_of n) (length rest) i z) l (set_mid pre rest x v) ∙ filled_from n (pre ++ v ∷ []) rest
    ∙ ap (λ (i : ℕ). (pre ++ v ∷ []) ++ fresh_from n i (length rest)) s ∙ append_assoc pre (v ∷ []) (fresh_from n (suc (length pre)) (length rest))

pub fills_all : (n : ℕ) (xs zs : List Row) → zs ≡ filled (fresh_of n) (length xs) 0 xs → zs ≡ fresh_from n 0 (length xs)
fills_all n xs zs e = e ∙ filled_from n [] xs

link_is : (C i : ℕ) → i < C → C ≤ 4096 → cond (ltb i 4095) (cond (eqb (i + 1) C) NONE (i + 1)) NONE ≡ cond (eqb (suc i) C) NONE (suc i)
link_is C i h k =
    let s : i + 1 ≡ suc i = omega arith in
    by_bool (ltb i 4095)
    (λ p. rw p (ap (λ (m : ℕ). cond (eqb m C) NONE m) s))
    (λ p. rw (p, eqb_yes (suc i) C (omega (arith, ltb-false i 4095 p, h, k))))

pub rows_are : (C i k : ℕ) → i + k ≡ C → C ≤ 4096 → map row_is (fresh_from C i k) ≡ fresh_rows unmade_part C i k
rows_are C i zero e h = refl
rows_are C i (suc k) e h = ap₂ {C = List (W.Row Part)} (λ n r. unmade_row unmade_part n ∷ r) (link_is C i (omega (arith, e)) h) (rows_are C (suc i) k (omega (arith, e)) h)
