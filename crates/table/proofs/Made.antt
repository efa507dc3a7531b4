-- A fresh watch stands for the empty list.
use mathlib.Core.Path.{◌≡◌, refl, ap, ◌∙◌, subst}
use Prim.Native.Nat.{ℕ, zero, suc, ◌+◌, ◌*◌, ◌≤◌, ◌<◌}
use native.Mathlib.Omega.{arith}
use native.Mathlib.Nat.{mul-suc}
use mathlib.Core.Bool.{cond}
use mathlib.Core.List.{List, [], ◌∷◌, ◌++◌}
use lib.Dec.{eqb}
use lib.ListN.{length, replicate, length-append}
use Rattle.table.specs.Rows.{NONE, Row, Form, row_at}
use Rattle.table.specs.Questions.{most}
use Rattle.table.specs.Watch.{fresh_rows, repeated, fresh_watch}
use Rattle.table.proofs.Tests.{eqb_yes, eqb_no}
use Rattle.table.proofs.Numbers.{first, Apart, Distinct}
use Rattle.table.proofs.Linked.{Freed}
use Rattle.table.proofs.Question2.{most_none}
use Rattle.table.proofs.Rep.{FormLaws, Rep}

-- n numbers from i
abbrev pub up_from : ℕ → ℕ → List ℕ
up_from i zero = []
up_from i (suc n) = i ∷ up_from (suc i) n

up_length : (i n : ℕ) → length (up_from i n) ≡ n
up_length i zero = refl
up_length i (suc n) = ap suc (up_length (suc i) n)

up_apart : (i j n : ℕ) → i < j → Apart i (up_from j n)
up_apart i j zero h = tt
up_apart i j (suc n) h = (omega arith, up_apart i (suc j) n (omega arith))

up_distinct : (i n : ℕ) → Distinct (up_from i n)
up_distinct i zero = tt
up_distinct i (suc n) = (up_apart i (suc i) n (omega arith), up_distinct (suc i) n)

module _ {P : Type 0} (u : P) (C : ℕ) where
  rows_length : (i n : ℕ) → length (fresh_rows u C i n) ≡ n
  rows_length i zero = refl
  rows_length i (suc n) = ap suc (rows_length (suc i) n)

  rows_part : (i n j : ℕ) → (row_at u (fresh_rows u C i n) j).part ≡ u
  rows_part i zero j = refl
  rows_part i (suc n) zero = refl
  rows_part i (suc n) (suc j) = rows_part (suc i) n j

  rows_next : (i n j : ℕ) → j < n → (row_at u (fresh_rows u C i n) j).next ≡ cond (eqb (suc (i + j)) C) NONE (suc (i + j))
  rows_next i zero j h = absurd (omega arith)
  rows_next i (suc n) zero h = let e : i + 0 ≡ i = omega arith in rw e
  rows_next i (suc n) (suc j) h = let e : i + suc j ≡ suc i + j = omega arith in rw e (rows_next (suc i) n j (omega arith))

  up_freed : (rows : List (Row P)) → length rows ≡ C → ((j : ℕ) → j < C → (row_at u rows j).next ≡ cond (eqb (suc j) C) NONE (suc j)) → (i n : ℕ) → i + n ≡ C → Freed u rows (up_from i n)
  up_freed rows e f i zero h = tt
  up_freed rows e f i (suc n) h = (omega arith, f i (omega arith) ∙ follows n h, up_freed rows e f (suc i) n (omega arith))
    where
      follows : (n : ℕ) → i + suc n ≡ C → cond (eqb (suc i) C) NONE (suc i) ≡ first (up_from (suc i) n) NONE
      follows zero h = rw (eqb_yes (suc i) C (omega arith))
      follows (suc n) h = rw (eqb_no (suc i) C (omega arith))

repeated_length : (n : ℕ) (l : List ℕ) → length (repeated n l) ≡ length l * n
repeated_length zero l = omega arith
repeated_length (suc n) l = omega (arith, length-append l (repeated n l), repeated_length n l, mul-suc (length l) n)

module _ {P : Type 0} (F : Form P) (law : FormLaws F) (C : ℕ) (one : 1 ≤ C) (most? : C ≤ most) where
  pub fresh_rep : Rep F C (fresh_watch F C) [] [] (up_from 0 C)
  unfolding fresh_watch
  fresh_rep = record {
    chained = record {
      linked = tt;
      freed = up_freed F.unmade C (fresh_rows F.unmade C 0 C) (rows_length F.unmade C 0 C) (λ j h. let e : 0 + j ≡ j = omega arith in subst (λ (x : ℕ). (row_at F.unmade (fresh_rows F.unmade C 0 C) j).next ≡ cond (eqb (suc x) C) NONE (suc x)) e (rows_next F.unmade C 0 C j h)) 0 C (omega arith);
      head_is = refl;
      tail_is = refl;
      free_is = starts C one;
      distinct = up_distinct 0 C;
      small = omega (arith, rows_length F.unmade C 0 C, most_none);
    };
    count = omega (arith, up_length 0 C);
    rows_long = rows_length F.unmade C 0 C;
    cells_long = repeated_length C F.blank ∙ ap (λ (n : ℕ). n * C) law.blank_wide;
    sound_at = λ j. rw (rows_part F.unmade C 0 C j) law.unmade_sound;
    table = refl;
  }
    where
      starts : (n : ℕ) → 1 ≤ n → cond (eqb n 0) NONE 0 ≡ first (up_from 0 n) NONE
      starts zero h = absurd (omega arith)
      starts (suc n) h = rw (eqb_no (suc n) 0 (omega arith))

-- for code that empties cells one by one: n rows of W equal cells are W × n of them
pub repeated_same : (W e n : ℕ) → repeated n (replicate W e) ≡ replicate (W * n) e
repeated_same W e zero = let z : W * 0 ≡ 0 = omega arith in rw z
repeated_same W e (suc n) =
    let s : W * suc n ≡ W + W * n = omega (arith, mul-suc W n) in
    rw (s, repeated_same W e n) (more W (W * n))
  where
    more : (a b : ℕ) → replicate a e ++ replicate b e ≡ replicate (a + b) e
    more zero b = let z : 0 + b ≡ b = omega arith in rw z
    more (suc a) b = let s : suc a + b ≡ suc (a + b) = omega arith in rw s (ap {B = List ℕ} (λ l. e ∷ l) (more a b))
