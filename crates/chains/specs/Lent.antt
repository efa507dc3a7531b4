-- What a call leaves in lent rows, by its answer, and the two laws that each form of them meets: rows as they were are what a refusal leaves, and rows that pass
-- question 2 are what an accepted call leaves. Definitions, and the laws of records and of words.
use Rattle.std.specs.Prelude.{◌≡◌, ℕ, ◌≤◌, true, List, Option, map, length, refl}
use Rattle.std.specs.Borrow.{MutBor}
use Rattle.std.proofs.Common.{sym, arith}
use Rattle.table.specs.Machine as M
use Rattle.table.specs.Machine.{Answer, refused, said}
use Rattle.table.specs.Questions.{all_sound}
use Rattle.receiver.specs.Calls.{Out}
use Rattle.rows.specs.Read.{form, row_is}
use Rattle.rows.specs.declared.Row.{Row}
use Rattle.flat.specs.Table.{rows_of, Left}
use Rattle.flat.proofs.Closed.{all_closed}

pub record LeftLaws {X : Type 0} (rows_in : List X → List Row) (left : Answer Out → List X → List X → Type 0) : Type 0 where
  pub leaves : (n : ℕ) (xs : List X) → left (refused n) xs xs
  pub keeps : (pushed : Option M.Key) (out : Out) (xs ys : List X) → 1 ≤ length (rows_in ys) → all_sound form.sound (map row_is (rows_in ys)) ≡ true → left (said pushed out) xs ys

-- Of records: refused, those before; accepted, those that the call's equation says.
abbrev pub LeftRows : Answer Out → List Row → List Row → Type 0
LeftRows (refused n) before after = after ≡ before
LeftRows (said pushed out) before after = Unit {0}

abbrev pub same_rows : List Row → List Row
same_rows xs = xs

pub rows_left : LeftLaws same_rows LeftRows
rows_left = record { leaves = λ n xs. refl; keeps = λ pushed out xs ys some sound. tt }

pub words_left : LeftLaws rows_of Left
unfolding Left
words_left = record { leaves = λ n xs. refl; keeps = λ pushed out xs ys some sound. sym (all_closed ys some sound) }

-- a row's number has 32 bits
pub few_numbers : (n : ℕ) → n ≤ 4096 → n ≤ 4294967296
few_numbers n few = omega arith

-- The slice that was lent is lent still, and these are its rows.
abbrev pub Become : {X : Type 0} → (List X → List Row) → MutBor (List X) → MutBor (List X) → List Row → Type 0
Become rows_in old new rows = (new.ghost_name ≡ old.ghost_name) × (rows_in new.now ≡ rows)
