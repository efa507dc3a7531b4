-- A round of ticks (02, 'Item 1. Turns for the half-hour round'): "Every row number is named within C div k ticks of the same k, one more if that leaves a
-- remainder, each accepted and handed the number the last answered, whatever is claimed or taken out meanwhile." The statement; proofs/Round has its proof.
use Rattle.std.specs.Prelude.{◌≡◌, ℕ, suc, ◌+◌, ◌/◌, ◌%◌, ◌<◌, true, cond, List, [], ◌++◌, eqb, length}
use Rattle.table.specs.Rows.{Watch, Form}
use Rattle.table.specs.Questions.{among}
use Rattle.turns.specs.Turn.{gave, named_by, turn_on}

-- n ticks of the same k, the first handed `next`, "each accepted and handed the number the last answered", and the rows that they name. At each tick
-- stands any watch of C rows and is lent any list: "whatever is claimed or taken out meanwhile".
pub data Ticks {P : Type 0} (F : Form P) (C k : ℕ) : ℕ → ℕ → List ℕ → Type 0 where
  over : {next : ℕ} → Ticks F C k next 0 []
  tick : {next count answered n : ℕ} {rows : List ℕ} (w : Watch P) (list : List ℕ) → length w.rows ≡ C → (turn_on F w next k list).answer ≡ gave count answered → Ticks F C k answered n rows → Ticks F C k next (suc n) (named_by C next k ++ rows)

-- "C div k ticks .. one more if that leaves a remainder"
abbrev pub ticks_of : ℕ → ℕ → ℕ
ticks_of C k = C / k + cond (eqb (C % k) 0) 0 1

-- "Every row number is named"
abbrev pub EveryRowNamed : Type 1
EveryRowNamed = (P : Type 0) (F : Form P) (C k next : ℕ) (rows : List ℕ) → Ticks F C k next (ticks_of C k) rows → (i : ℕ) → i < C → among i rows ≡ true
