-- Question 2 as one walk along each chain, C steps at most: the test that code runs. Definitions only; proofs/Walk shows it equal to `question2`.
use Rattle.std.specs.Prelude.{ℕ, zero, suc, ◌+◌, Bool, false, not, cond, ◌&&◌, ◌||◌, List, ltb, eqb, length}
use Rattle.table.specs.Rows.{NONE, Row, Watch, Form, row_at}
use Rattle.table.specs.Questions.{all_sound}

-- what a walk finds: broken, or how many rows and the last one
pub data Walked : Type 0 where
  broken : Walked
  ended : ℕ → ℕ → Walked

-- Both end; together they are all rows; the used chain's last row is the tail. Both follow the links after, so two chains that shared a row
-- would share their last one.
abbrev pub chains_fit : ℕ → ℕ → Walked → Walked → Bool
chains_fit C tail broken b = false
chains_fit C tail (ended n l) broken = false
chains_fit C tail (ended n l) (ended m e) = eqb (n + m) C && (eqb l tail && (eqb n 0 || (eqb m 0 || not (eqb l e))))

-- u is the unmade part
module _ {P : Type 0} (u : P) where
  -- the used chain from row `at`, whose back link has to be `p`, after n rows
  abbrev pub walk_used : List (Row P) → ℕ → ℕ → ℕ → ℕ → Walked
  walk_used rows zero n p at = cond (eqb at NONE) (ended n p) broken
  walk_used rows (suc f) n p at =
      cond (eqb at NONE) (ended n p)
      (cond (ltb at (length rows) && eqb (row_at u rows at).prev p) (walk_used rows f (suc n) at (row_at u rows at).next) broken)

  -- the free chain, which uses only the links after
  abbrev pub walk_free : List (Row P) → ℕ → ℕ → ℕ → ℕ → Walked
  walk_free rows zero n p at = cond (eqb at NONE) (ended n p) broken
  walk_free rows (suc f) n p at =
      cond (eqb at NONE) (ended n p)
      (cond (ltb at (length rows)) (walk_free rows f (suc n) at (row_at u rows at).next) broken)

unfoldable pub well_formed : {P : Type 0} → Form P → Watch P → Bool
well_formed F w =
    chains_fit (length w.rows) w.ends.tail
    (walk_used F.unmade w.rows (length w.rows) 0 NONE w.ends.head)
    (walk_free F.unmade w.rows (length w.rows) 0 NONE w.ends.free)
    && all_sound F.sound w.rows
