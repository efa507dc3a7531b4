-- Where reading stands in a text. Definitions only.
use Rattle.std.specs.Prelude.{ℕ, List}

-- the next field starts at `at`, and a `sep` ends it
pub record Reading : Type 0 where
  pub text : List ℕ
  pub at : ℕ
  pub sep : ℕ
