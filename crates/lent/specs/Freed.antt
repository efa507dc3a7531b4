-- What a call answers that frees a row. Definitions only.
use Rattle.std.specs.Prelude.{ℕ, List, get_or, Ok}
use Rattle.rows.specs.Links.{blank}
use Rattle.rows.specs.declared.Row.{Row}
use Rattle.moves.specs.Answers.{Answer}
use Rattle.moves.specs.declared.Word.TheVariants as Wd

abbrev pub freed_at : List Row → ℕ → Answer
freed_at rows i = Ok (Wd.Freed (get_or rows i blank).key)
