-- The ways out of `fresh`. Facts on lists of rows alone.
use mathlib.Core.Path.{◌≡◌, sym, ap, ◌∙◌}
use Prim.Native.Nat.{ℕ, ◌≤◌, ◌*◌}
use mathlib.Core.Bool.{Bool, true, false, ◌&&◌}
use mathlib.Core.List.{List}
use lib.Dec.{eqb, leb}
use lib.ListN.{length, replicate}
use borrow.Author.Tests.{leb-true}
use Rattle.table.specs.Questions.{most}
use Rattle.table.proofs.Tests.{and_1, and_2}
use Rattle.cells.specs.Cells.{empty_word}
use Rattle.heard.specs.Heard.{width}
use Rattle.receiver.specs.Calls.{fresh_call}
use Rattle.rows.specs.declared.Row.{Row}
use Rattle.rows.specs.Read.{watch_is}
use Rattle.rows.specs.Links.{fresh_from}
use Rattle.rows.specs.Search.{sizes_of}
use Rattle.moves.specs.declared.Word.TheVariants as Wd
use Rattle.moves.specs.Answers.{Answer, outcome}
use Rattle.std.specs.Prelude.{Ok, Err}
use Rattle.table.specs.declared.Refusal.TheVariants as R
use Rattle.moves.proofs.Making.{fresh_no, fresh_yes}
use Rattle.scans.specs.declared.Ends.{Ends}
use Rattle.scans.specs.Ends.{ends_of, ends_is, fresh_ends}

module _ (xs : List Row) (n : ℕ) (ys ws : List ℕ) (t : Bool) (long : n ≡ length xs) (test : t ≡ sizes_of n (length ys)) where
  sizes : t ≡ sizes_of (length xs) (length ys)
  sizes = test ∙ ap (λ (j : ℕ). sizes_of j (length ys)) long

  pub few_rows : t ≡ true → length xs ≤ 4096
  unfolding most
  few_rows h =
      let most_rows = leb (length xs) most in
      let cells = eqb (length ys) (width * length xs) in
      leb-true (length xs) most (and_1 most_rows cells (and_2 (leb 1 (length xs)) (most_rows && cells) (sym sizes ∙ h)))

  pub fresh_not : (r : Answer) → t ≡ false → r ≡ Err R.Sizes → outcome r xs ys ws ≡ fresh_call (watch_is xs ys ws)
  fresh_not r h q = fresh_no xs ys ws t r sizes h q

  pub fresh_made :
      (zs : List Row) (cs vs : List ℕ) (d : Ends) (r : Answer) → t ≡ true → zs ≡ fresh_from (length xs) 0 (length xs) → cs ≡ replicate (length ys) empty_word → d ≡ fresh_ends
      → ends_is vs ≡ ends_of d → r ≡ Ok Wd.Done → outcome r zs cs vs ≡ fresh_call (watch_is xs ys ws)
  fresh_made zs cs vs d r h z c q k v = fresh_yes xs ys ws t zs cs vs d r sizes h z c q k v
