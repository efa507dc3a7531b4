-- A fresh watch: what `fresh` leaves is the definition's. Facts on lists alone.
use mathlib.Core.Path.{◌≡◌, sym, ◌∙◌, ap, ap₂}
use Prim.Native.Nat.{ℕ, ◌≤◌, ◌*◌}
use native.Mathlib.Omega.{arith}
use mathlib.Core.Bool.{Bool, true, false, ◌&&◌}
use mathlib.Core.List.{List, map}
use lib.Dec.{eqb, leb}
use lib.ListN.{length, replicate}
use borrow.Author.Tests.{eqb-true, leb-true}
use Rattle.table.specs.Machine.{Step}
use Rattle.table.specs.Rows.{Watch}
use Rattle.table.specs.Questions.{most, question1}
use Rattle.table.specs.Watch.{fresh_watch, repeated}
use Rattle.table.proofs.Tests.{and_1, and_2, eqb_no}
use Rattle.table.proofs.Made.{repeated_same}
use Rattle.cells.specs.Cells.{empty_word}
use Rattle.receiver.specs.declared.Part.{Part}
use Rattle.heard.specs.Heard.{width, empty_cells}
use Rattle.receiver.specs.Calls.{Out, fresh_call}
use Rattle.rows.specs.declared.Row.{Row}
use Rattle.rows.specs.Read.{form, row_is, watch_is}
use Rattle.rows.specs.Links.{fresh_from}
use Rattle.rows.specs.Search.{sizes_of}
use Rattle.rows.proofs.Chains.{rows_long_lem}
use Rattle.rows.proofs.Making.{rows_are}
use Rattle.moves.specs.declared.Word.TheVariants as Wd
use Rattle.moves.specs.Answers.{Answer, answer_is, outcome}
use Rattle.std.specs.Prelude.{Ok, Err}
use Rattle.table.specs.declared.Refusal.TheVariants as R
use Rattle.scans.specs.declared.Ends.{Ends}
use Rattle.scans.specs.Ends.{ends_of, ends_is, fresh_ends}

sizes_so : (xs : List Row) (ys ws : List ℕ) → question1 form (watch_is xs ys ws) ≡ sizes_of (length xs) (length ys)
unfolding question1
sizes_so xs ys ws = rw (rows_long_lem xs)

pub fresh_no : (xs : List Row) (ys ws : List ℕ) (t : Bool) (r : Answer) → t ≡ sizes_of (length xs) (length ys) → t ≡ false → r ≡ Err R.Sizes → outcome r xs ys ws ≡ fresh_call (watch_is xs ys ws)
fresh_no xs ys ws t r e h v =
    let s : question1 form (watch_is xs ys ws) ≡ false = sizes_so xs ys ws ∙ sym e ∙ h in
    ap {B = Step (Watch Part) Out} (λ (x : Answer). record { next = watch_is xs ys ws; answer = answer_is x }) v ∙ sym (rw s)

cells_are : (n : ℕ) → replicate (width * n) empty_word ≡ repeated n empty_cells
unfolding empty_cells
cells_are n = sym (repeated_same width empty_word n)

pub fresh_yes : (xs : List Row) (ys ws : List ℕ) (t : Bool) (zs : List Row) (cs vs : List ℕ) (d : Ends) (r : Answer) → t ≡ sizes_of (length xs) (length ys) → t ≡ true → zs ≡ fresh_from (length xs) 0 (length xs) → cs ≡ replicate (length ys) empty_word → d ≡ fresh_ends → ends_is vs ≡ ends_of d
    → r ≡ Ok Wd.Done → outcome r zs cs vs ≡ fresh_call (watch_is xs ys ws)
unfolding fresh_watch most
fresh_yes xs ys ws t zs cs vs d r e h z c q k v =
    let o : sizes_of (length xs) (length ys) ≡ true = sym e ∙ h in
    let s : question1 form (watch_is xs ys ws) ≡ true = sizes_so xs ys ws ∙ o in
    let b = and_2 (leb 1 (length xs)) (leb (length xs) most && eqb (length ys) (width * length xs)) o in
    let some_row : 1 ≤ length xs = leb-true 1 (length xs) (and_1 (leb 1 (length xs)) (leb (length xs) most && eqb (length ys) (width * length xs)) o) in
    let most_rows : length xs ≤ 4096 = leb-true (length xs) most (and_1 (leb (length xs) most) (eqb (length ys) (width * length xs)) b) in
    let many : length ys ≡ width * length xs = eqb-true (length ys) (width * length xs) (and_2 (leb (length xs) most) (eqb (length ys) (width * length xs)) b) in
    let made : watch_is zs cs vs ≡ fresh_watch form (length (map row_is xs)) = rw (rows_long_lem xs, k, q, z, c, many, cells_are (length xs), rows_are (length xs) 0 (length xs) (omega arith) most_rows, eqb_no (length xs) 0 (λ x. omega (arith, x, some_row))) in
    ap₂ {C = Step (Watch Part) Out} (λ (x : Watch Part) (y : Answer). record { next = x; answer = answer_is y }) made v ∙ sym (rw s)
