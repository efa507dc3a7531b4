-- Sizes that do not fit are refused; else rows, cells and ends are fresh (`fresh_not`, `fresh_made`).
use Rattle.std.proofs.Common.{ℕ, length, refl, ap, ◌∙◌, Ok, Err}
use Rattle.table.specs.declared.Refusal.TheVariants as R
use Rattle.moves.specs.declared.Word.TheVariants as Wd
use Rattle.rows.specs.Links.{fresh_from}
use Rattle.rows.proofs.Passed.{no_ok}
use Rattle.lent.proofs.Making.{few_rows, fresh_not, fresh_made}
use Rattle.lent.proofs.Exit.{told_fresh}
use Rattle.lent.proofs.fresh.Goals as goal

pub returns-then-not-sizes_fit : goal.returns-then-not-sizes_fit
returns-then-not-sizes_fit g c =
    let a = c.args in
    told_fresh g.met.W.Lent.leaves _ _ _ a.ends.now (Err R.Sizes) (λ x q. refl) _
    (fresh_not (g.W.Lent.rows_in a.rows.now) _ a.cells.now a.ends.now _ c.count-n.ensures c.sizes_fit.ensures _ c.if-not-sizes_fit.true refl)

pub fresh_rows-requires : goal.fresh_rows-requires
fresh_rows-requires g c =
    let a = c.args in
    g.met.W.Lent.makes _ (few_rows (g.W.Lent.rows_in a.rows.now) _ a.cells.now a.ends.now _ c.count-n.ensures c.sizes_fit.ensures c.if-not-sizes_fit.false)

pub returns : goal.returns
returns g c =
    let a = c.args in
    let xs = g.W.Lent.rows_in a.rows.now in
    told_fresh g.met.W.Lent.leaves _ _ _ c.into.result (Ok Wd.Done) (λ x q. no_ok q) _
    (fresh_made xs _ a.cells.now a.ends.now _ c.count-n.ensures c.sizes_fit.ensures _ _ c.into.result c.fresh_ends.result _
    c.if-not-sizes_fit.false (c.fresh_rows.ensures ∙ ap (λ (n : ℕ). fresh_from n 0 (length xs)) c.count-n.ensures) c.fresh_cells.ensures c.fresh_ends.ensures c.into.ensures refl)
