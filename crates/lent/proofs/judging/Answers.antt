-- The row that was found is judged by its cells and keeps the judgment, or it is too soon, as in the definition's judging (`judging_so`).
use Rattle.std.proofs.Common.{refl, sym, ap, ◌∙◌, ◌*◌, Ok, Err}
use Rattle.receiver.specs.Calls.{judging, judging_of, judged_part}
use Rattle.rows.specs.declared.Row.{Row}
use Rattle.rows.specs.Links.{parted_rows}
use Rattle.heard.specs.Heard.{width}
use lib.ListN.{take, drop}
use Rattle.verdicts.specs.Verdict.{too_soon}
use Rattle.table.specs.declared.Refusal.TheVariants as R
use Rattle.near_field.specs.declared.Judgment.TheVariants as Found
use Rattle.moves.specs.declared.Word.TheVariants as Wd
use Rattle.moves.proofs.Looked.{held_room}
use Rattle.rows.proofs.Passed.{no_ok}
use Rattle.moves.proofs.Entries.{soon_is, due_is, judging_so}
use Rattle.lent.proofs.Exit.{told_call}
use Rattle.lent.proofs.judging.Goals as goal

pub returns-then-too_soon : goal.returns-then-too_soon
returns-then-too_soon g c =
    let a = c.args in
    let e = c.from-e in
    let xs = g.W.Lent.rows_in a.rows.now in
    let soon =
    soon_is xs a.cells.now a.ends.now e.result a.key c.look_up.result e.ensures c.look_up.ensures a.now_ms c.in_ok-i.i c.in_ok-i.was
    (ap (λ (x : Row). too_soon x.part.judged_ms a.now_ms) (sym c.get.ensures) ∙ sym c.too_soon.ensures ∙ c.if-too_soon.true) in
    told_call g.met.W.Lent.leaves _ _ _ a.ends.now (Err R.TooSoon) (λ x q. refl) _ _ (judging a.now_ms a.aircraft)
    (judging_so xs a.cells.now a.ends.now e.result a.key c.look_up.result e.ensures c.look_up.ensures a.now_ms a.aircraft (Err R.TooSoon) Found.Unjudged xs (Err R.TooSoon) a.ends.now soon tt refl refl (sym e.ensures))

pub judge_cells-j-requires : goal.judge_cells-j-requires
judge_cells-j-requires g c =
    let a = c.args in
    let e = c.from-e in
    held_room (g.W.Lent.rows_in a.rows.now) a.cells.now a.ends.now e.result a.key c.look_up.result e.ensures c.look_up.ensures c.in_ok-i.i c.in_ok-i.was

pub returns : goal.returns
returns g c =
    let a = c.args in
    let e = c.from-e in
    let j = c.judge_cells-j in
    let xs = g.W.Lent.rows_in a.rows.now in
    let due =
    due_is xs a.cells.now a.ends.now e.result a.key c.look_up.result e.ensures c.look_up.ensures a.now_ms c.in_ok-i.i c.in_ok-i.was
    (ap (λ (x : Row). too_soon x.part.judged_ms a.now_ms) (sym c.get.ensures) ∙ sym c.too_soon.ensures ∙ c.if-too_soon.false) in
    told_call g.met.W.Lent.leaves _ _ _ a.ends.now (Ok (Wd.Judged j.result)) (λ x q. no_ok q) _ _ (judging a.now_ms a.aircraft)
    (judging_so xs a.cells.now a.ends.now e.result a.key c.look_up.result e.ensures c.look_up.ensures a.now_ms a.aircraft (Ok c.in_ok-i.i) j.result _ (Ok (Wd.Judged j.result)) a.ends.now due
    (j.ensures ∙ ap (λ (x : Row). judging_of x.part.heard (take width (drop (width * c.in_ok-i.i) a.cells.now)) a.now_ms a.aircraft) c.get.ensures) refl
    (c.set_part.ensures ∙ ap (parted_rows xs c.in_ok-i.i) (c.judged_part.ensures ∙ ap (λ (x : Row). judged_part x.part a.now_ms j.result) c.get.ensures)) (sym e.ensures))
