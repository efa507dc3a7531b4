-- The position is counted for the row that was found, or turned down, as the definition's is (`position_so`).
use Rattle.std.proofs.Common.{refl, sym, ap, subst, ◌∙◌, Ok, rules}
use Rattle.receiver.specs.Calls.{position}
use Rattle.rows.specs.declared.Row.{Row}
use Rattle.scans.specs.Ends.{ends_of}
use Rattle.rows.specs.Links.{marked_ends, marked_rows}
use Rattle.heard.specs.Heard.{site_fits, positioned}
use Rattle.heard.specs.Answers.{hearing_is}
use Rattle.moves.specs.Answers.{outcome}
use Rattle.moves.specs.Moves.{heard_part, turned_down, placed}
use Rattle.moves.specs.declared.Word.TheVariants as Wd
use Rattle.moves.proofs.Looked.{held_room, held_site}
use Rattle.rows.proofs.Passed.{no_ok}
use Rattle.moves.proofs.Entries.{position_so}
use Rattle.lent.proofs.Laws.{handed_on}
use Rattle.lent.proofs.Exit.{Told, told_call}
use Rattle.lent.proofs.position.Goals as goal

pub hear-requires : goal.hear-requires
hear-requires g c =
    let a = c.args in
    let e = c.from-e in
    ap (λ (x : Row). site_fits x.part.heard.site) c.get.ensures
    ∙ held_site (g.W.Lent.rows_in a.rows.now) a.cells.now a.ends.now e.result a.key c.look_up.result e.ensures c.look_up.ensures c.in_ok-i.i c.in_ok-i.was

pub returns-in_err-c : goal.returns-in_err-c
returns-in_err-c g c =
    let a = c.args in
    let e = c.from-e in
    let r = c.from_residual-in_err-c in
    told_call g.met.W.Lent.leaves _ _ _ a.ends.now r.result (λ x q. refl) _ _ (position a.p)
    (ap (λ x. outcome x (g.W.Lent.rows_in a.rows.now) a.cells.now a.ends.now) (handed_on r.result c.in_err-c.field-0.0 r.ensures.1)
    ∙ position_so (g.W.Lent.rows_in a.rows.now) a.cells.now a.ends.now e.result a.key c.look_up.result e.ensures c.look_up.ensures a.p _ _ a.ends.now _ (turned_down c.in_ok-i.i c.in_err-c.field-0.0 c.in_ok-i.was
    (λ m. ap (λ x. hearing_is x m) (sym c.in_err-c.was) ∙ c.hear.ensures m ∙ ap (λ (x : Row). positioned x.part.heard m a.p) c.get.ensures) refl (refl, refl, sym e.ensures)))

pub count_in-requires : goal.count_in-requires
count_in-requires g c =
    let a = c.args in
    let e = c.from-e in
    held_room (g.W.Lent.rows_in a.rows.now) a.cells.now a.ends.now e.result a.key c.look_up.result e.ensures c.look_up.ensures c.in_ok-i.i c.in_ok-i.was

pub returns : goal.returns
returns g c =
    let a = c.args in
    let e = c.from-e in
    let xs = g.W.Lent.rows_in a.rows.now in
    let old = ap (λ (x : Row). heard_part x.part c.in_ok-c.c.heard) c.get.ensures in
    subst (Told g.W.Lent.rows_in g.W.Lent.left a.rows.now c.count_in.new.cells c.into.result (Ok Wd.Done) _) (search rules)
    (told_call g.met.W.Lent.leaves _ _ _ c.into.result (Ok Wd.Done) (λ x q. no_ok q) _ _ (position a.p)
    (position_so xs a.cells.now a.ends.now e.result a.key c.look_up.result e.ensures c.look_up.ensures a.p _ _ c.into.result (Ok Wd.Done) (placed c.in_ok-i.i c.in_ok-c.c c.in_ok-i.was
    (λ m. ap (λ x. hearing_is x m) (sym c.in_ok-c.was) ∙ c.hear.ensures m ∙ ap (λ (x : Row). positioned x.part.heard m a.p) c.get.ensures) refl
    (c.mark.ensures.rows.1 ∙ ap (marked_rows xs e.result c.in_ok-i.i) old) c.count_in.ensures
    (c.into.ensures ∙ ap ends_of (c.mark.ensures.ends ∙ ap (marked_ends xs e.result c.in_ok-i.i) old)))))
