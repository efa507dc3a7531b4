-- The claim seats the key's row, or is refused by its site, as the definition's is (`claim_so`).
use Rattle.std.proofs.Common.{◌≡◌, Bool, true, false, cond, ◌||◌, ◌*◌, refl, sym, ap, subst, ◌∙◌, Ok, rules}
use lib.Seq.{sets}
use Rattle.receiver.specs.Calls.{claim}
use Rattle.receiver.specs.declared.Part.{Part}
use Rattle.scans.specs.Ends.{ends_of}
use Rattle.rows.specs.Links.{seat_of, seated_rows}
use Rattle.heard.specs.Heard.{width, empty_cells, site_fits, claimed}
use Rattle.heard.specs.Answers.{claiming_is}
use Rattle.bodies.specs.Bodies.{claim_part}
use Rattle.moves.specs.Answers.{outcome}
use Rattle.moves.specs.declared.Word.TheVariants as Wd
use Rattle.moves.proofs.Looked.{claim_site, seat_room}
use Rattle.rows.proofs.Passed.{no_ok}
use Rattle.moves.specs.Moves.{by_site, seated}
use Rattle.moves.proofs.Entries.{claim_so}
use Rattle.lent.proofs.Laws.{handed_on}
use Rattle.lent.proofs.Exit.{Told, told_call}
use Rattle.lent.proofs.claim.Goals as goal
use Rattle.lent.proofs.claim.Goals.{then-seat, then-seat-via-then-seat, then-seat-via-else-seat+then-c, else-seat+else-c}

pub set_site-requires : goal.set_site-requires
set_site-requires g c =
    let a = c.args in
    let e = c.from-e in
    let l = c.look_up-look in
    ap (λ (x : Part). site_fits x.heard.site) c.part_at-part.ensures
    ∙ claim_site (g.W.Lent.rows_in a.rows.now) a.cells.now a.ends.now e.result a.key l.result e.ensures l.ensures c.in_ok-at.at (sym c.claimable.ensures ∙ c.in_ok-at.was)

pub returns-in_err-c : goal.returns-in_err-c
returns-in_err-c g c =
    let a = c.args in
    let e = c.from-e in
    let l = c.look_up-look in
    let r = c.from_residual-in_err-c in
    told_call g.met.W.Lent.leaves _ _ _ a.ends.now r.result (λ x q. refl) _ _ (claim a.site)
    (ap (λ x. outcome x (g.W.Lent.rows_in a.rows.now) a.cells.now a.ends.now) (handed_on r.result c.in_err-c.field-0.0 r.ensures.1)
    ∙ claim_so (g.W.Lent.rows_in a.rows.now) a.cells.now a.ends.now e.result a.key l.result e.ensures l.ensures a.site _ _ a.ends.now _ (by_site c.in_ok-at.at c.in_err-c.field-0.0 (sym c.claimable.ensures ∙ c.in_ok-at.was)
    (λ m. ap (λ x. claiming_is x m) (sym c.in_err-c.was) ∙ c.set_site.ensures m ∙ ap (λ (x : Part). claimed x.heard m a.site) c.part_at-part.ensures) refl (refl, refl, sym e.ensures)))

pub empty-requires : goal.empty-requires
empty-requires g c =
    let a = c.args in
    let e = c.from-e in
    let l = c.look_up-look in
    let s = c.insert_active-seat in
    rw s.ensures.seat (seat_room (g.W.Lent.rows_in a.rows.now) a.cells.now a.ends.now e.result a.key l.result e.ensures l.ensures c.in_ok-at.at (sym c.claimable.ensures ∙ c.in_ok-at.was) c.claim_part.result)

-- emptied where the row was made or has moved
made : {A : Type 0} (a b : Bool) (x y z : A) → a ≡ true → x ≡ y → x ≡ cond (a || b) y z
made a b x y z p e = rw p e

moved : {A : Type 0} (a b : Bool) (x y z : A) → a ≡ false → b ≡ true → x ≡ y → x ≡ cond (a || b) y z
moved a b x y z p q e = rw (p, q) e

neither : {A : Type 0} (a b : Bool) (x y z : A) → a ≡ false → b ≡ false → x ≡ z → x ≡ cond (a || b) y z
neither a b x y z p q e = rw (p, q) e

pub returns : goal.returns
returns g c =
    let a = c.args in
    let e = c.from-e in
    let l = c.look_up-look in
    let s = c.insert_active-seat in
    let xs = g.W.Lent.rows_in a.rows.now in
    let cleared : c.if-seat.cells ≡ cond (s.result.made || c.in_ok-c.c.moved) (sets a.cells.now (width * s.result.at) empty_cells) a.cells.now =
    elim c.if-seat.branch [
      | then-seat w ↦ elim w.then-seat.branch [
        | then-seat-via-then-seat w' ↦ made s.result.made c.in_ok-c.c.moved _ _ _ w'.if-seat.true (w.cells-is ∙ w.empty.ensures)
        | then-seat-via-else-seat+then-c w' ↦ moved s.result.made c.in_ok-c.c.moved _ _ _ w'.if-seat.false w'.if-c.true (w.cells-is ∙ w.empty.ensures)
      ]
      | else-seat+else-c w ↦ neither s.result.made c.in_ok-c.c.moved _ _ _ w.if-seat.false w.if-c.false w.cells-is
    ] in
    let part = c.claim_part.ensures ∙ ap (λ (x : Part). claim_part x c.in_ok-c.c) c.part_at-part.ensures in
    subst (Told g.W.Lent.rows_in g.W.Lent.left a.rows.now c.if-seat.cells c.into.result (Ok (Wd.Generation c.in_ok-c.c.heard.generation s.result.pushed)) _) (search rules)
    (told_call g.met.W.Lent.leaves _ _ _ c.into.result (Ok (Wd.Generation c.in_ok-c.c.heard.generation s.result.pushed)) (λ x q. no_ok q) _ _ (claim a.site)
    (claim_so xs a.cells.now a.ends.now e.result a.key l.result e.ensures l.ensures a.site _ _ c.into.result (Ok (Wd.Generation c.in_ok-c.c.heard.generation s.result.pushed)) (seated c.in_ok-at.at c.in_ok-c.c s.result (sym c.claimable.ensures ∙ c.in_ok-at.was)
    (λ m. ap (λ x. claiming_is x m) (sym c.in_ok-c.was) ∙ c.set_site.ensures m ∙ ap (λ (x : Part). claimed x.heard m a.site) c.part_at-part.ensures)
    (s.ensures.seat ∙ ap (seat_of xs e.result c.in_ok-at.at) part) refl (s.ensures.rows.1 ∙ ap (seated_rows xs e.result c.in_ok-at.at a.key) part) cleared (c.into.ensures ∙ ap ends_of s.ensures.ends))))
