-- `bin_past`: not occupied, no altitude, or past_by at the bin's edge (Bins), which is the excess at the antenna's root (floats, Rooted).
use Rattle.std.proofs.Common.{sym, ap, ◌∙◌}
use lib.Ieee.{Float}
use Rattle.floats.specs.Rooted.{past_from}
use Rattle.floats.proofs.Rooted.{past_at_root}
use Rattle.cells.specs.declared.Cell.{Cell}
use Rattle.cells.specs.Cells.{ceiling}
use Rattle.past_horizon.specs.Horizon.{edge_of}
use Rattle.past_horizon.proofs.Bins.{unoccupied, at_height, at_no_height}
use Rattle.past_horizon.proofs.bin_past.Goals as goal

pub returns : goal.returns
returns c = λ a h.
    let b = c.in_ok-ceiling.ceiling in
    let bin = c.args.bin in
    c.past_by.ensures ∙ ap (λ (e : Float). past_from e c.args.antenna_root b) c.edge_km.ensures ∙ ap (λ (r : Float). past_from (edge_of bin) r b) h
    ∙ past_at_root (edge_of bin) a b
    ∙ at_height c.args.w bin a b (sym c.occupied.ensures ∙ c.if-not-occupied.false)
    (sym (ap (λ (k : Cell). ceiling k.low) c.unpack.ensures) ∙ sym c.in_ok-ceiling.ensures)

pub returns-in_err-ceiling : goal.returns-in_err-ceiling
returns-in_err-ceiling c = λ a h.
    c.from_residual.ensures
    ∙ at_no_height c.args.w c.args.bin a (sym c.occupied.ensures ∙ c.if-not-occupied.false) (sym (ap (λ (k : Cell). ceiling k.low) c.unpack.ensures) ∙ sym c.in_err-ceiling.ensures)

pub returns-then-not-occupied : goal.returns-then-not-occupied
returns-then-not-occupied c = λ a h. unoccupied c.args.w c.args.bin a (sym c.occupied.ensures ∙ c.if-not-occupied.true)
