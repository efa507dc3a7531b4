-- `glances::set_part` meets its contract: a part is stored into words that fit, or the row is opened and stored whole.
use Rattle.std.proofs.Common.{◌<◌, ◌++◌, length, take, drop, ap, ap₂, ◌∙◌, List, ℕ, arith}
use Rattle.flat.specs.Table.{rows_of}
use Rattle.flat.proofs.Rows.{start_in, rest_long, put_long}
use Rattle.glances.proofs.Places.{fit_in, part_fits, part_changed}
use Rattle.glances.proofs.set_part.Goals as goal

pub split_at_mut-rest-requires : goal.split_at_mut-rest-requires
split_at_mut-rest-requires c = start_in _ _ _ (fit_in _ _ _ c.fits_at.ensures c.if-fits_at.true) c.start_of.ensures

pub unwrap-requires : goal.unwrap-requires
unwrap-requires c =
    let h = rest_long _ _ _ (fit_in _ _ _ c.fits_at.ensures c.if-fits_at.true) c.start_of.ensures in
    let e = c.split_at_mut-rest.ensures.back in
    c.first_chunk_mut.ensures.variant.1 (omega (arith, h, ap length e))

pub store_part-requires : goal.store_part-requires
store_part-requires c =
    let chunk = (rw c.unwrap.ensures at c.first_chunk_mut.ensures.cases) in
    part_fits _ _ _ c.fits_at.ensures _ c.if-fits_at.true c.start_of.ensures _ (chunk.same ∙ ap (take 25) c.split_at_mut-rest.ensures.back)

pub returns-then-fits_at : goal.returns-then-fits_at
returns-then-fits_at c =
    let i : c.args.at < length (rows_of c.args.rows.now) = fit_in _ _ _ c.fits_at.ensures c.if-fits_at.true in
    let chunk = (rw c.unwrap.ensures at c.first_chunk_mut.ensures.cases) in
    let was = chunk.same ∙ ap (take 25) c.split_at_mut-rest.ensures.back in
    let e = ap₂ (λ (x y : List ℕ). x ++ (c.store_part.new.words ++ drop 25 y)) c.split_at_mut-rest.ensures.front c.split_at_mut-rest.ensures.back in
    (ap rows_of e ∙ part_changed _ _ _ c.fits_at.ensures _ c.if-fits_at.true c.start_of.ensures _ _ was c.store_part.ensures.1 _ c.store_part.ensures.0, ap length e ∙ put_long _ _ _ i c.start_of.ensures _ c.store_part.ensures.1)
