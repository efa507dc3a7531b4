-- `glances::set_links` meets its contract: links are stored into words that fit, or the row is opened and stored whole.
use Rattle.std.proofs.Common.{◌<◌, ◌++◌, length, take, drop, ap, ap₂, ◌∙◌, List, ℕ, arith}
use Rattle.flat.specs.Table.{rows_of}
use Rattle.flat.proofs.Rows.{start_in, rest_long, put_long}
use Rattle.glances.proofs.Places.{fit_in, part_fits, links_changed}
use Rattle.glances.proofs.set_links.Goals as goal

pub split_at_mut-rest-requires : goal.split_at_mut-rest-requires
split_at_mut-rest-requires c = start_in _ _ _ (fit_in _ _ _ c.fits_at.ensures c.if-fits_at.true) c.start_of.ensures

pub unwrap-requires : goal.unwrap-requires
unwrap-requires c =
    let h = rest_long _ _ _ (fit_in _ _ _ c.fits_at.ensures c.if-fits_at.true) c.start_of.ensures in
    let e = c.split_at_mut-rest.ensures.back in
    c.first_chunk_mut.ensures.variant.1 (omega (arith, h, ap length e))

pub store_links-requires : goal.store_links-requires
store_links-requires c =
    let chunk = (rw c.unwrap.ensures at c.first_chunk_mut.ensures.cases) in
    part_fits _ _ _ c.fits_at.ensures _ c.if-fits_at.true c.start_of.ensures _ (chunk.same ∙ ap (take 25) c.split_at_mut-rest.ensures.back)

pub returns-then-fits_at : goal.returns-then-fits_at
returns-then-fits_at c =
    let i : c.args.at < length (rows_of c.args.rows.now) = fit_in _ _ _ c.fits_at.ensures c.if-fits_at.true in
    let chunk = (rw c.unwrap.ensures at c.first_chunk_mut.ensures.cases) in
    let was = chunk.same ∙ ap (take 25) c.split_at_mut-rest.ensures.back in
    let e = ap₂ (λ (x y : List ℕ). x ++ (c.store_links.new.words ++ drop 25 y)) c.split_at_mut-rest.ensures.front c.split_at_mut-rest.ensures.back in
    (ap rows_of e ∙ links_changed _ _ _ c.fits_at.ensures _ c.if-fits_at.true c.start_of.ensures _ _ was c.store_links.ensures.1 _ _ c.store_links.ensures.0, ap length e ∙ put_long _ _ _ i c.start_of.ensures _ c.store_links.ensures.1)
