-- The slice has all the row's words, which are 25 (`end_in`, `part_is`).
use Rattle.std.proofs.Common.{◌∙◌, arith}
use lib.Seq.{take_all}
use Rattle.flat.proofs.Rows.{start_fits, end_in, part_is, part_words}
use Rattle.flat.proofs.words_at.Goals as goal

pub offset_bounds-rows-a : goal.offset_bounds-rows-a
offset_bounds-rows-a c = start_fits _ _ c.start_of-a.ensures c.ranges.at

pub slice_bounds-first_chunk-end : goal.slice_bounds-first_chunk-end
slice_bounds-first_chunk-end c = end_in _ _ _ _ c.requires c.start_of-a.ensures c.end_of-z.ensures

pub unwrap-requires : goal.unwrap-requires
unwrap-requires c = let h = part_is _ _ _ _ c.requires c.start_of-a.ensures c.end_of-z.ensures in c.first_chunk.ensures.variant.1 (omega (arith, h))

pub returns : goal.returns
returns c =
    let chunk = (rw c.unwrap.ensures at c.first_chunk.ensures.cases) in
    let h = part_is _ _ _ _ c.requires c.start_of-a.ensures c.end_of-z.ensures in
    chunk.same ∙ take_all 25 _ (omega (arith, h)) ∙ part_words _ _ _ _ c.requires c.start_of-a.ensures c.end_of-z.ensures
