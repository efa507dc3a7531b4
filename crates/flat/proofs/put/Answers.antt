-- `flat::put` meets its contract: a number that is no row's stores nothing, and a row's number its row's words in their place.
use Rattle.std.proofs.Common.{◌≡◌, ◌<◌, ◌++◌, length, drop, ap, ap₂, ◌∙◌, List, ℕ, arith}
use Rattle.flat.specs.Table.{rows_of}
use Rattle.flat.proofs.Closing.{row_words_lem}
use Rattle.flat.proofs.Rows.{is_in_lem, start_in, rest_long, put_long, puts}
use Rattle.flat.proofs.put.Goals as goal

pub split_at_mut-rest-requires : goal.split_at_mut-rest-requires
split_at_mut-rest-requires c = start_in _ _ _ (is_in_lem _ _ _ c.outside.ensures c.if-outside.false) c.start_of.ensures

pub unwrap-requires : goal.unwrap-requires
unwrap-requires c =
    let h = rest_long _ _ _ (is_in_lem _ _ _ c.outside.ensures c.if-outside.false) c.start_of.ensures in
    let e = c.split_at_mut-rest.ensures.back in
    c.first_chunk_mut.ensures.variant.1 (omega (arith, h, ap length e))

pub returns : goal.returns
returns c =
    let i : c.args.at < length (rows_of c.args.rows.now) = is_in_lem _ _ _ c.outside.ensures c.if-outside.false in
    let long : length c.close.new.words ≡ 25 = ap length c.close.ensures.0 ∙ row_words_lem c.args.row in
    let e = ap₂ (λ (x y : List ℕ). x ++ (c.close.new.words ++ drop 25 y)) c.split_at_mut-rest.ensures.front c.split_at_mut-rest.ensures.back in
    (ap rows_of e ∙ puts _ _ _ i c.start_of.ensures _ c.args.row c.close.ensures.0 c.close.ensures.1, ap length e ∙ put_long _ _ _ i c.start_of.ensures _ long)
