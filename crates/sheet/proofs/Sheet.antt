-- 01, 'Proved sheet': each line as theorems about the definitions that the contracts cite, in its order.
-- Assumes nothing.
use Rattle.std.specs.Prelude.{Some, None}
use mathlib.Core.Path.{◌≡◌, refl}
use mathlib.Core.Bool.{true, false}
use mathlib.Core.List.{[], ◌∷◌}
use Prim.Native.Nat.{ℕ, ◌^◌, ◌<◌}
use lib.IntN.{pos, negsuc}
use lib.Ieee.{binary64, round, mul}
use Rattle.trig.specs.Ticks.{deg}
use Rattle.trig.specs.Series.{sin_h, cos_r, term}
use Rattle.trig.specs.Angle.{sin_q, cos_q, sin_half, cos_half, sine, cosine}
use Rattle.angles.specs.Plane.{near, column}
use Rattle.angles.specs.Bearing.{sector}
use Rattle.root.specs.Root.{plus_zero}
use Rattle.floats.specs.Horizon.{horizon, four_twelve}
use Rattle.measures.specs.Steps.{off_of}
use Rattle.floats.proofs.Sheet as floats
use Rattle.cells.specs.Cells.{bucket_of, bit_number}
use Rattle.sites.specs.declared.Site.{Site}
use Rattle.near_field.specs.declared.Judgment.TheVariants.{Unjudged, Wrong}
use Rattle.near_field.specs.declared.Evidence.TheVariants.{NothingNear}
use Rattle.judge.specs.Judging.{judge_of}
use Rattle.table.specs.Machine.{refused, said}
use Rattle.receiver.specs.Calls.{check, generation_is, done}
use Rattle.protection.specs.Run.{held}
use Rattle.protection.specs.Card.{card_answers}
use Rattle.protection.specs.Promise.{told}
use Rattle.protection.proofs.Sheet.{W, O, a, b, c, by, answers_of, site, at}
use Rattle.protection.proofs.Sheet as lists
use Rattle.judge.proofs.Cases.{row_p10, row_near}
use Rattle.judge.proofs.Cases as cases

-- ---- P1: 'off 7.4 gives 5; 7.5 gives 10; 0 gives 5.'
pub p1_seven_four : off_of (round binary64 false 74 10) ≡ 5
p1_seven_four = floats.p1_low

pub p1_seven_five : off_of (round binary64 false 75 10) ≡ 10
p1_seven_five = floats.p1_high

pub p1_zero : off_of plus_zero ≡ 5
p1_zero = floats.p1_zero

-- ---- P2: 'feet −1, 499, 500, 127,000, none: 0, 0, 1, 254, 255.' `negsuc n` is −(n + 1).
pub p2 : (bucket_of (Some (negsuc 0)) ≡ 0) × (bucket_of (Some (pos 499)) ≡ 0) × (bucket_of (Some (pos 500)) ≡ 1) × (bucket_of (Some (pos 127000)) ≡ 254) × (bucket_of None ≡ 255)
p2 = (refl, refl, refl, refl, refl)

-- ---- P3: 'address 0, 1, 2: bits 0, 9, 3.'
pub p3 : (bit_number 0 ≡ 0) × (bit_number 1 ≡ 9) × (bit_number 2 ≡ 3)
p3 = (refl, refl, refl)

-- ---- P4: 'sector of (1,1), (−1,1), (0,−2): 1, 7, 4.' The pairs are (east, north).
pub p4_north_east : sector (pos 1) (pos 1) ≡ 1
unfolding sector
p4_north_east = refl

pub p4_north_west : sector (negsuc 0) (pos 1) ≡ 7
unfolding sector
p4_north_west = refl

pub p4_south : sector (pos 0) (negsuc 1) ≡ 4
unfolding sector
p4_south = refl

-- ---- P5: 'east 99,999,999: column 39; −99,999,999: 0; ±100,000,000: far.'
pub p5_last : (near (pos 99999999) ≡ true) × (column (pos 99999999) ≡ 39)
unfolding near column
p5_last = (refl, refl)

pub p5_first : (near (negsuc 99999998) ≡ true) × (column (negsuc 99999998) ≡ 0)
unfolding near column
p5_first = (refl, refl)

pub p5_far : (near (pos 100000000) ≡ false) × (near (negsuc 99999999) ≡ false)
unfolding near
p5_far = (refl, refl)

-- ---- P6: 'W W O W W: not held; W W W O O W: held.' A run is written newest first.
pub p6_not : held (W 5 ∷ W 5 ∷ O ∷ W 5 ∷ W 5 ∷ []) ≡ false
p6_not = refl

pub p6_held : held (W 5 ∷ O ∷ O ∷ W 5 ∷ W 5 ∷ W 5 ∷ []) ≡ true
p6_held = refl

-- ---- P7: 'at_ms 0, then 86,400,000, then 43,199,999: the last gets 6.' After a claim of a site, on a card; 43,200,000 is accepted, since its half holds no id.
pub p7 : card_answers a None (site ∷ at 0 ∷ at 86400000 ∷ at 43199999 ∷ at 43200000 ∷ []) ≡ (said None (generation_is 1) ∷ said None done ∷ said None done ∷ refused 6 ∷ said None done ∷ [])
p7 = lists.p7

-- ---- P8: '`horizon_km`(−5, 4) is twice the float 4.12.'
pub p8 : horizon floats.minus_five floats.four ≡ mul binary64 floats.two four_twelve
p8 = floats.p8

-- ---- P9: 'C = 2: claim a (with a site), claim b, position a, claim c pushes out b.' Then b's check gets 3, and a's 7.
pub p9 : answers_of (told 2 (by a site ∷ by b site ∷ by a (at 0) ∷ by c site ∷ by b check ∷ by a check ∷ []))
    ≡ (said None (generation_is 1) ∷ said None (generation_is 1) ∷ said None done ∷ said (Some b) (generation_is 1) ∷ refused 3 ∷ refused 7 ∷ [])
p9 = lists.p9

-- ---- P10: '60 positions, no altitude, bin 0 only, 15 aircraft: Wrong 125, NothingNear; 59, or 14 aircraft: Unjudged.'
-- For every site and any aircraft bits; `row_p10 n bits` has n positions without altitude in far bin 0 of the even half, whose id is 0, and now_ms is 0.
pub p10 : (site : Site) (bits : ℕ) → bits < 2 ^ 16 → judge_of (Some site) (Some 0) None (row_p10 60 bits) 0 15 ≡ Wrong 125 NothingNear
p10 = cases.p10

pub p10_59 : (site : Site) (bits : ℕ) → bits < 2 ^ 16 → judge_of (Some site) (Some 0) None (row_p10 59 bits) 0 15 ≡ Unjudged
p10_59 = cases.p10_59

pub p10_14 : (site : Site) (bits : ℕ) → judge_of (Some site) (Some 0) None (row_p10 60 bits) 0 14 ≡ Unjudged
p10_14 = cases.p10_14

-- ---- 01, 'Plausible errors': '15 aircraft, no altitudes, 255 positions in cell (e, n) = (1,1), one in (1,3), one in bin 0'; 02, Item 2: 'The case in 01 under
-- plausible errors then gives 125.' The two cells are skipped.
pub nearest_skipped : (site : Site) (bits : ℕ) → bits < 2 ^ 16 → judge_of (Some site) (Some 0) None (row_near bits) 0 15 ≡ Wrong 125 NothingNear
nearest_skipped = cases.nearest_skipped

-- ---- Not of 01's sheet: at exactly 45 degrees sine and cosine have each their own series, and differ.
pub sine_45 : sine (pos (deg 45)) ≡ pos 759250124
unfolding sine sin_half sin_q sin_h term
sine_45 = refl

pub cosine_45 : cosine (pos (deg 45)) ≡ pos 759250126
unfolding cosine cos_half cos_q cos_r term
cosine_45 = refl
