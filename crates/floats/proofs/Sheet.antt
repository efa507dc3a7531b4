-- Worked examples of 01 as theorems: P1 and P8, and three of ticks. Assumes nothing.
use mathlib.Core.Path.{◌≡◌, refl, ap, ◌∙◌}
use mathlib.Core.Bool.{true, false}
use Prim.Native.Nat.{◌^◌, ◌*◌}
use lib.Dec.{lit<, lit≤}
use lib.IntN.{pos, negsuc}
use lib.Ieee.{Float, fin, binary64, units, round, add, mul, div, lt}
use Rattle.root.specs.Root.{root, plus_zero}
use Rattle.floats.specs.Horizon.{horizon, four_twelve, at_least_zero}
use Rattle.measures.specs.Degrees.{tick_of}
use Rattle.measures.specs.Steps.{off_of, half_away}
use Rattle.root.proofs.Pattern.{root_is}
use Rattle.root.proofs.Value.{root_value}

-- ---- P1: off 7.4 gives 5; 7.5 gives 10; 0 gives 5

pub p1_low : off_of (round binary64 false 74 10) ≡ 5
unfolding off_of half_away div round
p1_low = refl

pub p1_high : off_of (round binary64 false 75 10) ≡ 10
unfolding off_of half_away div round
p1_high = refl

pub p1_zero : off_of plus_zero ≡ 5
unfolding off_of half_away div
p1_zero = refl

-- ---- P8: `horizon_km`(−5, 4) is twice the float 4.12

abbrev pub four : Float
four = fin false 1 (pos 2)

abbrev pub two : Float
two = fin false 1 (pos 1)

abbrev pub minus_five : Float
minus_five = fin true 5 (pos 0)

root_of_four : root four ≡ two
unfolding units
root_of_four =
    root_value four (2 ^ 1076) (refl, refl) (lit< tt)
    ∙ root_is (2 ^ 1076) (2 ^ 52) 1076 (2 ^ 53) (lit≤ tt) (lit< tt) refl (lit≤ tt) (lit< tt)

root_of_zero : root plus_zero ≡ plus_zero
unfolding root
root_of_zero = refl

not_above : at_least_zero minus_five ≡ plus_zero
unfolding at_least_zero lt
not_above = refl

as_it_is : at_least_zero four ≡ four
unfolding at_least_zero lt
as_it_is = refl

doubled : mul binary64 four_twelve (add binary64 plus_zero two) ≡ mul binary64 two four_twelve
unfolding mul add four_twelve
doubled = refl

pub p8 : horizon minus_five four ≡ mul binary64 two four_twelve
unfolding horizon
p8 =
    ap (λ (a : Float). mul binary64 four_twelve (add binary64 a (root (at_least_zero four)))) (ap root not_above ∙ root_of_zero)
    ∙ ap (λ (a : Float). mul binary64 four_twelve (add binary64 plus_zero a)) (ap root as_it_is ∙ root_of_four)
    ∙ doubled

-- ---- ticks: 180 degrees; half a tick, away from zero; the value below half a tick

pub all_round : tick_of (round binary64 false 180 1) ≡ pos (180 * 2 ^ 24)
unfolding tick_of round
all_round = refl

pub half_a_tick : tick_of (fin true 1 (negsuc 24)) ≡ negsuc 0
unfolding tick_of
half_a_tick = refl

pub below_half : tick_of (fin true 9007199254740991 (negsuc 77)) ≡ pos 0
unfolding tick_of
below_half = refl
