-- An f64 as a list of calls writes it: by its bits, or as a decimal number. Definitions only.
use Rattle.std.specs.Prelude.{Some, None, Option, Float}
use Rattle.std.specs.Prelude.{ℕ, ◌+◌, ◌-◌, ◌^◌, Bool, cond, List, length, take, drop, ◌==◌, from_bits, nat_le}
use Rattle.std.specs.Float.{binary64}
use Rattle.std.specs.Float.Ieee.{round}
use Rattle.fields.specs.Text.{first_of}
use Rattle.numbers.specs.Numbers.{number_on, is_minus, unsigned_of}

-- the bits of a u64 as 16 hex digits
unfoldable pub bits_of : List ℕ → Option ℕ
unfolding number_on
bits_of s = cond (length s == 16) (number_on 16 (2 ^ 64 - 1) 0 s) None

-- A decimal number with a point: one digit or more on each side of the point (46), at most 15 in all. Its value is that of the digits
-- read as one whole number, over 10 to the number of digits behind the point; the f64 is the one nearest to it.
abbrev pub over_tens : Bool → ℕ → Option ℕ → Option Float
over_tens minus places (Some m) = Some (round binary64 minus m (10 ^ places))
over_tens minus places None = None

abbrev pub then_on : Option ℕ → List ℕ → Option ℕ
then_on (Some w) s = number_on 10 (10 ^ 15 - 1) w s
then_on None s = None

unfoldable pub point_of : Bool → List ℕ → Option Float
unfolding first_of number_on
point_of minus s =
    cond (nat_le (length s - 1) 15)
    (over_tens minus (length s - (first_of 46 s + 1)) (then_on (number_on 10 (10 ^ 15 - 1) 0 (take (first_of 46 s) s)) (drop (first_of 46 s + 1) s)))
    None

-- the same with a minus sign or none
unfoldable pub decimal_of : List ℕ → Option Float
unfolding is_minus unsigned_of point_of
decimal_of s = point_of (is_minus s) (unsigned_of s)

-- LAT, LON, A, B: 16 hex digits are the f64's bits; anything else is a decimal number
abbrev pub by_bits : Option ℕ → Option Float → Option Float
by_bits (Some n) other = Some (from_bits binary64 n)
by_bits None other = other

unfoldable pub real_of : List ℕ → Option Float
unfolding bits_of decimal_of
real_of s = by_bits (bits_of s) (decimal_of s)
