-- The literals of the source, by their bit patterns, are the floats that the specification names. Assumes nothing.
use mathlib.Core.Path.{◌≡◌, refl}
use lib.Ieee.{binary64, of_bits}
use Rattle.floats.specs.Horizon.{four_twelve, eleven_tenths, twenty, hundred, foot}

pub four_twelve_lem : four_twelve ≡ of_bits binary64 0x4010_7ae1_47ae_147b
unfolding four_twelve of_bits
four_twelve_lem = refl

pub eleven_tenths_lem : eleven_tenths ≡ of_bits binary64 0x3ff1_9999_9999_999a
unfolding eleven_tenths of_bits
eleven_tenths_lem = refl

pub twenty_is : twenty ≡ of_bits binary64 0x4034_0000_0000_0000
unfolding twenty of_bits
twenty_is = refl

pub hundred_is : hundred ≡ of_bits binary64 0x4059_0000_0000_0000
unfolding hundred of_bits
hundred_is = refl

pub foot_is : foot ≡ of_bits binary64 0x3fd3_81d7_dbf4_87fd
unfolding foot of_bits
foot_is = refl
