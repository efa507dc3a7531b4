-- `bits_in_degrees`: 90 has the fields 1029 and 26 * 2 ^ 46, 180 the next exponent and the same digits.
use Rattle.std.proofs.Common.{◌≡◌, ℕ, ◌*◌, ◌%◌, ◌^◌, ◌<◌, ◌≤◌, Bool, false, ◌&&◌, leb, sym, refl, ap, ◌∙◌, ap₂, lit<, le-leb}
use lib.Ieee.{binary64, of_bits}
use borrow.Author.Tests.{lt-leb}
use Rattle.measures.specs.Degrees.{within, in_degrees}
use Rattle.measures.proofs.Patterns.{bits_within}
use Rattle.measures.proofs.degrees.bits_in_degrees.Goals as goal

within_90 : (w : ℕ) → within 90 (of_bits binary64 w) ≡ leb (w % 2 ^ 63) 4636033603912859648
within_90 w = bits_within 90 1028 (26 * 2 ^ 46) w (lit< tt, (lit< tt, refl))

within_180 : (w : ℕ) → within 180 (of_bits binary64 w) ≡ leb (w % 2 ^ 63) 4640537203540230144
within_180 w = bits_within 180 1029 (26 * 2 ^ 46) w (lit< tt, (lit< tt, refl))

module _ (lat lon : ℕ) where
  first_in : lat % 2 ^ 63 ≤ 4636033603912859648 → leb (lon % 2 ^ 63) 4640537203540230144 ≡ in_degrees (of_bits binary64 lat) (of_bits binary64 lon)
  first_in h = sym (ap₂ {C = Bool} (λ x y. x && y) (within_90 lat ∙ le-leb (lat % 2 ^ 63) 4636033603912859648 h) (within_180 lon))

  first_out : 4636033603912859648 < lat % 2 ^ 63 → false ≡ in_degrees (of_bits binary64 lat) (of_bits binary64 lon)
  first_out h = sym (ap (λ (b : Bool). b && within 180 (of_bits binary64 lon)) (within_90 lat ∙ lt-leb (lat % 2 ^ 63) 4636033603912859648 h))

pub returns-then-lat-le4636033603912859648 : goal.returns-then-lat-le4636033603912859648
returns-then-lat-le4636033603912859648 c = first_in c.args.lat c.args.lon c.if-lat-le4636033603912859648.true

pub returns-else-lat-le4636033603912859648 : goal.returns-else-lat-le4636033603912859648
returns-else-lat-le4636033603912859648 c = lt-leb _ _ c.if-lat-le4636033603912859648.false ∙ first_out c.args.lat c.args.lon c.if-lat-le4636033603912859648.false
