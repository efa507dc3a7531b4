-- A cell (01, "Cells"; merging and occupied: 01, "A judging"). Definitions only. A word is a packed cell: any 32-bit number.
-- Other crates open none of these: they use the laws of proofs/Words.antt.
use Rattle.std.specs.Prelude.{Some, None, Option, Float}
use Rattle.std.specs.Prelude.{ℕ, ◌+◌, ◌*◌, ◌/◌, ◌%◌, ◌^◌, min, Bool, cond, ltb, eqb, ℤ, pos, negsuc}
use Rattle.std.specs.Int.Bits.{bit_or}
use Rattle.floats.specs.Horizon.{ceiling_of}
use Rattle.cells.specs.declared.Cell.{Cell}

-- 01: A cell is 32 bits: count + 256 × low + 65,536 × aircraft bits
unfoldable pub packed : Cell → ℕ
packed c = c.count + 256 * c.low + 65536 * c.aircraft

unfoldable pub count_of : ℕ → ℕ
count_of w = w % 256

unfoldable pub low_of : ℕ → ℕ
low_of w = w / 256 % 256

unfoldable pub bits_of : ℕ → ℕ
bits_of w = w / 65536 % 65536

abbrev pub unpacked : ℕ → Cell
unpacked w = record { count = count_of w; low = low_of w; aircraft = bits_of w }

-- 01: empty is 65,280
unfoldable pub empty_word : ℕ
empty_word = 65280

-- 01: Count stops at 255; low is the least bucket. One position more, of an aircraft bit:
unfoldable pub added : Cell → ℕ → ℕ → Cell
added c low bit = record { count = min 255 (c.count + 1); low = min c.low low; aircraft = bit_or c.aircraft bit }

unfoldable pub added_word : ℕ → ℕ → ℕ → ℕ
added_word w low bit = packed (added (unpacked w) low bit)

-- max(z, 0)
abbrev pub not_below_zero : ℤ → ℕ
not_below_zero (pos n) = n
not_below_zero (negsuc n) = 0

-- 01: none 255, else min(254, max(feet, 0) div 500)
abbrev pub bucket_of : Option ℤ → ℕ
bucket_of (Some feet) = min 254 (not_below_zero feet / 500)
bucket_of None = 255

-- 01: Aircraft bit: (address × 0x9E3779B1 mod 2^32) div 2^28
abbrev pub bit_number : ℕ → ℕ
bit_number address = address * 0x9E3779B1 % 2 ^ 32 / 2 ^ 28

unfoldable pub aircraft_bit : ℕ → ℕ
aircraft_bit address = 2 ^ bit_number address

-- 01, A judging: counts added and stopped at 255, the least low, all bits of both
unfoldable pub merge : Cell → Cell → Cell
merge a b = record { count = min 255 (a.count + b.count); low = min a.low b.low; aircraft = bit_or a.aircraft b.aircraft }

unfoldable pub merged_word : ℕ → ℕ → ℕ
merged_word a b = packed (merge (unpacked a) (unpacked b))

-- 01, A judging: Occupied means a count above 0
abbrev pub occupied_word : ℕ → Bool
occupied_word w = ltb 0 (count_of w)

-- 01, A judging, 2: b = ((low + 1) × 500) × 0.3048, where a cell has altitude: low 255 is none
unfoldable pub ceiling : ℕ → Option Float
ceiling low = cond (eqb low 255) None (Some (ceiling_of low))
