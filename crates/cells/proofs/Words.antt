-- The laws of a packed cell, for any number: callers use these in place of the packing. Assumes nothing.
use mathlib.Core.Path.{◌≡◌, refl, ap, ◌∙◌}
use mathlib.Core.Bool.{false, ◌||◌}
use Prim.Native.Nat.{ℕ, zero, suc, ◌+◌, ◌%◌, ◌^◌, ◌≤◌, ◌<◌, min}
use native.Mathlib.Omega.{arith}
use borrow.Author.Tests.{lt-ltb}
use lib.Bits.{bit_or, or_lt, or_mod, or_zero_l, or_zero_r, or_add_and, and_le_l, and_le_r}
use lib.Dec.{ltb}
use Rattle.cells.specs.declared.Cell.{Cell}
use Rattle.cells.specs.Cells.{packed, count_of, low_of, bits_of, unpacked, empty_word, added, added_word, merge, merged_word, occupied_word}

-- ---- the parts are small
pub count_small : (w : ℕ) → count_of w ≤ 255
unfolding count_of
count_small w = omega arith

pub low_small : (w : ℕ) → low_of w ≤ 255
unfolding low_of
low_small w = omega arith

pub bits_small : (w : ℕ) → bits_of w < 2 ^ 16
unfolding bits_of
bits_small w = omega arith

-- ---- the empty word
pub empty_count : count_of empty_word ≡ 0
unfolding count_of empty_word
empty_count = refl

pub empty_low : low_of empty_word ≡ 255
unfolding low_of empty_word
empty_low = refl

pub empty_bits : bits_of empty_word ≡ 0
unfolding bits_of empty_word
empty_bits = refl

pub empty_fits : empty_word < 2 ^ 32
unfolding empty_word
empty_fits = omega arith

-- ---- packed, then taken apart
pub record Small (c : Cell) : Type 0 where
  pub count : c.count ≤ 255
  pub low : c.low ≤ 255
  pub bits : c.aircraft < 2 ^ 16

pub record Parts (w m l b : ℕ) : Type 0 where
  pub count : count_of w ≡ m
  pub low : low_of w ≡ l
  pub bits : bits_of w ≡ b
  pub fits : w < 2 ^ 32

pub packed_parts : (c : Cell) → Small c → Parts (packed c) c.count c.low c.aircraft
unfolding packed count_of low_of bits_of
packed_parts c s = record { count = omega arith; low = omega arith; bits = omega arith; fits = omega arith }

-- taken apart, then packed
pub packed_unpacked : (w : ℕ) → w < 2 ^ 32 → packed (unpacked w) ≡ w
unfolding packed count_of low_of bits_of
packed_unpacked w h = omega arith

-- ---- a position more
pub added_parts : (w low bit : ℕ) → low ≤ 255 → bit < 2 ^ 16 → Parts (added_word w low bit) (min 255 (count_of w + 1)) (min (low_of w) low) (bit_or (bits_of w) bit)
unfolding added_word added
added_parts w low bit l b =
    packed_parts (added (unpacked w) low bit) (record { count = omega arith; low = omega arith; bits = or_lt 16 (bits_of w) bit (bits_small w) b })

-- ---- merged
pub merged_parts : (a b : ℕ) → Parts (merged_word a b) (min 255 (count_of a + count_of b)) (min (low_of a) (low_of b)) (bit_or (bits_of a) (bits_of b))
unfolding merged_word merge
merged_parts a b =
    packed_parts (merge (unpacked a) (unpacked b))
    (record { count = omega arith; low = omega (arith, low_small a); bits = or_lt 16 (bits_of a) (bits_of b) (bits_small a) (bits_small b) })

-- merged with the empty word, from either side, a 32-bit number stays
cell_is : (a b : Cell) → a.count ≡ b.count → a.low ≡ b.low → a.aircraft ≡ b.aircraft → a ≡ b
cell_is a b p q r = λ i. record { count = p i; low = q i; aircraft = r i }

pub empty_merged : (w : ℕ) → w < 2 ^ 32 → merged_word empty_word w ≡ w
unfolding merged_word merge
empty_merged w h =
    ap packed
    (cell_is (merge (unpacked empty_word) (unpacked w)) (unpacked w)
    (omega (arith, empty_count, count_small w)) (omega (arith, empty_low, low_small w)) (ap (λ (b : ℕ). bit_or b (bits_of w)) empty_bits ∙ or_zero_l (bits_of w)))
    ∙ packed_unpacked w h

pub merged_empty : (w : ℕ) → w < 2 ^ 32 → merged_word w empty_word ≡ w
unfolding merged_word merge
merged_empty w h =
    ap packed
    (cell_is (merge (unpacked w) (unpacked empty_word)) (unpacked w)
    (omega (arith, empty_count, count_small w)) (omega (arith, empty_low, low_small w)) (ap (bit_or (bits_of w)) empty_bits ∙ or_zero_r (bits_of w)))
    ∙ packed_unpacked w h

-- ---- occupied
any : (x y z : ℕ) → (z ≡ 0 → (x ≡ 0) × (y ≡ 0)) → (x ≡ 0 → y ≡ 0 → z ≡ 0) → ltb 0 z ≡ (ltb 0 x || ltb 0 y)
any x y zero h k = let e = h refl in rw (e.0, e.1)
any zero zero (suc z) h k = let e : ◌≡◌ {A = ℕ} (suc z) 0 = k refl refl in absurd (omega arith)
any zero (suc y) (suc z) h k = rw (lt-ltb 0 (suc y) (omega arith), lt-ltb 0 (suc z) (omega arith))
any (suc x) y (suc z) h k = rw (lt-ltb 0 (suc x) (omega arith), lt-ltb 0 (suc z) (omega arith))

pub zero_free : occupied_word 0 ≡ false
unfolding count_of
zero_free = refl

pub merged_occupied : (a b : ℕ) → occupied_word (merged_word a b) ≡ (occupied_word a || occupied_word b)
merged_occupied a b =
    let e = (merged_parts a b).count in
    any (count_of a) (count_of b) (count_of (merged_word a b)) (λ h. (omega arith, omega arith)) (λ h k. omega arith)

-- bits that are set in one of two are set in both together, those of a count too
pub both_occupied : (a b : ℕ) → occupied_word (bit_or a b) ≡ (occupied_word a || occupied_word b)
unfolding count_of
both_occupied a b =
    let m = or_mod a b 8 in
    let s = or_add_and (a % 256) (b % 256) in
    any (a % 256) (b % 256) (bit_or a b % 256)
    (λ h. (omega (arith, and_le_r (a % 256) (b % 256)), omega (arith, and_le_l (a % 256) (b % 256))))
    (λ h k. m ∙ ap (λ (n : ℕ). bit_or n (b % 256)) h ∙ ap (λ (n : ℕ). bit_or 0 n) k)
