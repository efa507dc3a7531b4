-- Keys: one turn of each loop over the digits, and the ways out.
use Rattle.std.specs.Prelude.{Some, None}
use mathlib.Core.Path.{◌≡◌, refl, sym, ap, ◌∙◌}
use mathlib.Core.Bool.{Bool, true, false, ◌&&◌}
use mathlib.Core.List.{List}
use Prim.Native.Nat.{ℕ, ◌+◌, ◌-◌, ◌*◌, ◌%◌, ◌≤◌, ◌<◌}
use native.Mathlib.Numerals.{add-one}
use native.Mathlib.Omega.{arith}
use borrow.Author.Tests.{lt-ltb, le-ltb, leb-true}
use lib.Dec.{ltb, leb}
use Rattle.std.proofs.lemmas.List.{drop_more}
use lib.ListN.{drop_of_length-le, length, get_or, take, drop, set}
use lib.Seq.{take-suc-set, take_all}
use Rattle.numbers.specs.Numbers.{digit_of, all_digits}
use Rattle.keys.specs.Keys.{is_key, hex_at, key_byte, key_bytes, key_of}

-- ---- the digits
pub hex_stop : (s : List ℕ) (i : ℕ) → i < length s → 15 < digit_of (get_or s i 0) → all_digits 16 s ≡ all_digits 16 (drop i s) → false ≡ all_digits 16 s
unfolding all_digits
hex_stop s i h d e = sym (e ∙ rw (drop_more s i 0 h) (rw (le-ltb (digit_of (get_or s i 0)) 16 (omega arith))))

pub hex_end : (s : List ℕ) (i : ℕ) → length s ≤ i → all_digits 16 s ≡ all_digits 16 (drop i s) → true ≡ all_digits 16 s
unfolding all_digits
hex_end s i h e = sym (e ∙ rw (drop_of_length-le s h))

key_length : (s : List ℕ) → is_key s ≡ true → length s ≤ 64
unfolding is_key
key_length s e = leb-true (length s) 64 (by (ltb 0 (length s)) (leb (length s) 64) (all_digits 16 s) e) where
  by : (a b d : Bool) → (a && (b && d)) ≡ true → b ≡ true
  by true true d h = refl
  by true false d h = h
  by false true d h = refl
  by false false d h = h

-- ---- the value of a digit
pub hex_lead : (s : List ℕ) (k : ℕ) → k < 64 - length s → 0 ≡ hex_at s k
unfolding hex_at
hex_lead s k h = rw (lt-ltb k (64 - length s) h)

pub hex_digit : (s : List ℕ) (k r : ℕ) → 64 - length s ≤ k → r ≡ digit_of (get_or s (k - (64 - length s)) 0) % 16 → r ≡ hex_at s k
unfolding hex_at
hex_digit s k r h e = rw (le-ltb k (64 - length s) h) e

-- ---- the bytes
pub key_on : (s out : List ℕ) (i v : ℕ) → i < length out → take i out ≡ key_bytes s i → v ≡ key_byte s i → take (i + 1) (set out i v) ≡ key_bytes s (i + 1)
unfolding key_bytes
key_on s out i v h e f = rw (add-one, take-suc-set out i v h, e, f)

pub key_whole : (s out : List ℕ) (i : ℕ) → length out ≡ 32 → i ≡ 32 → take i out ≡ key_bytes s i → out ≡ key_bytes s 32
key_whole s out i l h e = sym (take_all 32 out (omega arith)) ∙ sym (ap (λ (k : ℕ). take k out) h) ∙ e ∙ ap (key_bytes s) h

pub byte_is : (s : List ℕ) (i a b : ℕ) → a ≡ hex_at s (2 * i) → b ≡ hex_at s (2 * i + 1) → 16 * a + b ≡ key_byte s i
unfolding key_byte
byte_is s i a b e f = rw (e, f)

-- what is a key has 64 digits at most
pub key_length_by : (s : List ℕ) (t : Bool) → t ≡ is_key s → t ≡ true → length s ≤ 64
key_length_by s t e g = key_length s (sym e ∙ g)

pub key_read : (s ys : List ℕ) (t : Bool) → t ≡ is_key s → t ≡ true → ys ≡ key_bytes s 32 → Some ys ≡ key_of s
unfolding key_of
key_read s ys t g h e = rw (sym g ∙ h, e)

pub key_bad : (s : List ℕ) (t : Bool) → t ≡ is_key s → t ≡ false → None ≡ key_of s
unfolding key_of
key_bad s t g h = rw (sym g ∙ h)
