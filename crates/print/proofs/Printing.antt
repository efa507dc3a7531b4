-- Printing: what the library writes of a number are the digits of the definitions, and bytes are put into a buffer.
use Rattle.std.proofs.Common.{◌≡◌, refl, sym, ap, ◌∙◌, arith, inl, inr}
use Rattle.std.proofs.lemmas.Bool.{and_parts, cases_eq, cases_lt, eqb-true}
use Rattle.std.proofs.lemmas.Fmt.{decimal_digit, decimal_step, first_decimal}
use Rattle.std.proofs.Math.Nat.{mul_comm, div-one, pow-zero}
use Rattle.std.specs.Fmt.{decimal}
use Rattle.std.specs.Int.{w64, byte_at, bytes_high_first, to_be_bytes}
use Rattle.hex.specs.Hex.{lower_digits, encode_with, encode_lower}
use mathlib.Core.Bool.{Bool, true, false, ◌&&◌, cond}
use mathlib.Core.List.{List, [], ◌∷◌, ◌++◌}
use Prim.Native.Nat.{ℕ, zero, suc, ◌+◌, ◌-◌, ◌/◌, ◌%◌, ◌^◌, ◌≤◌, ◌<◌}
use native.Mathlib.Nat.{div-div-eq-div-mul, mod-eq_of_lt, pow-suc, zero-div}
use borrow.Author.Tests.{eq-eqb, ne_eqb, lt-ltb, le-leb, lt-leb}
use lib.Dec.{eqb}
use borrow.Rule.Slice.PartMut.{put_mid}
use Rattle.std.proofs.lemmas.List.{append_assoc, drop-drop}
use lib.ListN.{length, get_or, take, drop}
use lib.Ieee.{Float, nan, inf, fin, binary64, is_nan, to_bits}
use Rattle.print.specs.Print.{glyph_of, digits, without_zeros, decimal_text, bits_text, put_in, put_end, SameBuffer, Wrote, Adds}
use Rattle.print.specs.declared.Text.{Text}

pub digits_length : (base k n : ℕ) → length (digits base k n) ≡ k
unfolding digits
digits_length base zero n = refl
digits_length base (suc k) n = ap suc (digits_length base k n)

-- the last digit stands behind those of a tenth of the number
digits_back : (base k n : ℕ) → digits base (suc k) n ≡ digits base k (n / base) ++ (glyph_of (n % base) ∷ [])
unfolding digits
digits_back base zero n = rw (pow-zero base, div-one n) refl
digits_back base (suc k) n =
    ap (λ (x : ℕ). glyph_of (n / x % base) ∷ digits base (suc k) n) (pow-suc base k ∙ mul_comm (base ^ k) base)
    ∙ ap (λ (x : ℕ). glyph_of (x % base) ∷ digits base (suc k) n) (sym (div-div-eq-div-mul n base (base ^ k)))
    ∙ ap (λ (t : List ℕ). glyph_of (n / base / base ^ k % base) ∷ t) (digits_back base k n)

-- ---- in decimal: the library's digits, which it spells without zeros in front
one_digit : (c : ℕ) → c ∷ [] ≡ without_zeros (c ∷ [])
unfolding without_zeros
one_digit c = by (eqb c 48) where
  by : (b : Bool) → c ∷ [] ≡ cond (b && false) [] (c ∷ [])
  by true = refl
  by false = refl

zero_goes : (c : ℕ) (s : List ℕ) → c ≡ 48 → 0 < length s → without_zeros (c ∷ s) ≡ without_zeros s
unfolding without_zeros
zero_goes c s e h = rw (eq-eqb c 48 e, lt-ltb 0 (length s) h) refl

other_stays : (c : ℕ) (s : List ℕ) → (c ≡ 48 → ⊥) → without_zeros (c ∷ s) ≡ c ∷ s
unfolding without_zeros
other_stays c s n = rw (ne_eqb c 48 n) refl

none_left : get_or (without_zeros []) 0 0 ≡ 0
unfolding without_zeros
none_left = refl

-- a digit behind others stays, where not all of those are zeros
last_stays : (s : List ℕ) (g : ℕ) → 48 < get_or (without_zeros s) 0 0 → without_zeros (s ++ (g ∷ [])) ≡ without_zeros s ++ (g ∷ [])
last_stays [] g h = absurd (omega (arith, none_left))
last_stays (c ∷ []) g h =
    let other : (c ≡ 48 → ⊥) = λ e. omega (arith, ap (λ (t : List ℕ). get_or t 0 0) (one_digit c)) in
    other_stays c (g ∷ []) other ∙ ap (λ (t : List ℕ). t ++ (g ∷ [])) (one_digit c)
last_stays (c ∷ d ∷ s) g h =
    elim (cases_eq c 48) [
      | inl e ↦
          let goes = zero_goes c (d ∷ s) e (omega arith) in
          zero_goes c (d ∷ s ++ (g ∷ [])) e (omega arith) ∙ last_stays (d ∷ s) g (rw (← goes) h) ∙ ap (λ (t : List ℕ). t ++ (g ∷ [])) (sym goes)
      | inr n ↦ other_stays c (d ∷ s ++ (g ∷ [])) n ∙ ap (λ (t : List ℕ). t ++ (g ∷ [])) (sym (other_stays c (d ∷ s) n))
    ]

digit_is : (n : ℕ) → n < 10 → glyph_of n ≡ 48 + n
unfolding glyph_of
digit_is n h = rw (lt-ltb n 10 h) refl

-- one digit, in any width
short_is : (k n : ℕ) → n < 10 → without_zeros (digits 10 (suc k) n) ≡ (48 + n) ∷ []
unfolding digits
short_is zero n h = rw (pow-zero 10, div-one n, mod-eq_of_lt h, digit_is n h) (sym (one_digit (48 + n)))
short_is (suc k) n h =
    let none : n / 10 ^ suc k ≡ 0 = ap (λ (x : ℕ). n / x) (pow-suc 10 k ∙ mul_comm (10 ^ k) 10) ∙ sym (div-div-eq-div-mul n 10 (10 ^ k)) ∙ ap (λ (x : ℕ). x / 10 ^ k) (omega arith) ∙ zero-div (10 ^ k) in
    zero_goes _ (digits 10 (suc k) n) (rw none (digit_is 0 (omega arith))) (omega arith) ∙ short_is k n h

-- a digit more
longer_is : (k n : ℕ) → 10 ≤ n → n < 2 ^ 64 → without_zeros (digits 10 (suc k) (n / 10)) ≡ decimal (n / 10) → without_zeros (digits 10 (suc (suc k)) n) ≡ decimal n
longer_is k n h small e =
    let g = glyph_of (n % 10) in
    ap without_zeros (digits_back 10 (suc k) n)
    ∙ last_stays (digits 10 (suc k) (n / 10)) g (rw e (first_decimal (n / 10) (omega arith) (omega arith)))
    ∙ ap (λ (t : List ℕ). t ++ (g ∷ [])) e
    ∙ ap (λ (x : ℕ). decimal (n / 10) ++ (x ∷ [])) (digit_is (n % 10) (omega arith))
    ∙ sym (decimal_step n h small)

decimal_is : (k n : ℕ) → n < 10 ^ suc k → n < 2 ^ 64 → without_zeros (digits 10 (suc k) n) ≡ decimal n
decimal_is zero n h small = short_is 0 n (omega arith) ∙ sym (decimal_digit n (omega arith))
decimal_is (suc k) n h small =
    elim (cases_lt n 10) [
      | inl l ↦ short_is (suc k) n l ∙ sym (decimal_digit n l)
      | inr l ↦ longer_is k n l small (decimal_is k (n / 10) (omega arith) (omega arith))
    ]

pub decimal_put : (n : ℕ) → n < 2 ^ 64 → decimal n ≡ decimal_text n
unfolding decimal_text
decimal_put n h = sym (decimal_is 19 n (omega arith) h)

-- ---- in hex: the library's digits of bytes, two for each
-- `glyph_of` is the library's table, tried at each of its places
same_below : ℕ → Bool
same_below zero = true
same_below (suc n) = eqb (get_or lower_digits n 0) (glyph_of n) && same_below n

same_at : (n d : ℕ) → same_below n ≡ true → d < n → get_or lower_digits d 0 ≡ glyph_of d
unfolding same_below
same_at zero d h l = absurd (omega arith)
same_at (suc n) d h l =
    let parts = and_parts (eqb (get_or lower_digits n 0) (glyph_of n)) (same_below n) h in
    elim (cases_lt d n) [
      | inl below ↦ same_at n d parts.1 below
      | inr top ↦
          let e : d ≡ n = omega arith in
          rw e (eqb-true _ _ parts.0)
    ]

glyph_at : (d : ℕ) → d < 16 → get_or lower_digits d 0 ≡ glyph_of d
unfolding glyph_of same_below
glyph_at d h = same_at 16 d refl h

abbrev twice : ℕ → ℕ
twice zero = 0
twice (suc k) = suc (suc (twice k))

places_of : (k : ℕ) → 256 ^ k ≡ 16 ^ twice k
places_of zero = pow-zero 256 ∙ sym (pow-zero 16)
places_of (suc k) = omega (arith, places_of k, pow-suc 256 k, pow-suc 16 (twice k), pow-suc 16 (suc (twice k)))

byte_is : (k n : ℕ) → byte_at k n ≡ n / 256 ^ k % 256
byte_is zero n = rw (pow-zero 256, div-one n) refl
byte_is (suc k) n = refl

hex_is : (k n : ℕ) → encode_lower (bytes_high_first k n) ≡ digits 16 (twice k) n
unfolding encode_with digits
hex_is zero n = refl
hex_is (suc k) n =
    let x = n / 16 ^ twice k in
    let b : byte_at k n ≡ x % 256 = byte_is k n ∙ ap (λ (p : ℕ). n / p % 256) (places_of k) in
    let next : x / 16 ≡ n / 16 ^ suc (twice k) = div-div-eq-div-mul n (16 ^ twice k) 16 ∙ ap (λ (p : ℕ). n / p) (sym (pow-suc 16 (twice k))) in
    let high : get_or lower_digits (byte_at k n / 16) 0 ≡ glyph_of (n / 16 ^ suc (twice k) % 16) = glyph_at (byte_at k n / 16) (omega arith) ∙ ap glyph_of (omega arith) in
    let low : get_or lower_digits (byte_at k n % 16) 0 ≡ glyph_of (x % 16) = glyph_at (byte_at k n % 16) (omega arith) ∙ ap glyph_of (omega arith) in
    rw (high, low, hex_is k n) refl

pub bits_put : (n : ℕ) → encode_lower (to_be_bytes w64 n) ≡ bits_text n
unfolding bits_text
bits_put n = hex_is 8 n

pub byte_put : (b : ℕ) → b < 256 → encode_lower (b ∷ []) ≡ digits 16 2 b
byte_put b h = ap (λ (x : ℕ). encode_lower (x ∷ [])) (sym (mod-eq_of_lt h)) ∙ hex_is 1 b

-- ---- a buffer
pub put_fits : (out : List ℕ) (at : ℕ) (s t : List ℕ) → at + length s ≤ length out → t ≡ s
    → (at + length s ≡ put_end out at s) × (put_mid at (at + length s - at) out t ≡ put_in out at s)
unfolding put_in put_end
put_fits out at s t h e =
    let n : at + length s - at ≡ length s = omega arith in (
      rw (le-leb (at + length s) (length out) h),
      rw (le-leb (at + length s) (length out) h, e, n, drop-drop (length s) at out) (sym (append_assoc (take at out) s (drop (at + length s) out))),
    )

pub put_not : (out : List ℕ) (at : ℕ) (s : List ℕ) → length out < at + length s → (at ≡ put_end out at s) × (out ≡ put_in out at s)
unfolding put_in put_end
put_not out at s h = (rw (lt-leb (at + length s) (length out) h), rw (lt-leb (at + length s) (length out) h))

wrote_put : (out s out' : List ℕ) (n r : ℕ) → r ≡ put_end out n s → out' ≡ put_in out n s → Wrote out n s out' r
unfolding Wrote put_end
wrote_put out s out' n r e f h = (e ∙ (rw (le-leb (n + length s) (length out) h)), f)

pub adds_put : (a b : Text) (s : List ℕ) → (b.n ≡ put_end a.out.now a.n s) × (b.out.now ≡ put_in a.out.now a.n s) → SameBuffer a b → Adds a s b
unfolding Adds
adds_put a b s e g = (g, wrote_put a.out.now s b.out.now a.n b.n e.0 e.1)

-- ---- the bits of a float
pub nan_bits : (x : Float) → true ≡ is_nan x → 0x7ff8_0000_0000_0000 ≡ to_bits binary64 x
unfolding is_nan to_bits
nan_bits nan h = refl
nan_bits (inf s) h = absurd (cc)
nan_bits (fin s m e) h = absurd (cc)
