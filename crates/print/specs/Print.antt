-- Numbers and words as answers write them. Definitions only.
use Rattle.std.specs.Prelude.{◌≡◌, ℕ, zero, suc, ◌+◌, ◌/◌, ◌%◌, ◌^◌, ◌≤◌, ◌&&◌, cond, List, [], ◌∷◌, ◌++◌, length, take, drop, eqb, leb, ltb}
use Rattle.print.specs.declared.Text.{Text}

-- a digit in ASCII: `0` to `9`, then `a` to `f`
unfoldable pub glyph_of : ℕ → ℕ
glyph_of d = cond (ltb d 10) (48 + d) (87 + d)

-- the last k digits of n, the highest first
unfoldable pub digits : ℕ → ℕ → ℕ → List ℕ
unfolding glyph_of
digits base zero n = []
digits base (suc k) n = glyph_of (n / base ^ k % base) ∷ digits base k n

-- without the zeros (48) in front; the last digit stays
unfoldable pub without_zeros : List ℕ → List ℕ
without_zeros [] = []
without_zeros (c ∷ s) = cond (eqb c 48 && ltb 0 (length s)) (without_zeros s) (c ∷ s)

-- a u64 in decimal: 20 digits hold it
unfoldable pub decimal_text : ℕ → List ℕ
unfolding digits without_zeros
decimal_text n = without_zeros (digits 10 20 n)

-- a u64 as 16 hex digits
unfoldable pub bits_text : ℕ → List ℕ
unfolding digits
bits_text n = digits 16 16 n

-- it is the buffer that was lent, and as long
abbrev pub SameBuffer : Text → Text → Type 0
SameBuffer a b = (b.out.ghost_name ≡ a.out.ghost_name) × (length b.out.now ≡ length a.out.now)

-- The buffer and the count after the bytes s were put at a place of a buffer: nothing is put where they do not fit whole.
unfoldable pub put_in : List ℕ → ℕ → List ℕ → List ℕ
put_in out at s = cond (leb (at + length s) (length out)) (take at out ++ s ++ drop (at + length s) out) out

unfoldable pub put_end : List ℕ → ℕ → List ℕ → ℕ
put_end out at s = cond (leb (at + length s) (length out)) (at + length s) at

-- Bytes that are put where they fit whole, and nothing said of those that do not: so two parts, one behind the other, are one part.
unfoldable pub Wrote : List ℕ → ℕ → List ℕ → List ℕ → ℕ → Type 0
Wrote out n s out' r = n + length s ≤ length out → (r ≡ n + length s) × (out' ≡ put_in out n s)

-- the text that the buffer holds has those bytes behind it then
unfoldable pub Adds : Text → List ℕ → Text → Type 0
Adds a s b = SameBuffer a b × Wrote a.out.now a.n s b.out.now b.n
