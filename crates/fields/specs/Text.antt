-- A line of a list of calls, as bytes: its text, its fields, its words. Definitions only.
use Rattle.std.specs.Prelude.{ℕ, zero, suc, ◌+◌, ◌-◌, min, Bool, true, false, ◌&&◌, cond, List, [], ◌∷◌, ◌++◌, length, get_or, take, drop, eqb, leb, ltb, None, Some, Option, Ok, Err, Result, option_map}
use Prim.Native.Char.{code}
use Prim.Native.String.{String, [] as none, ◌∷◌ as ◌before◌}
use Rattle.fields.specs.declared.Field.{Field}
use Rattle.fields.specs.declared.Stray.{Stray}

-- a text's bytes
abbrev pub spell : String → List ℕ
spell none = []
spell (c before s) = code c ∷ spell s

-- where the byte c first stands in s, or the length of s where it stands nowhere
unfoldable pub first_of : ℕ → List ℕ → ℕ
first_of c [] = 0
first_of c (x ∷ s) = cond (eqb x c) 0 (suc (first_of c s))

-- where it stands, if it stands in s
unfoldable pub first_in : ℕ → List ℕ → Option ℕ
unfolding first_of
first_in c s = cond (ltb (first_of c s) (length s)) (Some (first_of c s)) None

-- the end n of a part of s from its start, moved back over the spaces (32) before it
unfoldable pub back_over : List ℕ → ℕ → ℕ
back_over s zero = 0
back_over s (suc n) = cond (eqb (get_or s n 0) 32) (back_over s n) (suc n)

-- `#` (35) starts a comment, and the spaces before it are the comment's: where a line's text ends
unfoldable pub text_end : List ℕ → ℕ
unfolding first_of back_over
text_end line = cond (ltb (first_of 35 line) (length line)) (back_over line (first_of 35 line)) (length line)

-- a field's bytes, and where the next field starts
pub record Piece : Type 0 where
  pub bytes : List ℕ
  pub next : ℕ

abbrev pub seen : Result (Option Field) Stray → Result (Option Piece) Stray
seen (Ok f) = Ok (option_map (λ f. record { bytes = f.bytes.now; next = f.next }) f)
seen (Err e) = Err e

-- Fields are separated by single spaces, the parts of a field by single commas: the one that starts at `from` runs up to the next separator, or to the end of the text,
-- and the next one starts past that separator. Two separators in a row, or one at either end, leave a field of no bytes: a stray one. Past the end of the text there is no field.
unfoldable pub field_at : ℕ → List ℕ → ℕ → Result (Option Piece) Stray
unfolding first_of
field_at sep t from =
    cond (ltb (length t) from) (Ok None)
    (cond (eqb (first_of sep (drop from t)) 0) (Err (record { sep = sep }))
    (Ok (Some (record { bytes = take (first_of sep (drop from t)) (drop from t); next = from + first_of sep (drop from t) + 1 }))))

-- the bytes of s from a up to e, none where s has no such part
unfoldable pub part_of : List ℕ → ℕ → ℕ → List ℕ
part_of s a e = cond (leb a e && leb e (length s)) (take (e - a) (drop a s)) []

-- s and w are the same bytes
unfoldable pub same_bytes : List ℕ → List ℕ → Bool
same_bytes [] [] = true
same_bytes [] (y ∷ w) = false
same_bytes (x ∷ s) [] = false
same_bytes (x ∷ s) (y ∷ w) = eqb x y && same_bytes s w

-- how many bytes of s, from its start on, are printable (33 to 126) and so can be shown as they are
unfoldable pub printable : List ℕ → ℕ
printable [] = 0
printable (c ∷ s) = cond (leb 33 c && leb c 126) (suc (printable s)) 0

-- a word is shown by its printable bytes, 32 at most
unfoldable pub shown_of : List ℕ → ℕ
unfolding printable
shown_of s = min 32 (printable s)

-- a buffer after the n bytes from `start` on were moved to its front
unfoldable pub moved_to : List ℕ → ℕ → ℕ → List ℕ
moved_to buf start n = take n (drop start buf) ++ drop n buf
