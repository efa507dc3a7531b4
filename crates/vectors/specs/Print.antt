-- What is printed. Definitions only.
use Rattle.std.specs.Prelude.{◌≡◌, ℕ, cond, List, [], ◌∷◌, ◌++◌, length, replicate}
use Rattle.fields.specs.Text.{spell, part_of, same_bytes}
use Rattle.print.specs.Print.{decimal_text, put_in, put_end}
use Rattle.vectors.specs.Lines.{word_of}
use Rattle.vectors.specs.Replays.{word_count}
use Rattle.vectors.specs.declared.replay.Counts.{Counts}

-- the buffer after texts were put one behind the other, and where they end
abbrev pub put_all : List ℕ → ℕ → List (List ℕ) → List ℕ
put_all out at [] = out
put_all out at (s ∷ rest) = put_all (put_in out at s) (put_end out at s) rest

abbrev pub end_all : List ℕ → ℕ → List (List ℕ) → ℕ
end_all out at [] = at
end_all out at (s ∷ rest) = end_all (put_in out at s) (put_end out at s) rest

abbrev pub Put : List ℕ → ℕ → List (List ℕ) → List ℕ → ℕ → Type 0
Put out at texts after end = (end ≡ end_all out at texts) × (after ≡ put_all out at texts)

-- the words between the numbers
abbrev pub text_colon : List ℕ
text_colon = spell ": "

abbrev pub text_vectors : List ℕ
text_vectors = spell " vectors, "

abbrev pub text_differ : List ℕ
text_differ = spell " differ, "

abbrev pub text_unread : List ℕ
text_unread = spell " unread\n"

-- NAME: N vectors, N differ, N unread, and a line end
abbrev pub count_text : ℕ → List ℕ → List (List ℕ)
count_text n what = decimal_text n ∷ what ∷ []

abbrev pub row_text : Counts → List ℕ → List (List ℕ)
row_text c name = (name ∷ text_colon ∷ []) ++ (count_text c.vectors text_vectors ++ (count_text c.differ text_differ ++ count_text c.unread text_unread))

-- `count NAME`: its row
abbrev pub row_for : Counts → List ℕ → List (List ℕ)
row_for c t = row_text c (part_of t 6 (length t))

-- how many bytes the row has, in a buffer of 2,048
unfoldable pub shown_by : Counts → List ℕ → ℕ
shown_by c t = cond (same_bytes (word_of 0 t) word_count) (end_all (replicate 2048 0) 0 (row_for c t)) 0

-- and those bytes; of another line there are none
unfoldable pub shown_text : Counts → List ℕ → List ℕ
shown_text c t =
    cond (same_bytes (word_of 0 t) word_count) (part_of (put_all (replicate 2048 0) 0 (row_for c t)) 0 (end_all (replicate 2048 0) 0 (row_for c t))) []
