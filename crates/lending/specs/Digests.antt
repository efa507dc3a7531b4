-- The digest of a watch (README, 'A list of calls'). Definitions only.
use Rattle.verdicts.specs.declared.Verdict.{Verdict}
use Rattle.std.specs.Prelude.{ℕ, ◌-◌, ◌*◌, ◌%◌, ◌^◌, cond, List, [], ◌∷◌, ◌++◌, length, ◌==◌, bit_xor, Some, None, Option}
use Rattle.table.specs.Rows as T
use Rattle.table.specs.Rows.{NONE, Watch}
use Rattle.receiver.specs.declared.Part.{Part}
use Rattle.flat.specs.Words.{heard_words}
use Rattle.packing.specs.Words.{key_words, id_words, last_word}

-- for each word w, h = (h xor w) × 1099511628211 mod 2^64
unfoldable pub times : ℕ → ℕ
times h = (h * 1099511628211) % 2 ^ 64

abbrev pub mixed : ℕ → ℕ → ℕ
mixed h w = times (bit_xor h w)

unfoldable pub mixed_all : ℕ → List ℕ → ℕ
mixed_all h [] = h
mixed_all h (w ∷ ws) = mixed_all (mixed h w) ws

-- none is 2^64 − 1
unfoldable pub link_word : ℕ → ℕ
link_word n = cond (n == NONE) (2 ^ 64 - 1) n

-- verdict six zeros or 1, last, wrongs, others, distance or 0, moved
abbrev pub distance_of : Option ℕ → ℕ
distance_of (Some d) = d
distance_of None = 0

unfoldable pub verdict_six : Option Verdict → List ℕ
verdict_six (Some v) = 1 ∷ last_word v.last ∷ v.wrong_run ∷ v.other_run ∷ distance_of v.wrong_by ∷ cond v.moved 1 0 ∷ []
verdict_six None = 0 ∷ 0 ∷ 0 ∷ 0 ∷ 0 ∷ 0 ∷ []

-- the key as four little-endian words; site, generation, even id and odd id, each as in a lent row; verdict; before; after; 0, 0 or 1, now_ms of the last judging
unfoldable pub row_words : T.Row Part → List ℕ
row_words r = key_words r.key ++ (heard_words r.part.heard ++ (verdict_six r.part.verdict ++ (link_word r.prev ∷ link_word r.next ∷ id_words r.part.judged_ms)))

unfoldable pub rows_words : List (T.Row Part) → List ℕ
rows_words [] = []
rows_words (r ∷ rs) = row_words r ++ rows_words rs

-- first, last, free
abbrev pub ends_words : T.Ends → List ℕ
ends_words e = link_word e.head ∷ link_word e.tail ∷ link_word e.free ∷ []

-- Words: C; the ends; each row; then all cells of the watch
abbrev pub watch_words : Watch Part → List ℕ
watch_words w = length w.rows ∷ (ends_words w.ends ++ (rows_words w.rows ++ w.cells))

-- h = 14695981039346656037
unfoldable pub first_hash : ℕ
first_hash = 14695981039346656037

unfoldable pub digest_of : Watch Part → ℕ
digest_of w = mixed_all first_hash (watch_words w)
