-- What each line does to the cells and to the counts. Definitions only.
use Rattle.std.specs.Prelude.{ℕ, ◌+◌, ◌%◌, ◌^◌, cond, List, replicate, ◌==◌, slice_set, Ok, Err}
use Rattle.fields.specs.Text.{spell, same_bytes}
use Rattle.lines.specs.declared.Line.{Line}
use Rattle.lines.specs.declared.Line.TheVariants.{At, TooLong, Nothing}
use Rattle.cells.specs.Cells.{empty_word}
use Rattle.probes.specs.Judged.{judged_number}
use Rattle.vectors.specs.Lines.{Said, word_of, cell_of, row_of}
use Rattle.vectors.specs.declared.read.Setting.{Setting}
use Rattle.vectors.specs.declared.read.Row.{Row}
use Rattle.vectors.specs.declared.replay.Counts.{Counts}
use Rattle.vectors.specs.declared.replay.Done.{Done}

-- a row's cells, all empty
unfoldable pub no_cells : List ℕ
no_cells = replicate 3344 empty_word

abbrev pub no_counts : Counts
no_counts = record { vectors = 0; differ = 0; unread = 0 }

-- before the first line
abbrev pub nothing_done : Done
nothing_done = record { cells = no_cells; counts = no_counts }

abbrev pub one_more : ℕ → ℕ
one_more n = (n + 1) % 2 ^ 64

abbrev pub unread_of : Counts → Counts
unread_of c = record { vectors = c.vectors; differ = c.differ; unread = one_more c.unread }

abbrev pub missed_by : Done → Done
missed_by d = record { cells = d.cells; counts = unread_of d.counts }

-- ours beside the stored answer
unfoldable pub compared_by : Counts → ℕ → ℕ → Counts
compared_by c ours stored = record { vectors = one_more c.vectors; differ = cond (ours == stored) c.differ (one_more c.differ); unread = c.unread }

-- the judging of a row and its cells, as a number: Unjudged 0, Fits 1, Wrong 4 × distance + 1 (Horizon), 2 (NearField), 3 (NothingNear)
abbrev pub judged_by : Row → List ℕ → ℕ
judged_by r cells = judged_number cells r.site r.even r.odd r.now_ms r.aircraft

-- ---- cell I WORD
abbrev pub cell_by : Done → Said Setting → Done
cell_by d (Ok s) = record { cells = slice_set d.cells s.at s.word; counts = d.counts }
cell_by d (Err e) = missed_by d

unfoldable pub cell_after : Done → List ℕ → Done
cell_after d t = cell_by d (cell_of t)

-- ---- judging ..: the cells that were set are judged, and emptied
abbrev pub counts_by : Done → Said Row → Counts
counts_by d (Ok r) = compared_by d.counts (judged_by r d.cells) r.answer
counts_by d (Err e) = unread_of d.counts

unfoldable pub judging_after : Done → List ℕ → Done
judging_after d t = record { cells = no_cells; counts = counts_by d (row_of t) }

-- ---- lines

-- the words
abbrev pub word_cell : List ℕ
word_cell = spell "cell"

abbrev pub word_judging : List ℕ
word_judging = spell "judging"

abbrev pub word_count : List ℕ
word_count = spell "count"

abbrev pub word_comment : List ℕ
word_comment = spell "#"

unfoldable pub after : Done → List ℕ → Done
after d t =
    cond (same_bytes (word_of 0 t) word_cell) (cell_after d t)
    (cond (same_bytes (word_of 0 t) word_judging) (judging_after d t)
    (cond (same_bytes (word_of 0 t) word_count) (record { cells = d.cells; counts = no_counts })
    (cond (same_bytes (word_of 0 t) word_comment) d (missed_by d))))

abbrev pub answered : Done → Line → List ℕ → Done
answered d (At start end) t = after d t
answered d TooLong t = missed_by d
answered d Nothing t = d
