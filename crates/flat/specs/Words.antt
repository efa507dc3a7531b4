-- A row as 25 numbers of 64 bits, in this order: key, four little-endian words; site: 0, or 1 and the bits of lat and lon, then the altitude: 0, or 1 and
-- its 32 bits; generation; even id and odd id: 0, or 1 and the id; verdict: 0, or 1, last, wrongs, others, distance (0, or 1 and it), moved; before; after;
-- now_ms of the last accepted judging: 0, or 1 and it.
-- Words of what is absent are 0: none is zeros of the same length. Definitions only.
use Rattle.std.specs.Prelude.{ℕ, Bool, cond, ◌&&◌, List, ◌∷◌, ◌++◌, leb, drop, Some, None}
use Rattle.std.specs.Float.{nan}
use Rattle.sites.specs.declared.Site.{Site}
use Rattle.heard.specs.declared.Heard.{Heard}
use Rattle.rows.specs.declared.Row.{Row}
use Rattle.rows.specs.Links.{blank, with_part}
use Rattle.packing.specs.Words.{most32, most64, at, low32, wide2, key_words, key_of, maybe_fits, site_words, site_of, site_fits, id_words, id_of, verdict_words, verdict_of, verdict_fits}

-- A ROW
unfoldable pub words_of_row : ℕ
words_of_row = 25

unfoldable pub heard_words : Heard → List ℕ
heard_words h = site_words h.site ++ (h.generation ∷ (id_words h.even ++ id_words h.odd))

unfoldable pub closed_of : Row → List ℕ
closed_of r = key_words r.key ++ (heard_words r.part.heard ++ (verdict_words r.part.verdict ++ (r.prev ∷ r.next ∷ id_words r.part.judged_ms)))

-- even id, odd id and the clock
abbrev pub numbers_fit : List ℕ → Bool
numbers_fit ws = maybe_fits most64 (drop 10 ws) && (maybe_fits most64 (drop 12 ws) && maybe_fits most64 (drop 23 ws))

-- every word within its range, and those of what is absent zeros
unfoldable pub row_fits : List ℕ → Bool
row_fits ws =
    (wide2 ws && wide2 (drop 2 ws))
    && ((leb (at ws 9) most32 && (leb (at ws 21) most32 && leb (at ws 22) most32))
    && (site_fits (drop 4 ws) && (numbers_fit ws && verdict_fits (drop 14 ws))))

-- the same of key, site, generation and links alone
abbrev pub head_fits : List ℕ → Bool
head_fits ws = (wide2 ws && wide2 (drop 2 ws)) && ((leb (at ws 9) most32 && (leb (at ws 21) most32 && leb (at ws 22) most32)) && site_fits (drop 4 ws))

abbrev pub heard_of : List ℕ → Heard
heard_of ws = record { site = site_of (drop 4 ws); generation = low32 (at ws 9); even = id_of (drop 10 ws); odd = id_of (drop 12 ws) }

unfoldable pub row_of : List ℕ → Row
row_of ws = record {
  key = key_of ws;
  part = record { heard = heard_of ws; verdict = verdict_of (drop 14 ws); judged_ms = id_of (drop 23 ws) };
  prev = low32 (at ws 21);
  next = low32 (at ws 22);
}

-- what a row of other words opens as: question 2 refuses its site, which is not within degrees
abbrev pub junk_site : Site
junk_site = record { lat = nan; lon = nan; alt_m = None }

unfoldable pub junk : Row
junk = with_part blank (record {
  heard = record { site = Some junk_site; generation = 0; even = None; odd = None };
  verdict = None;
  judged_ms = None;
})

unfoldable pub opened_of : List ℕ → Row
opened_of ws = cond (row_fits ws) (row_of ws) junk
