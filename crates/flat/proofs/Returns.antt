-- Closed and opened again, a row within its ranges is itself, by the laws of its fields.
use mathlib.Core.Path.{◌≡◌, refl, sym, ap, ◌∙◌}
use Prim.Native.Nat.{ℕ, ◌≤◌}
use mathlib.Core.Bool.{Bool, true, false, ◌&&◌}
use mathlib.Core.List.{List, [], ◌∷◌, ◌++◌, append_assoc, append-nil}
use borrow.Author.Tests.{le-leb}
use lib.Dec.{leb}
use lib.ListN.{get_or, drop}
use Rattle.measures.specs.Degrees.{within}
use Rattle.rows.specs.declared.Row.{Row}
use Rattle.rows.specs.Read.{fits}
use Rattle.flat.specs.Words.{heard_words, closed_of, numbers_fit, row_fits, heard_of, row_of, junk, opened_of}
use Rattle.flat.specs.Ranges.{HeardIn, RowIn}
use Rattle.packing.specs.Words.{most32, most64, low32, key_words, key_of, wide2, site_words, site_fits, id_words, id_of, verdict_words, verdict_of, verdict_fits}
use Rattle.packing.specs.Ranges.{IdIn, VerdictIn}
use Rattle.packing.proofs.Runs.{here, there, past}
use Rattle.packing.proofs.Keys.{key_back, eight_below}
use Rattle.packing.proofs.Lengths.{site_words_lem, id_words_lem, verdict_words_lem}
use Rattle.packing.specs.Laws.{low_is}
use Rattle.packing.proofs.Returns.{site_back_lem, site_fits_lem, id_back, id_fits, verdict_back_lem, verdict_fits_lem}

-- A ROW: what is left of its words from each part on, whatever its key is
abbrev clock_on : Row → List ℕ
clock_on r = id_words r.part.judged_ms

abbrev links : Row → List ℕ
links r = r.prev ∷ r.next ∷ clock_on r

abbrev verdict_on : Row → List ℕ
verdict_on r = verdict_words r.part.verdict ++ links r

abbrev odd_on : Row → List ℕ
odd_on r = id_words r.part.heard.odd ++ verdict_on r

abbrev even_on : Row → List ℕ
even_on r = id_words r.part.heard.even ++ odd_on r

abbrev site_on : Row → List ℕ
site_on r = site_words r.part.heard.site ++ (r.part.heard.generation ∷ even_on r)

-- the range of all but the key
pub record RestIn (r : Row) : Type 0 where
  pub heard : HeardIn r.part.heard
  pub verdict : VerdictIn r.part.verdict
  pub clock : IdIn r.part.judged_ms
  pub prev : r.prev ≤ most32
  pub next : r.next ≤ most32

-- the tests of all words but the key's
abbrev rest_fits : List ℕ → Bool
rest_fits ws = (leb (get_or ws 9 0) most32 && (leb (get_or ws 21 0) most32 && leb (get_or ws 22 0) most32)) && (site_fits (drop 4 ws) && (numbers_fit ws && verdict_fits (drop 14 ws)))

module _ (words : List ℕ) (r : Row) (rest : drop 4 words ≡ heard_words r.part.heard ++ verdict_on r) where
  from4 : drop 4 words ≡ site_on r
  unfolding heard_words
  from4 =
      let h = r.part.heard in
      rest ∙ append_assoc (site_words h.site) (h.generation ∷ (id_words h.even ++ id_words h.odd)) (verdict_on r)
      ∙ ap (λ (l : List ℕ). site_words h.site ++ (h.generation ∷ l)) (append_assoc (id_words h.even) (id_words h.odd) (verdict_on r))

  from9 : drop 9 words ≡ r.part.heard.generation ∷ even_on r
  from9 = past words (site_words r.part.heard.site) (r.part.heard.generation ∷ even_on r) 4 5 from4 (site_words_lem r.part.heard.site)

  from10 : drop 10 words ≡ even_on r
  from10 = past words (r.part.heard.generation ∷ []) (even_on r) 9 1 from9 refl

  from12 : drop 12 words ≡ odd_on r
  from12 = past words (id_words r.part.heard.even) (odd_on r) 10 2 from10 (id_words_lem r.part.heard.even)

  from14 : drop 14 words ≡ verdict_on r
  from14 = past words (id_words r.part.heard.odd) (verdict_on r) 12 2 from12 (id_words_lem r.part.heard.odd)

  from21 : drop 21 words ≡ links r
  from21 = past words (verdict_words r.part.verdict) (links r) 14 7 from14 (verdict_words_lem r.part.verdict)

  -- a part's words and none behind it
  from23 : drop 23 words ≡ clock_on r ++ []
  from23 = past words (r.prev ∷ r.next ∷ []) (clock_on r) 21 2 from21 refl ∙ sym (append-nil (clock_on r))

  at9 : get_or words 9 0 ≡ r.part.heard.generation
  at9 = sym (here words 9) ∙ ap (λ (l : List ℕ). get_or l 0 0) from9

  at21 : get_or words 21 0 ≡ r.prev
  at21 = sym (here words 21) ∙ ap (λ (l : List ℕ). get_or l 0 0) from21

  at22 : get_or words 22 0 ≡ r.next
  at22 = sym (there words 21 1) ∙ ap (λ (l : List ℕ). get_or l 1 0) from21

  words_fit : RestIn r → (wide2 words && wide2 (drop 2 words)) ≡ true → row_fits words ≡ true
  unfolding row_fits
  words_fit h key = ap (λ (b : Bool). b && rest_fits words) key ∙ simp (
    at9,
    at21,
    at22,
    from4,
    from10,
    from12,
    from14,
    from23,
    le-leb r.part.heard.generation most32 h.heard.generation,
    le-leb r.prev most32 h.prev,
    le-leb r.next most32 h.next,
    site_fits_lem r.part.heard.site (r.part.heard.generation ∷ even_on r) h.heard.site,
    id_fits r.part.heard.even (odd_on r) h.heard.even,
    id_fits r.part.heard.odd (verdict_on r) h.heard.odd,
    verdict_fits_lem r.part.verdict (links r) h.verdict,
    id_fits r.part.judged_ms [] h.clock,
  )

  heard_back : RestIn r → heard_of words ≡ r.part.heard
  heard_back h = simp (
    at9,
    from4,
    from10,
    from12,
    low_is r.part.heard.generation h.heard.generation,
    site_back_lem r.part.heard.site (r.part.heard.generation ∷ even_on r) h.heard.site,
    id_back r.part.heard.even (odd_on r),
    id_back r.part.heard.odd (verdict_on r),
  )

  -- of the key, whatever its words are
  pub opened_words : (k : List ℕ) → RestIn r → (wide2 words && wide2 (drop 2 words)) ≡ true → key_of words ≡ k → opened_of words ≡ record { key = k; part = r.part; prev = r.prev; next = r.next }
  unfolding opened_of row_of
  opened_words k h w e =
      let v : verdict_of (drop 14 words) ≡ r.part.verdict = ap verdict_of from14 ∙ verdict_back_lem r.part.verdict (links r) h.verdict in
      let c : id_of (drop 23 words) ≡ r.part.judged_ms = ap id_of from23 ∙ id_back r.part.judged_ms [] in
      let p : low32 (get_or words 21 0) ≡ r.prev = ap low32 at21 ∙ low_is r.prev h.prev in
      let n : low32 (get_or words 22 0) ≡ r.next = ap low32 at22 ∙ low_is r.next h.next in
      simp (words_fit h w, e, heard_back h, v, c, p, n)

-- THE LAW OF RETURN
closed_rest : (r : Row) → drop 4 (closed_of r) ≡ heard_words r.part.heard ++ verdict_on r
unfolding closed_of key_words
closed_rest r = refl

closed_key : (r : Row) → RowIn r → key_of (closed_of r) ≡ r.key
unfolding closed_of
closed_key r h = key_back r.key (heard_words r.part.heard ++ verdict_on r) h.key

closed_wide : (r : Row) → RowIn r → (wide2 (closed_of r) && wide2 (drop 2 (closed_of r))) ≡ true
unfolding closed_of key_words
closed_wide r h = simp (le-leb _ most64 (eight_below r.key 0 h.key), le-leb _ most64 (eight_below r.key 8 h.key), le-leb _ most64 (eight_below r.key 16 h.key), le-leb _ most64 (eight_below r.key 24 h.key))

pub opened_closed : (r : Row) → RowIn r → opened_of (closed_of r) ≡ r
opened_closed r h = opened_words (closed_of r) r (closed_rest r) r.key (record { heard = h.heard; verdict = h.verdict; clock = h.clock; prev = h.prev; next = h.next }) (closed_wide r h) (closed_key r h)

-- question 2 refuses a row whose words are out of range
pub junk_unfit : fits junk.part ≡ false
unfolding junk within
junk_unfit = refl
