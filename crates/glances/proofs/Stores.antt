-- Stores into a row's 25 words that fit: links in place of links, a part in place of a part. The row that is read after them differs in that alone.
use mathlib.Core.Path.{◌≡◌, refl, sym, ap, ap₂, ◌∙◌}
use Prim.Native.Nat.{ℕ, ◌+◌, ◌≤◌}
use native.Mathlib.Omega.{arith}
use mathlib.Core.Bool.{Bool, true, ◌&&◌}
use mathlib.Core.List.{List, [], ◌∷◌, ◌++◌, append_assoc}
use borrow.Author.Tests.{le-leb, leb-true}
use lib.Dec.{leb}
use lib.ListN.{length, get_or, set, take, drop, length-append}
use lib.Seq.{sets, sets-eq}
use Rattle.table.proofs.Tests.{and_1, and_2, and_both}
use Rattle.receiver.specs.declared.Part.{Part}
use Rattle.rows.specs.declared.Row.{Row}
use Rattle.rows.specs.Links.{with_links, with_part}
use Rattle.packing.specs.Words.{most32, key_of, wide2, maybe_fits, site_of, site_fits, verdict_of, run_of, run_fits, verdict_fits, id_words, verdict_words}
use Rattle.flat.specs.Words.{numbers_fit, heard_words, row_fits, row_of, opened_of}
use Rattle.packing.specs.Ranges.{VerdictIn, IdIn}
use Rattle.flat.specs.Ranges.{HeardIn}
use Rattle.packing.proofs.Runs.{runs2, over_rest}
use Rattle.packing.proofs.Lengths.{verdict_words_lem, id_words_lem}
use Rattle.flat.proofs.Closing.{heard_words_lem}
use Rattle.packing.specs.Laws.{low_is}
use Rattle.flat.proofs.Returns.{opened_words}
use Rattle.flat.proofs.Closed.{each, each_is}
use Rattle.flat.proofs.Opening.{opened_fit}

-- the tests of a row: the key, generation and links, and the parts
abbrev key : List ℕ → Bool
key l = wide2 l && wide2 (drop 2 l)

abbrev low : List ℕ → Bool
low l = leb (get_or l 9 0) most32 && (leb (get_or l 21 0) most32 && leb (get_or l 22 0) most32)

abbrev rest : List ℕ → Bool
rest l = site_fits (drop 4 l) && (numbers_fit l && verdict_fits (drop 14 l))

module _ (ws : List ℕ) (long : length ws ≡ 25) (fit : row_fits ws ≡ true) where
  fit_each : row_fits (each ws) ≡ true
  fit_each = ap row_fits (sym (each_is ws long)) ∙ fit

  -- LINKS
  module _ (p n : ℕ) (hp : p ≤ most32) (hn : n ≤ most32) where
    abbrev linked : List ℕ
    linked = sets (each ws) 21 (p ∷ n ∷ [])

    linked_fit : row_fits linked ≡ true
    unfolding row_fits site_fits maybe_fits verdict_fits run_fits
    linked_fit =
        let all = and_2 (key (each ws)) (low (each ws) && rest (each ws)) fit_each in
        and_both (key linked) (low linked && rest linked) (and_1 (key (each ws)) (low (each ws) && rest (each ws)) fit_each)
        (and_both (low linked) (rest linked)
        (and_both (leb (get_or ws 9 0) most32) (leb p most32 && leb n most32) (and_1 (leb (get_or ws 9 0) most32) (leb (get_or ws 21 0) most32 && leb (get_or ws 22 0) most32) (and_1 (low (each ws)) (rest (each ws)) all)) (and_both (leb p most32) (leb n most32) (le-leb p most32 hp) (le-leb n most32 hn)))
        (and_2 (low (each ws)) (rest (each ws)) all))

    linked_row_lem : row_of linked ≡ with_links (row_of (each ws)) p n
    unfolding row_of key_of site_of verdict_of run_of
    linked_row_lem = ap₂ {C = Row} (λ x y. with_links (row_of (each ws)) x y) (low_is p hp) (low_is n hn)

    pub links_stored : (a b : ℕ) (z : List ℕ) → a ≡ p → b ≡ n → z ≡ set (set ws 21 a) 22 b → opened_of z ≡ with_links (opened_of ws) p n
    links_stored a b z ea eb e =
        ap opened_of (e ∙ ap₂ {C = List ℕ} (λ x y. sets ws 21 (x ∷ y ∷ [])) ea eb ∙ ap (λ (l : List ℕ). sets l 21 (p ∷ n ∷ [])) (each_is ws long)) ∙ opened_fit linked linked_fit ∙ linked_row_lem
        ∙ ap (λ (r : Row). with_links r p n) (sym (opened_fit (each ws) fit_each) ∙ ap opened_of (sym (each_is ws long)))

  -- A PART
  module _ (part : Part) (heard : HeardIn part.heard) (verdict : VerdictIn part.verdict) (clock : IdIn part.judged_ms) where
    abbrev part_words : List ℕ
    part_words = heard_words part.heard ++ verdict_words part.verdict

    part_words_lem : length part_words ≡ 17
    part_words_lem = length-append (heard_words part.heard) (verdict_words part.verdict) ∙ omega (arith, heard_words_lem part.heard, verdict_words_lem part.verdict)

    abbrev links : List ℕ
    links = get_or ws 21 0 ∷ get_or ws 22 0 ∷ []

    abbrev kept : List ℕ
    kept = id_words part.judged_ms

    -- all words before the clock's
    abbrev front : List ℕ
    front = get_or ws 0 0 ∷ get_or ws 1 0 ∷ get_or ws 2 0 ∷ get_or ws 3 0 ∷ (part_words ++ links)

    front_words : length front ≡ 23
    front_words = omega (arith, length-append part_words links, part_words_lem)

    abbrev parted : List ℕ
    parted = front ++ kept

    abbrev row : Row
    row = record { key = key_of (each ws); part = part; prev = get_or ws 21 0; next = get_or ws 22 0 }

    front_is : sets ws 4 part_words ≡ front ++ (get_or ws 23 0 ∷ get_or ws 24 0 ∷ [])
    front_is =
        ap (λ (l : List ℕ). sets l 4 part_words) (each_is ws long) ∙ sets-eq part_words (each ws) 4 (omega (arith, part_words_lem))
        ∙ ap (λ (n : ℕ). take 4 (each ws) ++ (part_words ++ drop (4 + n) (each ws))) part_words_lem
        ∙ ap (λ (l : List ℕ). take 4 (each ws) ++ l) (sym (append_assoc part_words links (get_or ws 23 0 ∷ get_or ws 24 0 ∷ [])))

    parted_is : sets (sets ws 4 part_words) 23 kept ≡ parted
    parted_is = ap (λ (l : List ℕ). sets l 23 kept) front_is ∙ over_rest front (get_or ws 23 0 ∷ get_or ws 24 0 ∷ []) kept 23 front_words (id_words_lem part.judged_ms)

    small : (leb (get_or ws 21 0) most32 && leb (get_or ws 22 0) most32) ≡ true
    unfolding row_fits
    small = and_2 (leb (get_or ws 9 0) most32) (leb (get_or ws 21 0) most32 && leb (get_or ws 22 0) most32) (and_1 (low ws) (rest ws) (and_2 (key ws) (low ws && rest ws) fit))

    small_prev : get_or ws 21 0 ≤ most32
    small_prev = leb-true (get_or ws 21 0) most32 (and_1 (leb (get_or ws 21 0) most32) (leb (get_or ws 22 0) most32) small)

    small_next : get_or ws 22 0 ≤ most32
    small_next = leb-true (get_or ws 22 0) most32 (and_2 (leb (get_or ws 21 0) most32) (leb (get_or ws 22 0) most32) small)

    key_fits : key (each ws) ≡ true
    unfolding row_fits
    key_fits = and_1 (key (each ws)) (low (each ws) && rest (each ws)) fit_each

    parted_row : opened_of parted ≡ row
    unfolding key_of
    parted_row =
        opened_words parted row (append_assoc part_words links kept ∙ append_assoc (heard_words part.heard) (verdict_words part.verdict) (links ++ kept)) (key_of (each ws))
        (record { heard = heard; verdict = verdict; clock = clock; prev = small_prev; next = small_next }) key_fits refl

    row_is_lem : row ≡ with_part (row_of (each ws)) part
    unfolding row_of
    row_is_lem = ap₂ {C = Row} (λ x y. record { key = key_of (each ws); part = part; prev = x; next = y }) (sym (low_is (get_or ws 21 0) (small_prev))) (sym (low_is (get_or ws 22 0) (small_next)))

    pub part_stored : (x y z v : List ℕ) → v ≡ verdict_words part.verdict → x ≡ sets ws 4 (heard_words part.heard) → y ≡ sets x 14 v → z ≡ sets y 23 kept → opened_of z ≡ with_part (opened_of ws) part
    part_stored x y z v ev ex ey ez =
        ap opened_of (ez ∙ ap (λ (l : List ℕ). sets l 23 kept) (runs2 ws (heard_words part.heard) (verdict_words part.verdict) x y 4 14 (omega (arith, heard_words_lem part.heard)) ex (ey ∙ ap (sets x 14) ev)) ∙ parted_is) ∙ parted_row ∙ row_is_lem
        ∙ ap (λ (r : Row). with_part r part) (sym (opened_fit (each ws) fit_each) ∙ ap opened_of (sym (each_is ws long)))
