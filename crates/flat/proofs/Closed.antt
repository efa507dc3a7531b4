-- Opened and closed again, a row's words that fit and whose site is within degrees are themselves, by the laws of its fields.
-- Of all rows: words whose every row passes question 2 are the rows that they are read as, closed.
use mathlib.Core.Path.{◌≡◌, refl, sym, ap, ap₂, ◌∙◌, subst}
use Prim.Native.Nat.{ℕ, zero, suc, ◌+◌, ◌*◌, ◌/◌, ◌≤◌}
use native.Mathlib.Omega.{arith}
use mathlib.Core.Bool.{Bool, true, ◌&&◌}
use mathlib.Core.List.{List, [], ◌∷◌, ◌++◌, map}
use borrow.Author.Tests.{leb-true}
use lib.Dec.{leb}
use lib.ListN.{length, get_or, take, drop, length-take, length-drop, take-append-drop}
use lib.Seq.{take_all, drop-cons}
use Rattle.table.specs.Questions.{all_sound}
use Rattle.table.proofs.Tests.{by_bool, clash, and_1, and_2}
use Rattle.heard.specs.Heard as heard
use Rattle.verdicts.specs.Verdict as run
use Rattle.rows.specs.declared.Row.{Row}
use Rattle.rows.specs.Read.{form, fits, row_is}
use Rattle.flat.specs.Words.{words_of_row, heard_words, closed_of, row_fits, row_of, opened_of}
use Rattle.flat.specs.Table.{rows_from, rows_of, words_of}
use Rattle.flat.proofs.Opening.{opened_fit, opened_junk}
use Rattle.flat.proofs.Returns.{junk_unfit}
use Rattle.flat.proofs.Rows.{wide_is, has, whole}
use Rattle.packing.specs.Words.{most32, most64, wide2, maybe_fits, site_of, site_fits, verdict_of, verdict_fits}
use Rattle.packing.specs.Laws.{low_is}
use Rattle.packing.proofs.Closed.{id_closed, site_closed, verdict_closed, key_closed}

-- A ROW, its words one by one
abbrev firsts : ℕ → List ℕ → ℕ → List ℕ
firsts zero k i = []
firsts (suc n) k i = get_or k i 0 ∷ firsts n k (suc i)

first_is : (n : ℕ) (k : List ℕ) (i : ℕ) → i + n ≤ length k → take n (drop i k) ≡ firsts n k i
first_is zero k i h = refl
first_is (suc n) k i h = ap (take (suc n)) (drop-cons k i 0 (omega arith)) ∙ ap (λ (l : List ℕ). get_or k i 0 ∷ l) (first_is n k (suc i) (omega arith))

abbrev pub each : List ℕ → List ℕ
each ws = firsts 25 ws 0

pub each_is : (ws : List ℕ) → length ws ≡ 25 → ws ≡ each ws
each_is ws e = sym (take_all 25 ws (omega (arith, e))) ∙ first_is 25 ws 0 (omega (arith, e))

module _ (ws : List ℕ) where
  abbrev w : ℕ → ℕ
  w i = get_or ws i 0

  abbrev key : Bool
  key = wide2 (each ws) && wide2 (drop 2 (each ws))

  abbrev low : Bool
  low = leb (w 9) most32 && (leb (w 21) most32 && leb (w 22) most32)

  abbrev site : Bool
  site = site_fits (drop 4 (each ws))

  abbrev even : Bool
  even = maybe_fits most64 (drop 10 (each ws))

  abbrev odd : Bool
  odd = maybe_fits most64 (drop 12 (each ws))

  abbrev verdict : Bool
  verdict = verdict_fits (drop 14 (each ws))

  abbrev clock : Bool
  clock = maybe_fits most64 (drop 23 (each ws))

  abbrev numbers : Bool
  numbers = even && (odd && clock)

  each_closed : row_fits (each ws) ≡ true → fits (row_of (each ws)).part ≡ true → closed_of (row_of (each ws)) ≡ each ws
  unfolding row_fits row_of closed_of heard_words
  each_closed h g =
      let r1 = and_2 key (low && (site && (numbers && verdict))) h in
      let l1 = and_1 low (site && (numbers && verdict)) r1 in
      let l2 = and_2 (leb (w 9) most32) (leb (w 21) most32 && leb (w 22) most32) l1 in
      let r2 = and_2 low (site && (numbers && verdict)) r1 in
      let r3 = and_2 site (numbers && verdict) r2 in
      let n1 = and_1 numbers verdict r3 in
      let n2 = and_2 even (odd && clock) n1 in
      simp (
        key_closed (w 0) (w 1) (w 2) (w 3) (drop 4 (each ws)) (and_1 key (low && (site && (numbers && verdict))) h),
        site_closed (w 4) (w 5) (w 6) (w 7) (w 8) (drop 9 (each ws)) (and_1 site (numbers && verdict) r2) (and_1 (heard.site_fits (site_of (drop 4 (each ws)))) (run.verdict_fits (verdict_of (drop 14 (each ws)))) g),
        low_is (w 9) (leb-true (w 9) most32 (and_1 (leb (w 9) most32) (leb (w 21) most32 && leb (w 22) most32) l1)),
        id_closed (w 10) (w 11) (drop 12 (each ws)) (and_1 even (odd && clock) n1),
        id_closed (w 12) (w 13) (drop 14 (each ws)) (and_1 odd clock n2),
        verdict_closed (w 14) (w 15) (w 16) (w 17) (w 18) (w 19) (w 20) (drop 21 (each ws)) (and_2 numbers verdict r3),
        low_is (w 21) (leb-true (w 21) most32 (and_1 (leb (w 21) most32) (leb (w 22) most32) l2)),
        low_is (w 22) (leb-true (w 22) most32 (and_2 (leb (w 21) most32) (leb (w 22) most32) l2)),
        id_closed (w 23) (w 24) [] (and_2 odd clock n2),
      )

-- THE LAW OF RETURN: opened as a row that passes question 2, 25 words are what the row is closed as
pub closed_opened : (ws : List ℕ) → length ws ≡ 25 → fits (opened_of ws).part ≡ true → closed_of (opened_of ws) ≡ ws
closed_opened ws long h =
    by_bool (row_fits ws)
    (λ f.
    let r : row_of ws ≡ opened_of ws = sym (opened_fit ws f) in
    let s : fits (row_of ws).part ≡ true = ap (λ (x : Row). fits x.part) r ∙ h in
    let e = each_is ws long in
    ap closed_of (sym r) ∙ subst (λ (l : List ℕ). closed_of (row_of l) ≡ l) (sym e) (each_closed ws (ap row_fits (sym e) ∙ f) (ap (λ (l : List ℕ). fits (row_of l).part) (sym e) ∙ s)))
    (λ f. clash h (ap (λ (x : Row). fits x.part) (opened_junk ws f) ∙ junk_unfit))

-- ALL ROWS
rows_closed : (n : ℕ) (ws : List ℕ) → length ws ≡ words_of_row * n → all_sound form.sound (map row_is (rows_from n ws)) ≡ true → words_of (rows_from n ws) ≡ ws
unfolding rows_from words_of
rows_closed zero [] e h = refl
rows_closed zero (x ∷ ws) e h = absurd (omega (arith, e))
rows_closed (suc n) ws e h =
    let r = opened_of (take words_of_row ws) in
    let later = all_sound form.sound (map row_is (rows_from n (drop words_of_row ws))) in
    let m : length ws ≡ words_of_row + words_of_row * n = e ∙ omega arith in
    ap₂ {C = List ℕ} (λ x y. x ++ y) (closed_opened (take words_of_row ws) (omega (arith, m, length-take words_of_row ws, wide_is)) (and_1 (fits r.part) later h)) (rows_closed n (drop words_of_row ws) (omega (arith, m, length-drop words_of_row ws)) (and_2 (fits r.part) later h))
    ∙ take-append-drop words_of_row ws

pub all_closed : (ws : List ℕ) → 1 ≤ length (rows_of ws) → all_sound form.sound (map row_is (rows_of ws)) ≡ true → words_of (rows_of ws) ≡ ws
all_closed ws some h =
    let g = has ws 0 (omega (arith, some)) in
    ap words_of g.all ∙ rows_closed (length ws / words_of_row) ws (whole ws 0 g ∙ omega arith) (ap (λ (l : List Row). all_sound form.sound (map row_is l)) (sym g.all) ∙ h)
