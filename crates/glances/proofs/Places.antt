-- A row by its number: where all its words fit it is what they open as, and else it is one without links, to be opened whole.
use mathlib.Core.Path.{◌≡◌, refl, sym, ap, ap₂, ◌∙◌}
use Prim.Native.Nat.{ℕ, ◌*◌, ◌<◌}
use native.Mathlib.Omega.{arith}
use mathlib.Core.Bool.{Bool, true, false, cond, ◌&&◌, ◌||◌}
use mathlib.Core.List.{List, [], ◌∷◌, ◌++◌}
use borrow.Author.Tests.{leb-true, leb-false}
use lib.Dec.{eqb, leb}
use lib.ListN.{length, get_or, set, take, drop, get_or-eq_default}
use lib.Seq.{get_or-drop, drop-drop}
use lib.Ieee.{binary64, of_bits}
use Rattle.table.specs.Machine.{same}
use Rattle.table.specs.Rows.{NONE, zero_key}
use Rattle.table.proofs.Tests.{by_bool, clash}
use Rattle.measures.specs.Degrees.{in_degrees}
use Rattle.receiver.specs.declared.Part.{Part}
use Rattle.heard.specs.Heard.{site_fits}
use Rattle.verdicts.specs.Verdict.{step_of5, verdict_fits}
use Rattle.rows.specs.declared.Row.{Row}
use Rattle.rows.specs.Read.{fits}
use Rattle.rows.specs.Links.{blank, with_links, with_part}
use Rattle.flat.specs.Words.{words_of_row, row_fits, row_of, junk, opened_of}
use Rattle.flat.specs.Table.{rows_of}
use Rattle.flat.proofs.Opening.{opened_fit, opened_junk}
use Rattle.flat.proofs.Returns.{junk_unfit}
use Rattle.flat.proofs.Rows.{row_opens, words_are, stored}
use Rattle.scans.specs.declared.Links.{Links}
use Rattle.glances.specs.declared.Glance.{Glance}
use Rattle.glances.specs.Glances.{words_at, fits_at, links_of, glance_of}
use Rattle.packing.specs.Words.{low32, key_of, site_of, run_of, verdict_of}

-- THE TEST
module _ (ws : List ℕ) (i : ℕ) (t : Bool) (e : t ≡ leb (length (rows_of ws)) i) where
  pub fits_not : t ≡ true → false ≡ fits_at ws i
  unfolding fits_at
  fits_not f = sym (ap (λ (b : Bool). cond b false (row_fits (words_at ws i))) (sym e ∙ f))

  pub fits_is : (l : List ℕ) (r : Bool) → t ≡ false → l ≡ words_at ws i → r ≡ row_fits l → r ≡ fits_at ws i
  unfolding fits_at
  fits_is l r f el g = g ∙ ap row_fits el ∙ sym (ap (λ (b : Bool). cond b false (row_fits (words_at ws i))) (sym e ∙ f))

both_told : (b c : Bool) → cond b false c ≡ true → (b ≡ false) × (c ≡ true)
both_told true c e = clash e refl
both_told false c e = (refl, e)

no_links : links_of junk ≡ links_of blank
unfolding junk
no_links = refl

module _ (ws : List ℕ) (i : ℕ) (t : Bool) (e : t ≡ fits_at ws i) where
  told : t ≡ true → (leb (length (rows_of ws)) i ≡ false) × (row_fits (words_at ws i) ≡ true)
  unfolding fits_at
  told f = both_told (leb (length (rows_of ws)) i) (row_fits (words_at ws i)) (sym e ∙ f)

  pub fit_in : t ≡ true → i < length (rows_of ws)
  fit_in f = leb-false (length (rows_of ws)) i (told f).0

  -- a row that does not fit has no links
  pub unlinked : (n : ℕ) → t ≡ false → n ≡ NONE → record { prev = n; next = n } ≡ links_of (get_or (rows_of ws) i blank)
  unfolding fits_at
  unlinked n f en =
      let g = ap (λ (m : ℕ). record { prev = m; next = m }) en in
      by_bool (leb (length (rows_of ws)) i)
      (λ o. g ∙ ap links_of (sym (get_or-eq_default (rows_of ws) blank {n = i} (leb-true (length (rows_of ws)) i o))))
      (λ o.
      let h = leb-false (length (rows_of ws)) i o in
      let n : row_fits (words_at ws i) ≡ false = sym (ap (λ (b : Bool). cond b false (row_fits (words_at ws i))) o) ∙ sym e ∙ f in
      g ∙ sym no_links ∙ sym (ap links_of (opened_junk (words_at ws i) n)) ∙ ap links_of (sym (row_opens ws i h)))

  -- one that fits is what its words are read as
  pub read : t ≡ true → get_or (rows_of ws) i blank ≡ row_of (words_at ws i)
  read f = row_opens ws i (fit_in f) ∙ opened_fit (words_at ws i) (told f).1

  pub links_seen : (l : List ℕ) (r : Links) → t ≡ true → l ≡ words_at ws i → r ≡ links_of (row_of l) → r ≡ links_of (get_or (rows_of ws) i blank)
  links_seen l r f el g = g ∙ ap (λ (m : List ℕ). links_of (row_of m)) el ∙ sym (ap links_of (read f))

  module _ (a : ℕ) (f : t ≡ true) (ea : a ≡ words_of_row * i) where
    abbrev part : List ℕ
    part = take 25 (drop a ws)

    pub part_fits : (ys : List ℕ) → ys ≡ part → row_fits ys ≡ true
    part_fits ys g = ap row_fits (g ∙ words_are ws i a (fit_in f) ea) ∙ (told f).1

    -- other words in its place
    module _ (xs ys : List ℕ) (ex : xs ≡ part) (long : length ys ≡ 25) where
      changed : (g : Row → Row) → opened_of ys ≡ g (opened_of xs) → rows_of (take a ws ++ (ys ++ drop 25 (drop a ws))) ≡ set (rows_of ws) i (g (get_or (rows_of ws) i blank))
      changed g h = stored ws i a (fit_in f) ea ys long ∙ ap (set (rows_of ws) i) (h ∙ ap g (ap opened_of (ex ∙ words_are ws i a (fit_in f) ea) ∙ sym (row_opens ws i (fit_in f))))

      pub links_changed : (p n : ℕ) → opened_of ys ≡ with_links (opened_of xs) p n → rows_of (take a ws ++ (ys ++ drop 25 (drop a ws))) ≡ set (rows_of ws) i (with_links (get_or (rows_of ws) i blank) p n)
      links_changed p n = changed (λ r. with_links r p n)

      pub part_changed : (p : Part) → opened_of ys ≡ with_part (opened_of xs) p → rows_of (take a ws ++ (ys ++ drop 25 (drop a ws))) ≡ set (rows_of ws) i (with_part (get_or (rows_of ws) i blank) p)
      part_changed p = changed (λ r. with_part r p)

-- A LOOK AT A ROW'S WORDS
module _ (ws l k : List ℕ) (i : ℕ) (r : Glance) (t : Bool) (h : i < length (rows_of ws)) (el : l ≡ words_at ws i) (e : t ≡ row_fits l) where
  pub seen : t ≡ true → r ≡ glance_of k (row_of l) → r ≡ glance_of k (get_or (rows_of ws) i blank)
  seen f g = g ∙ ap (glance_of k) (sym (opened_fit l (sym e ∙ f)) ∙ ap opened_of el ∙ sym (row_opens ws i h))

  pub seen_junk : t ≡ false → r ≡ glance_of k junk → r ≡ glance_of k (get_or (rows_of ws) i blank)
  seen_junk f g = g ∙ ap (glance_of k) (sym (opened_junk l (sym e ∙ f)) ∙ ap opened_of el ∙ sym (row_opens ws i h))

-- QUESTION 2 OF A ROW'S PART, BY ITS WORDS
module _ (ws : List ℕ) where
  -- a word of what is left from the i-th on
  here : (i : ℕ) → get_or (drop i ws) 0 0 ≡ get_or ws i 0
  here i = get_or-drop i ws 0 0 ∙ ap (λ (j : ℕ). get_or ws j 0) (omega arith)

  pub site_told : (r : Bool) → r ≡ (eqb (get_or ws 4 0) 0 || in_degrees (of_bits binary64 (get_or ws 5 0)) (of_bits binary64 (get_or ws 6 0))) → r ≡ site_fits (site_of (drop 4 ws))
  unfolding site_of
  site_told r e =
      by_bool (eqb (get_or ws 4 0) 0)
      (λ f. simp (e, here 4, f))
      (λ f. simp (e, here 4, f, get_or-drop 4 ws 1 0, get_or-drop 4 ws 2 0))

  pub verdict_told : (r : Bool) → r ≡ (eqb (get_or ws 14 0) 0 || (eqb (get_or ws 18 0) 0 || step_of5 (low32 (get_or ws 19 0)))) → r ≡ verdict_fits (verdict_of (drop 14 ws))
  unfolding verdict_of run_of
  verdict_told r e =
      by_bool (eqb (get_or ws 14 0) 0)
      (λ f. simp (e, here 14, f))
      (λ f.
      by_bool (eqb (get_or ws 18 0) 0)
      (λ g. simp (e, here 14, f, drop-drop 4 14 ws, here 18, g))
      (λ g. simp (e, here 14, f, drop-drop 4 14 ws, here 18, g, get_or-drop 18 ws 1 0)))

  pub part_told : (r : Bool) → r ≡ (site_fits (site_of (drop 4 ws)) && verdict_fits (verdict_of (drop 14 ws))) → r ≡ fits (row_of ws).part
  unfolding row_of
  part_told r e = e

pub links_are : (ws : List ℕ) (p n : ℕ) → p ≡ (row_of ws).prev → n ≡ (row_of ws).next → record { prev = p; next = n } ≡ links_of (row_of ws)
links_are ws p n ep en = simp (ep, en)

glance_row_is : (k : List ℕ) (row : Row) (s t : Bool) → s ≡ fits row.part → t ≡ same k row.key → record { prev = row.prev; next = row.next; sound = s; same = t } ≡ glance_of k row
glance_row_is k row s t es et = ap₂ {C = Glance} (λ u v. record { prev = row.prev; next = row.next; sound = u; same = v }) es et

pub glance_is : (k : List ℕ) (row : Row) (l : Links) (s t : Bool) → l ≡ links_of row → s ≡ fits row.part → t ≡ same k row.key → record { prev = l.prev; next = l.next; sound = s; same = t } ≡ glance_of k row
glance_is k row l s t el es et = ap (λ (m : Links). record { prev = m.prev; next = m.next; sound = s; same = t }) el ∙ glance_row_is k row s t es et

-- A WORD OUT OF ITS RANGE: the row opens as junk, whose site is not within degrees and whose key is zeros
zeros_key : key_of (0 ∷ 0 ∷ 0 ∷ 0 ∷ []) ≡ junk.key
unfolding key_of junk zero_key
zeros_key = refl

pub glance_junk : (k ks : List ℕ) (n : ℕ) (t : Bool) → n ≡ NONE → key_of ks ≡ key_of (0 ∷ 0 ∷ 0 ∷ 0 ∷ []) → t ≡ same k (key_of ks) → record { prev = n; next = n; sound = false; same = t } ≡ glance_of k junk
unfolding junk
glance_junk k ks n t en ek et =
    let s : t ≡ same k junk.key = et ∙ ap (same k) (ek ∙ zeros_key) in
    ap (λ (m : ℕ). record { prev = m; next = m; sound = false; same = t }) en ∙ ap₂ {C = Glance} (λ u v. record { prev = NONE; next = NONE; sound = u; same = v }) (sym junk_unfit) s
