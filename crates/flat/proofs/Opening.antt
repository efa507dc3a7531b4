-- What a row's 25 words open as, by the tests that the code makes of them and of what is left of them from a place on.
use Rattle.std.specs.Prelude.{Option}
use mathlib.Core.Path.{◌≡◌, refl, sym, ◌∙◌, ap, subst}
use Prim.Native.Nat.{ℕ, ◌+◌, ◌-◌}
use native.Mathlib.Omega.{arith}
use mathlib.Core.Bool.{Bool, true, false, ◌&&◌}
use mathlib.Core.List.{List}
use lib.Dec.{leb}
use lib.ListN.{length, get_or, take, drop, length-drop}
use lib.Seq.{get_or-drop, take_all}
use mir.Syntax.{w64}
use mir.Val.{Fits}
use Rattle.sites.specs.declared.Site.{Site}
use Rattle.verdicts.specs.declared.Verdict.{Verdict}
use Rattle.heard.specs.declared.Heard.{Heard}
use Rattle.rows.specs.declared.Row.{Row}
use Rattle.flat.specs.Words.{numbers_fit, row_fits, head_fits, heard_of, row_of, junk, opened_of}
use Rattle.packing.specs.Words.{most32, most64, low32, wide2, key_of, maybe_fits, site_of, site_fits, id_of, verdict_of, verdict_fits}
use Rattle.packing.proofs.Tests.{wide}

behind_three : (a b c d : Bool) → ((a && (b && c)) && d) ≡ (a && (b && (c && d)))
behind_three true true c d = refl
behind_three true false c d = refl
behind_three false b c d = refl

module _ (ws : List ℕ) where
  -- the words from the i-th on are all that is left
  left : (i : ℕ) → take (length ws - i) (drop i ws) ≡ drop i ws
  left i = take_all (length ws - i) (drop i ws) (omega (arith, length-drop i ws))

  pub numbers_told : (r : Bool)
      → r ≡ (maybe_fits most64 (take (length ws - 10) (drop 10 ws)) && (maybe_fits most64 (take (length ws - 12) (drop 12 ws)) && maybe_fits most64 (take (length ws - 23) (drop 23 ws)))) → r ≡ numbers_fit ws
  numbers_told r e = simp (e, left 10, left 12, left 23)

  -- the key's words and the degrees are in range by their type
  pub head_told : ((i : ℕ) → Fits w64 (get_or ws i 0)) → (r : Bool)
      → r ≡ ((leb (get_or ws 9 0) most32 && (leb (get_or ws 21 0) most32 && leb (get_or ws 22 0) most32)) && site_fits (take (length ws - 4) (drop 4 ws))) → r ≡ head_fits ws
  head_told f r e = simp (e, left 4, wide ws f, wide (drop 2 ws) (λ i. subst (Fits w64) (sym (get_or-drop 2 ws i 0)) (f (2 + i))))

  -- a row fits by its head, its numbers and its verdict
  pub row_in_parts : (head_fits ws && (numbers_fit ws && verdict_fits (drop 14 ws))) ≡ row_fits ws
  unfolding row_fits
  row_in_parts =
      let k = wide2 ws && wide2 (drop 2 ws) in
      let l = leb (get_or ws 9 0) most32 && (leb (get_or ws 21 0) most32 && leb (get_or ws 22 0) most32) in
      behind_three k l (site_fits (drop 4 ws)) (numbers_fit ws && verdict_fits (drop 14 ws))

  pub fits_by_parts : (r : Bool) → r ≡ (head_fits ws && (numbers_fit ws && verdict_fits (take (length ws - 14) (drop 14 ws)))) → r ≡ row_fits ws
  fits_by_parts r e = e ∙ ap (λ (v : List ℕ). head_fits ws && (numbers_fit ws && verdict_fits v)) (left 14) ∙ row_in_parts

module _ (ws : List ℕ) (long : length ws ≡ 25) where
  -- the n words from the i-th on are all that is left
  rest : (i n : ℕ) → i + n ≡ 25 → take n (drop i ws) ≡ drop i ws
  rest i n e = take_all n (drop i ws) (omega (arith, long, e, length-drop i ws))

  pub heard_is : (s : Option Site) (g : ℕ) (e o : Option ℕ) → s ≡ site_of (take 21 (drop 4 ws)) → g ≡ low32 (get_or ws 9 0) → e ≡ id_of (take 15 (drop 10 ws)) → o ≡ id_of (take 13 (drop 12 ws))
      → record { site = s; generation = g; even = e; odd = o } ≡ heard_of ws
  heard_is s g e o es eg ee eo = simp (es, eg, ee, eo, rest 4 21 refl, rest 10 15 refl, rest 12 13 refl)

  pub row_is_lem : (k : List ℕ) (h : Heard) (v : Option Verdict) (i : Option ℕ) (p n : ℕ) → k ≡ key_of ws → h ≡ heard_of ws → v ≡ verdict_of (take 11 (drop 14 ws)) → i ≡ id_of (take 2 (drop 23 ws))
      → p ≡ low32 (get_or ws 21 0) → n ≡ low32 (get_or ws 22 0) → record { key = k; part = record { heard = h; verdict = v; judged_ms = i }; prev = p; next = n } ≡ row_of ws
  unfolding row_of
  row_is_lem k h v i p n ek eh ev ei ep en = simp (ek, eh, ev, ei, ep, en, rest 14 11 refl, rest 23 2 refl)

module _ (ws : List ℕ) where
  pub opened_fit : row_fits ws ≡ true → opened_of ws ≡ row_of ws
  unfolding opened_of
  opened_fit h = simp h

  pub opened_junk : row_fits ws ≡ false → opened_of ws ≡ junk
  unfolding opened_of
  opened_junk h = simp h

  pub opens : (t : Bool) (r : Row) → t ≡ row_fits ws → t ≡ true → r ≡ row_of ws → r ≡ opened_of ws
  opens t r e h g = g ∙ sym (opened_fit (sym e ∙ h))

  pub opens_junk : (t : Bool) (r : Row) → t ≡ row_fits ws → t ≡ false → r ≡ junk → r ≡ opened_of ws
  opens_junk t r e h g = g ∙ sym (opened_junk (sym e ∙ h))
