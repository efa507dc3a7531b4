-- What a field's words are told to be, by the tests in the order in which the code makes them.
use Rattle.std.specs.Prelude.{Some, None, Option}
use mathlib.Core.Path.{◌≡◌, refl, sym, ap, ap₂, ◌∙◌, subst}
use mathlib.Core.Logic.{◌≢◌}
use Prim.Native.Nat.{ℕ, zero, suc, ◌+◌, ◌-◌, ◌≤◌, ◌<◌}
use native.Mathlib.Omega.{arith}
use mathlib.Core.Bool.{Bool, true, false, ◌&&◌}
use mathlib.Core.List.{List, [], ◌∷◌, ◌++◌}
use borrow.Author.Tests.{ne_eqb, eqb-true, eqb-false, le-leb}
use mir.Syntax.{w64}
use mir.Val.{Fits}
use lib.Dec.{eqb, leb}
use lib.ListN.{length, get_or, take, drop, length-take, length-drop}
use Rattle.std.proofs.lemmas.List.{get_or-take}
use lib.Seq.{get_or-drop, take_all}
use lib.Ieee.{binary64, to_bits}
use Rattle.table.proofs.Tests.{by_bool}
use Rattle.sites.specs.declared.Site.{Site}
use Rattle.verdicts.specs.declared.Verdict.{Verdict}
use Rattle.packing.specs.Words.{most32, most64, wide2, zeros, maybe_words, maybe_fits, altitude_words, id_words, site_words, site_fits, last_word, flag_word, verdict_words, run_fits, verdict_fits}

-- A NUMBER OR NONE
module _ (m : ℕ) (ws : List ℕ) where
  pub maybe_none : get_or ws 0 0 ≡ 0 → eqb (get_or ws 1 0) 0 ≡ maybe_fits m ws
  unfolding maybe_fits
  maybe_none h = simp h

  pub maybe_some : (r : Bool) → get_or ws 0 0 ≡ 1 → r ≡ leb (get_or ws 1 0) m → r ≡ maybe_fits m ws
  unfolding maybe_fits
  maybe_some r h e = simp (h, e)

  pub maybe_other : get_or ws 0 0 ≢ 0 → get_or ws 0 0 ≢ 1 → false ≡ maybe_fits m ws
  unfolding maybe_fits
  maybe_other h k = simp (ne_eqb (get_or ws 0 0) 0 h, ne_eqb (get_or ws 0 0) 1 k)

-- its two words, by their places
pub two_words : {A : Type 0} (f : A → ℕ) (x : Option A) (ws : List ℕ) → ws ≡ maybe_words f x → get_or ws 0 0 ∷ get_or ws 1 0 ∷ [] ≡ maybe_words f x
two_words f (Some x) ws e = simp e
two_words f None ws e = simp e

-- NONE
pub zeros_not : (n i : ℕ) (ws : List ℕ) → i < n → get_or ws i 0 ≢ 0 → false ≡ zeros n ws
zeros_not zero i ws h k = absurd (omega arith)
zeros_not (suc n) i ws h k =
    by_bool (eqb i n)
    (λ e. sym (and_false (zeros n ws) (eqb (get_or ws n 0) 0) (ap (λ (j : ℕ). eqb (get_or ws j 0) 0) (sym (eqb-true i n e)) ∙ ne_eqb (get_or ws i 0) 0 k)))
    (λ e. ap (λ (b : Bool). b && eqb (get_or ws n 0) 0) (zeros_not n i ws (let d = eqb-false i n e in omega (arith, d)) k))
  where
    and_false : (a b : Bool) → b ≡ false → (a && b) ≡ false
    and_false true b e = e
    and_false false b e = refl

zeros_take : (n k : ℕ) (l : List ℕ) → n ≤ k → zeros n (take k l) ≡ zeros n l
zeros_take zero k l h = refl
zeros_take (suc n) k l h = ap₂ {C = Bool} (λ a b. a && b) (zeros_take n k l (omega arith)) (ap (λ (x : ℕ). eqb x 0) (get_or-take k l n 0 (omega arith)))

-- k words from the i-th on
pub zeros_part : (k i : ℕ) (ws : List ℕ) (r : Bool) → i + k ≤ length ws → r ≡ zeros (length (take k (drop i ws))) (take k (drop i ws)) → r ≡ zeros k (drop i ws)
zeros_part k i ws r h e = e ∙ ap (λ (n : ℕ). zeros n (take k (drop i ws))) long ∙ zeros_take k k (drop i ws) (omega arith)
  where
    long : length (take k (drop i ws)) ≡ k
    long = length-take k (drop i ws) ∙ omega (arith, h, length-drop i ws)

-- TWO WORDS, which their type keeps in range
pub wide : (ws : List ℕ) → ((i : ℕ) → Fits w64 (get_or ws i 0)) → wide2 ws ≡ true
unfolding most64
wide ws h = simp (
  le-leb (get_or ws 0 0) 18446744073709551615 (let f = h 0 in omega (arith, f.fits)),
  le-leb (get_or ws 1 0) 18446744073709551615 (let f = h 1 in omega (arith, f.fits)),
)

-- SITE
module _ (ws : List ℕ) (r : Bool) where
  pub site_none : get_or ws 0 0 ≡ 0 → r ≡ zeros 4 (drop 1 ws) → r ≡ site_fits ws
  unfolding site_fits
  site_none h e = simp (h, e)

  pub site_some : ((i : ℕ) → Fits w64 (get_or ws i 0)) → get_or ws 0 0 ≡ 1 → r ≡ maybe_fits most32 (take (length ws - 3) (drop 3 ws)) → r ≡ site_fits ws
  unfolding site_fits
  site_some w h e = simp (h, wide (drop 1 ws) (λ i. subst (Fits w64) (sym (get_or-drop 1 ws i 0)) (w (1 + i))), e, take_all (length ws - 3) (drop 3 ws) (omega (arith, length-drop 3 ws)))

  pub site_other : get_or ws 0 0 ≢ 0 → get_or ws 0 0 ≢ 1 → false ≡ site_fits ws
  unfolding site_fits
  site_other h k = simp (ne_eqb (get_or ws 0 0) 0 h, ne_eqb (get_or ws 0 0) 1 k)

  pub verdict_none : get_or ws 0 0 ≡ 0 → r ≡ zeros 6 (drop 1 ws) → r ≡ verdict_fits ws
  unfolding verdict_fits
  verdict_none h e = simp (h, e)

  pub verdict_some : get_or ws 0 0 ≢ 0 → r ≡ run_fits ws → r ≡ verdict_fits ws
  unfolding verdict_fits
  verdict_some h e = simp (ne_eqb (get_or ws 0 0) 0 h, e)

-- FIELDS MADE INTO WORDS
pub in_range : {X : Type 0} (P : X → Type 0) (x z : X) → x ≡ z → P z → P x
in_range P x z e h = subst P (sym e) h

pub site_made : (c : Option Site) (s : Site) (p q : ℕ) (a : List ℕ) → c ≡ Some s → p ≡ to_bits binary64 s.lat → q ≡ to_bits binary64 s.lon → a ≡ altitude_words s.alt_m → 1 ∷ p ∷ q ∷ get_or a 0 0 ∷ get_or a 1 0 ∷ [] ≡ site_words c
unfolding site_words
site_made c s p q a e ep eq ea = rw (e, ep, eq) (ap (λ (l : List ℕ). 1 ∷ to_bits binary64 s.lat ∷ to_bits binary64 s.lon ∷ l) (two_words _ s.alt_m a ea))

pub verdict_made : (j : Option Verdict) (v : Verdict) (l b c m : ℕ) (a : List ℕ) → j ≡ Some v → l ≡ last_word v.last → b ≡ v.wrong_run → c ≡ v.other_run → m ≡ flag_word v.moved → a ≡ id_words v.wrong_by
    → 1 ∷ l ∷ b ∷ c ∷ get_or a 0 0 ∷ get_or a 1 0 ∷ m ∷ [] ≡ verdict_words j
unfolding verdict_words
verdict_made j v l b c m a e el eb ec em ea = rw (e, el, eb, ec, em) (by_case v.wrong_by ea)
  where
    by_case : (o : Option ℕ) → a ≡ id_words o → 1 ∷ last_word v.last ∷ v.wrong_run ∷ v.other_run ∷ get_or a 0 0 ∷ get_or a 1 0 ∷ flag_word v.moved ∷ [] ≡ 1 ∷ last_word v.last ∷ v.wrong_run ∷ v.other_run ∷ (id_words o ++ (flag_word v.moved ∷ []))
    by_case (Some d) e = simp e
    by_case None e = simp e
