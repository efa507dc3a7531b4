-- Closed and opened again, a field within its range is itself: a law for each, whatever words follow.
use Rattle.std.specs.Prelude.{Some, None, Option, IfSome}
use Rattle.sites.specs.declared.Site.{Site}
use Rattle.verdicts.specs.declared.Verdict.{Verdict}
use mathlib.Core.Path.{◌≡◌, refl, ap, subst}
use Prim.Native.Nat.{ℕ, ◌≤◌, ◌<◌}
use native.Mathlib.Omega.{arith}
use mathlib.Core.Bool.{true}
use mathlib.Core.List.{List, [], ◌∷◌, ◌++◌, append_assoc}
use borrow.Author.Tests.{le-leb}
use lib.Dec.{T, leb}
use lib.ListN.{get_or}
use lib.Ieee as ieee
use lib.Ieee.{Float, binary64, to_bits}
use lib.Ieee.Bits.{of_bits-to_bits, to_bits-lt}
use mir.ValLaws.{top-pow}
use Rattle.packing.specs.Words.{most64, maybe_words, maybe_of, maybe_fits, site_words, site_of, site_fits, id_words, flag_word, verdict_words, run_of, verdict_of, run_fits, verdict_fits}
use Rattle.packing.specs.Ranges.{SiteIn, VerdictIn}
use Rattle.packing.specs.Laws.{WordLaws, whole_laws, wide_laws, signed_laws, byte_laws, flag_laws, last_laws}

-- A VALUE OR NONE, by the laws of its type
module _ {A : Type 0} (most : ℕ) (f : A → ℕ) (g : ℕ → A) (In : A → Type 0) (laws : WordLaws most f g In) where
  pub maybe_back : (x : Option A) (q : List ℕ) → IfSome x In → maybe_of g (maybe_words f x ++ q) ≡ x
  maybe_back (Some v) q h = ap Some (laws.back v h)
  maybe_back None q h = refl

  pub maybe_fits_lem : (x : Option A) (q : List ℕ) → IfSome x In → maybe_fits most (maybe_words f x ++ q) ≡ true
  unfolding maybe_fits
  maybe_fits_lem (Some v) q h = le-leb (f v) most (laws.fits v h)
  maybe_fits_lem None q h = refl

-- every number is its own word
pub id_back : (i : Option ℕ) (q : List ℕ) → maybe_of (λ w. w) (id_words i ++ q) ≡ i
id_back (Some n) q = refl
id_back None q = refl

pub id_fits : (i : Option ℕ) (q : List ℕ) → IfSome i (λ n. n ≤ most64) → maybe_fits most64 (id_words i ++ q) ≡ true
id_fits = maybe_fits_lem most64 (λ n. n) (λ w. w) (λ n. n ≤ most64) whole_laws

-- SITE
pub site_back_lem : (c : Option Site) (q : List ℕ) → SiteIn c → site_of (site_words c ++ q) ≡ c
unfolding site_of site_words
site_back_lem (Some s) q h = simp (of_bits-to_bits binary64 s.lat h.0, of_bits-to_bits binary64 s.lon h.1.0, maybe_back _ _ _ _ signed_laws s.alt_m q h.1.1)
site_back_lem None q h = refl

bits_fit : (x : Float) → T (ieee.fits binary64 x) → leb (to_bits binary64 x) most64 ≡ true
unfolding most64
bits_fit x h = le-leb (to_bits binary64 x) 18446744073709551615 (let g : to_bits binary64 x < 18446744073709551616 = subst (λ (n : ℕ). to_bits binary64 x < n) (top-pow binary64) (to_bits-lt binary64 x h) in omega (arith, g))

pub site_fits_lem : (c : Option Site) (q : List ℕ) → SiteIn c → site_fits (site_words c ++ q) ≡ true
unfolding site_fits site_words
site_fits_lem (Some s) q h = simp (bits_fit s.lat h.0, bits_fit s.lon h.1.0, maybe_fits_lem _ _ _ _ signed_laws s.alt_m q h.1.1)
site_fits_lem None q h = refl

-- VERDICT
by_past : (b : Option ℕ) (m : ℕ) (q : List ℕ) → get_or (id_words b ++ (m ∷ q)) 2 0 ≡ m
by_past (Some d) m q = refl
by_past None m q = refl

pub verdict_back_lem : (j : Option Verdict) (q : List ℕ) → VerdictIn j → verdict_of (verdict_words j ++ q) ≡ j
unfolding verdict_of run_of verdict_words
verdict_back_lem (Some v) q h =
    let b = v.wrong_by in let m = flag_word v.moved in
    simp (append_assoc (id_words b) (m ∷ []) q, last_laws.back v.last tt, byte_laws.back v.wrong_run h.0, byte_laws.back v.other_run h.1.0, maybe_back _ _ _ _ wide_laws b (m ∷ q) h.1.1, by_past b m q, flag_laws.back v.moved tt)
verdict_back_lem None q h = refl

pub verdict_fits_lem : (j : Option Verdict) (q : List ℕ) → VerdictIn j → verdict_fits (verdict_words j ++ q) ≡ true
unfolding verdict_fits run_fits verdict_words
verdict_fits_lem (Some v) q h =
    let b = v.wrong_by in let m = flag_word v.moved in
    simp (append_assoc (id_words b) (m ∷ []) q, le-leb _ 2 (last_laws.fits v.last tt), le-leb v.wrong_run 255 h.0, le-leb v.other_run 255 h.1.0, maybe_fits_lem _ _ _ _ wide_laws b (m ∷ q) h.1.1, by_past b m q, le-leb _ 1 (flag_laws.fits v.moved tt))
verdict_fits_lem None q h = refl
