-- Opened and closed again, the words of a field that fit are themselves; of a site that is within degrees, so no NaN.
use Rattle.std.specs.Prelude.{Some, None}
use mathlib.Core.Path.{◌≡◌, refl, sym, ap, ◌∙◌, subst}
use Prim.Native.Nat.{ℕ, suc, ◌≤◌, ◌<◌}
use native.Mathlib.Omega.{arith}
use mathlib.Core.Bool.{Bool, true, false, cond, not, ◌&&◌}
use mathlib.Core.List.{List, [], ◌∷◌}
use borrow.Author.Tests.{eqb-true, leb-true}
use lib.Dec.{T, eqb, leb}
use lib.ListN.{get_or}
use lib.Ieee.{Float, nan, inf, fin, is_nan, binary64, of_bits, to_bits}
use lib.Ieee.Bits.{to_bits-of_bits}
use mir.ValLaws.{top-pow}
use Rattle.table.proofs.Tests.{by_bool, clash, and_1, and_2}
use Rattle.measures.specs.Degrees.{within}
use Rattle.sites.specs.Sites.{held}
use Rattle.sites.specs.declared.Site.{Site}
use Rattle.heard.specs.Heard as heard
use Rattle.packing.specs.Words.{most32, most64, key_words, key_of, wide2, zeros, maybe_words, maybe_of, maybe_fits, altitude_of, site_words, site_of, site_fits, id_words, verdict_words, run_of, verdict_of, run_fits, verdict_fits}
use Rattle.packing.specs.Laws.{WordLaws, whole_laws, wide_laws, signed_laws, byte_laws, flag_laws, last_laws}
use Rattle.packing.proofs.Keys.{word_back}

-- A NUMBER OR NONE, by cases
maybe_cases : (P : ℕ → ℕ → Type 0) (most t m : ℕ) (q : List ℕ) → maybe_fits most (t ∷ m ∷ q) ≡ true → P 0 0 → (m ≤ most → P 1 m) → P t m
unfolding maybe_fits
maybe_cases P most t m q h none some =
    by_bool (eqb t 0)
    (λ e.
    let z : eqb m 0 ≡ true = sym (ap (λ (b : Bool). cond b (eqb m 0) (eqb t 1 && leb m most)) e) ∙ h in
    subst (λ (x : ℕ). P x m) (sym (eqb-true t 0 e)) (subst (P 0) (sym (eqb-true m 0 z)) none))
    (λ e.
    let b : (eqb t 1 && leb m most) ≡ true = sym (ap (λ (b : Bool). cond b (eqb m 0) (eqb t 1 && leb m most)) e) ∙ h in
    subst (λ (x : ℕ). P x m) (sym (eqb-true t 1 (and_1 (eqb t 1) (leb m most) b))) (some (leb-true m most (and_2 (eqb t 1) (leb m most) b))))

-- by the laws of its type
maybe_closed : {A : Type 0} {most : ℕ} {f : A → ℕ} {g : ℕ → A} {In : A → Type 0} → WordLaws most f g In → (t m : ℕ) (q : List ℕ)
    → maybe_fits most (t ∷ m ∷ q) ≡ true → maybe_words f (maybe_of g (t ∷ m ∷ q)) ≡ t ∷ m ∷ []
maybe_closed {most = most} {f = f} {g = g} laws t m q h =
    maybe_cases (λ t m. maybe_words f (maybe_of g (t ∷ m ∷ q)) ≡ t ∷ m ∷ []) most t m q h refl (λ s. ap (λ (n : ℕ). 1 ∷ n ∷ []) (laws.again m s))

pub id_closed : (t m : ℕ) (q : List ℕ) → maybe_fits most64 (t ∷ m ∷ q) ≡ true → id_words (maybe_of (λ w. w) (t ∷ m ∷ q)) ≡ t ∷ m ∷ []
id_closed = maybe_closed whole_laws

-- NONE: zeros are all alike
zero_at : (n : ℕ) (ws : List ℕ) → zeros (suc n) ws ≡ true → get_or ws n 0 ≡ 0
zero_at n ws h = eqb-true (get_or ws n 0) 0 (and_2 (zeros n ws) (eqb (get_or ws n 0) 0) h)

fewer : (n : ℕ) (ws : List ℕ) → zeros (suc n) ws ≡ true → zeros n ws ≡ true
fewer n ws h = and_1 (zeros n ws) (eqb (get_or ws n 0) 0) h

-- SITE
not_nan : (d : ℕ) (x : Float) → within d x ≡ true → T (not (is_nan x))
unfolding within is_nan
not_nan d nan h = clash h refl
not_nan d (inf s) h = tt
not_nan d (fin s m e) h = tt

bits_closed : (d w : ℕ) → leb w most64 ≡ true → within d (of_bits binary64 w) ≡ true → to_bits binary64 (of_bits binary64 w) ≡ w
unfolding most64
bits_closed d w h g = to_bits-of_bits binary64 w (let l : w ≤ 18446744073709551615 = leb-true w 18446744073709551615 h in subst (λ (n : ℕ). w < n) (sym (top-pow binary64)) (omega (arith, l))) (not_nan d (of_bits binary64 w) g)

module _ (t a b u m : ℕ) (q : List ℕ) where
  abbrev site5 : List ℕ
  site5 = t ∷ a ∷ b ∷ u ∷ m ∷ q

  pub site_closed : site_fits site5 ≡ true → heard.site_fits (site_of site5) ≡ true → site_words (site_of site5) ≡ t ∷ a ∷ b ∷ u ∷ m ∷ []
  unfolding site_fits site_of site_words
  site_closed h g = by_bool (eqb t 0) none some
    where
      l : List ℕ
      l = a ∷ b ∷ u ∷ m ∷ q

      degrees : Bool
      degrees = leb a most64 && leb b most64

      place : Site
      place = record { lat = of_bits binary64 a; lon = of_bits binary64 b; alt_m = altitude_of (u ∷ m ∷ q) }

      none : eqb t 0 ≡ true → site_words (site_of site5) ≡ t ∷ a ∷ b ∷ u ∷ m ∷ []
      none e =
          let z4 : zeros 4 l ≡ true = sym (ap (λ (x : Bool). cond x (zeros 4 l) (eqb t 1 && (degrees && maybe_fits most32 (u ∷ m ∷ q)))) e) ∙ h in
          let z3 = fewer 3 l z4 in let z2 = fewer 2 l z3 in let z1 = fewer 1 l z2 in
          simp (eqb-true t 0 e, zero_at 0 l z1, zero_at 1 l z2, zero_at 2 l z3, zero_at 3 l z4)

      some : eqb t 0 ≡ false → site_words (site_of site5) ≡ t ∷ a ∷ b ∷ u ∷ m ∷ []
      some e =
          let f : (eqb t 1 && (degrees && maybe_fits most32 (u ∷ m ∷ q))) ≡ true = sym (ap (λ (x : Bool). cond x (zeros 4 l) (eqb t 1 && (degrees && maybe_fits most32 (u ∷ m ∷ q)))) e) ∙ h in
          let rest = and_2 (eqb t 1) (degrees && maybe_fits most32 (u ∷ m ∷ q)) f in
          let wide = and_1 degrees (maybe_fits most32 (u ∷ m ∷ q)) rest in
          let in_degrees : held place ≡ true = sym (ap (λ (x : Bool). heard.site_fits (cond x None (Some place))) e) ∙ g in
          let lat = bits_closed 90 a (and_1 (leb a most64) (leb b most64) wide) (and_1 (within 90 place.lat) (within 180 place.lon) in_degrees) in
          let lon = bits_closed 180 b (and_2 (leb a most64) (leb b most64) wide) (and_2 (within 90 place.lat) (within 180 place.lon) in_degrees) in
          ap (λ (x : Bool). site_words (cond x None (Some place))) e
          ∙ simp (lat, lon, maybe_closed signed_laws u m q (and_2 degrees (maybe_fits most32 (u ∷ m ∷ q)) rest), eqb-true t 1 (and_1 (eqb t 1) (degrees && maybe_fits most32 (u ∷ m ∷ q)) f))

-- VERDICT
module _ (t a b c u d v : ℕ) (q : List ℕ) where
  abbrev run7 : List ℕ
  run7 = t ∷ a ∷ b ∷ c ∷ u ∷ d ∷ v ∷ q

  pub verdict_closed : verdict_fits run7 ≡ true → verdict_words (verdict_of run7) ≡ t ∷ a ∷ b ∷ c ∷ u ∷ d ∷ v ∷ []
  unfolding verdict_fits run_fits verdict_of run_of verdict_words
  verdict_closed h = by_bool (eqb t 0) none some
    where
      l : List ℕ
      l = a ∷ b ∷ c ∷ u ∷ d ∷ v ∷ q

      counts : Bool
      counts = leb a 2 && (leb b 255 && leb c 255)

      far : Bool
      far = maybe_fits most32 (u ∷ d ∷ v ∷ q)

      none : eqb t 0 ≡ true → verdict_words (verdict_of run7) ≡ t ∷ a ∷ b ∷ c ∷ u ∷ d ∷ v ∷ []
      none e =
          let z6 : zeros 6 l ≡ true = sym (ap (λ (x : Bool). cond x (zeros 6 l) (eqb t 1 && (counts && (far && leb v 1)))) e) ∙ h in
          let z5 = fewer 5 l z6 in let z4 = fewer 4 l z5 in let z3 = fewer 3 l z4 in let z2 = fewer 2 l z3 in let z1 = fewer 1 l z2 in
          simp (eqb-true t 0 e, zero_at 0 l z1, zero_at 1 l z2, zero_at 2 l z3, zero_at 3 l z4, zero_at 4 l z5, zero_at 5 l z6)

      some : eqb t 0 ≡ false → verdict_words (verdict_of run7) ≡ t ∷ a ∷ b ∷ c ∷ u ∷ d ∷ v ∷ []
      some e =
          let f : (eqb t 1 && (counts && (far && leb v 1))) ≡ true = sym (ap (λ (x : Bool). cond x (zeros 6 l) (eqb t 1 && (counts && (far && leb v 1)))) e) ∙ h in
          let rest = and_2 (eqb t 1) (counts && (far && leb v 1)) f in
          let low = and_1 counts (far && leb v 1) rest in
          let bytes = and_2 (leb a 2) (leb b 255 && leb c 255) low in
          let ends = and_2 counts (far && leb v 1) rest in
          ap (λ (x : Bool). verdict_words (cond x None (Some (run_of run7)))) e
          ∙ simp (last_laws.again a (leb-true a 2 (and_1 (leb a 2) (leb b 255 && leb c 255) low)), byte_laws.again b (leb-true b 255 (and_1 (leb b 255) (leb c 255) bytes)), byte_laws.again c (leb-true c 255 (and_2 (leb b 255) (leb c 255) bytes)), maybe_closed wide_laws u d (v ∷ q) (and_1 far (leb v 1) ends), flag_laws.again v (leb-true v 1 (and_2 far (leb v 1) ends)), eqb-true t 1 (and_1 (eqb t 1) (counts && (far && leb v 1)) f))

-- KEY
pub key_closed : (a b c d : ℕ) (q : List ℕ) → (wide2 (a ∷ b ∷ c ∷ d ∷ q) && wide2 (c ∷ d ∷ q)) ≡ true → key_words (key_of (a ∷ b ∷ c ∷ d ∷ q)) ≡ a ∷ b ∷ c ∷ d ∷ []
unfolding key_words key_of
key_closed a b c d q h =
    let x = and_1 (wide2 (a ∷ b ∷ c ∷ d ∷ q)) (wide2 (c ∷ d ∷ q)) h in
    let y = and_2 (wide2 (a ∷ b ∷ c ∷ d ∷ q)) (wide2 (c ∷ d ∷ q)) h in
    simp (word_back a (leb-true a most64 (and_1 (leb a most64) (leb b most64) x)), word_back b (leb-true b most64 (and_2 (leb a most64) (leb b most64) x)), word_back c (leb-true c most64 (and_1 (leb c most64) (leb d most64) y)), word_back d (leb-true d most64 (and_2 (leb c most64) (leb d most64) y)))
