-- The fields of a row as words of 64 bits, each whatever words follow it. Words of what is absent are 0: none is zeros of the same length. Definitions only.
use Rattle.sites.specs.declared.Site.{Site}
use Rattle.std.specs.Prelude.{ℕ, zero, suc, ◌%◌, ◌^◌, Bool, true, cond, not, ◌&&◌, List, [], ◌∷◌, ◌++◌, eqb, leb, get_or, take, drop, Some, None, Option, ℤ}
use Rattle.std.specs.Float.{binary64}
use Rattle.std.specs.Float.Ieee.{of_bits, to_bits}
use Rattle.std.specs.Int.{w32, w64, from_le_bytes, to_le_bytes}
use Rattle.std.proofs.Common.{of_z, to_z}
use Rattle.verdicts.specs.declared.Last.{Last}
use Rattle.verdicts.specs.declared.Last.TheVariants.{Unjudged, Fits, Wrong}
use Rattle.verdicts.specs.declared.Verdict.{Verdict}

-- the largest number of 32 bits, and of 64
unfoldable pub most32 : ℕ
most32 = 4294967295

unfoldable pub most64 : ℕ
most64 = 18446744073709551615

-- the word at a place
abbrev pub at : List ℕ → ℕ → ℕ
at ws i = get_or ws i 0

-- the low 32 bits
abbrev pub low32 : ℕ → ℕ
low32 w = w % 2 ^ 32

-- two words of 64 bits
abbrev pub wide2 : List ℕ → Bool
wide2 ws = leb (at ws 0) most64 && leb (at ws 1) most64

-- KEY: eight bytes from the i-th on are one word, the first byte its lowest
abbrev pub eight : List ℕ → ℕ → List ℕ
eight k i = take 8 (drop i k)

unfoldable pub key_words : List ℕ → List ℕ
key_words k = from_le_bytes w64 (eight k 0) ∷ from_le_bytes w64 (eight k 8) ∷ from_le_bytes w64 (eight k 16) ∷ from_le_bytes w64 (eight k 24) ∷ []

unfoldable pub key_of : List ℕ → List ℕ
key_of ws = to_le_bytes w64 (at ws 0) ++ (to_le_bytes w64 (at ws 1) ++ (to_le_bytes w64 (at ws 2) ++ to_le_bytes w64 (at ws 3)))

-- NONE: zeros, so many
abbrev pub zeros : ℕ → List ℕ → Bool
zeros zero ws = true
zeros (suc n) ws = zeros n ws && eqb (at ws n) 0

-- A NUMBER OR NONE: 0 and 0, or 1 and a number that is at most so much
unfoldable pub maybe_fits : ℕ → List ℕ → Bool
maybe_fits most ws = cond (eqb (at ws 0) 0) (eqb (at ws 1) 0) (eqb (at ws 0) 1 && leb (at ws 1) most)

-- a value of any type, by the word that it is made into and read from
abbrev pub maybe_words : {A : Type 0} → (A → ℕ) → Option A → List ℕ
maybe_words f (Some x) = 1 ∷ f x ∷ []
maybe_words f None = 0 ∷ 0 ∷ []

abbrev pub maybe_of : {A : Type 0} → (ℕ → A) → List ℕ → Option A
maybe_of g ws = cond (eqb (at ws 0) 0) None (Some (g (at ws 1)))

-- ALTITUDE: the 32 bits of a signed number
abbrev pub altitude_at : ℕ → ℤ
altitude_at w = to_z w32 (low32 w)

abbrev pub altitude_words : Option ℤ → List ℕ
altitude_words = maybe_words (of_z w32)

abbrev pub altitude_of : List ℕ → Option ℤ
altitude_of = maybe_of altitude_at

-- SITE
unfoldable pub site_words : Option Site → List ℕ
site_words (Some s) = 1 ∷ to_bits binary64 s.lat ∷ to_bits binary64 s.lon ∷ altitude_words s.alt_m
site_words None = 0 ∷ 0 ∷ 0 ∷ 0 ∷ 0 ∷ []

unfoldable pub site_of : List ℕ → Option Site
site_of ws = cond (eqb (at ws 0) 0) None (Some (record { lat = of_bits binary64 (at ws 1); lon = of_bits binary64 (at ws 2); alt_m = altitude_of (drop 3 ws) }))

unfoldable pub site_fits : List ℕ → Bool
site_fits ws = cond (eqb (at ws 0) 0) (zeros 4 (drop 1 ws)) (eqb (at ws 0) 1 && (wide2 (drop 1 ws) && maybe_fits most32 (drop 3 ws)))

-- EPOCH ID, and the clock of the last judging
abbrev pub id_words : Option ℕ → List ℕ
id_words = maybe_words (λ n. n)

abbrev pub id_of : List ℕ → Option ℕ
id_of = maybe_of (λ w. w)

-- VERDICT
abbrev pub last_word : Last → ℕ
last_word Unjudged = 0
last_word Fits = 1
last_word Wrong = 2

abbrev pub last_of : ℕ → Last
last_of w = cond (eqb w 0) Unjudged (cond (eqb w 1) Fits Wrong)

abbrev pub by_of : List ℕ → Option ℕ
by_of = maybe_of low32

abbrev pub byte : ℕ → ℕ
byte w = w % 256

abbrev pub flag_word : Bool → ℕ
flag_word b = cond b 1 0

abbrev pub flag_of : ℕ → Bool
flag_of w = not (eqb w 0)

unfoldable pub verdict_words : Option Verdict → List ℕ
verdict_words (Some v) = 1 ∷ last_word v.last ∷ v.wrong_run ∷ v.other_run ∷ (id_words v.wrong_by ++ (flag_word v.moved ∷ []))
verdict_words None = 0 ∷ 0 ∷ 0 ∷ 0 ∷ 0 ∷ 0 ∷ 0 ∷ []

unfoldable pub run_of : List ℕ → Verdict
run_of ws = record { last = last_of (at ws 1); wrong_run = byte (at ws 2); other_run = byte (at ws 3); wrong_by = by_of (drop 4 ws); moved = flag_of (at ws 6) }

unfoldable pub verdict_of : List ℕ → Option Verdict
verdict_of ws = cond (eqb (at ws 0) 0) None (Some (run_of ws))

unfoldable pub run_fits : List ℕ → Bool
run_fits ws = eqb (at ws 0) 1 && ((leb (at ws 1) 2 && (leb (at ws 2) 255 && leb (at ws 3) 255)) && (maybe_fits most32 (drop 4 ws) && leb (at ws 6) 1))

unfoldable pub verdict_fits : List ℕ → Bool
verdict_fits ws = cond (eqb (at ws 0) 0) (zeros 6 (drop 1 ws)) (run_fits ws)
