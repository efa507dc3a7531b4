-- The range of a row's fields, as their types have it. Definitions only.
use Rattle.sites.specs.declared.Site.{Site}
use Rattle.std.specs.Prelude.{◌≡◌, ℕ, ◌≤◌, ◌<◌, List, T, length, get_or, Option, IfSome, ℤ}
use Rattle.std.specs.Float.{binary64}
use Rattle.std.specs.Float.Ieee.{fits}
use Rattle.std.specs.Int.{w32}
use Rattle.std.proofs.Common.{SFits}
use Rattle.verdicts.specs.declared.Verdict.{Verdict}
use Rattle.packing.specs.Words.{most32, most64}

abbrev pub Bytes : List ℕ → Type 0
Bytes bs = (i : ℕ) → get_or bs i 0 < 256

pub record KeyIn (k : List ℕ) : Type 0 where
  pub long : length k ≡ 32
  pub bytes : Bytes k

abbrev pub AltitudeIn : Option ℤ → Type 0
AltitudeIn a = IfSome a (SFits w32)

abbrev pub SiteIn : Option Site → Type 0
SiteIn c = IfSome c (λ s. T (fits binary64 s.lat) × (T (fits binary64 s.lon) × AltitudeIn s.alt_m))

abbrev pub IdIn : Option ℕ → Type 0
IdIn i = IfSome i (λ n. n ≤ most64)

abbrev pub ByIn : Option ℕ → Type 0
ByIn b = IfSome b (λ d. d ≤ most32)

abbrev pub RunIn : Verdict → Type 0
RunIn v = (v.wrong_run ≤ 255) × ((v.other_run ≤ 255) × ByIn v.wrong_by)

abbrev pub VerdictIn : Option Verdict → Type 0
VerdictIn j = IfSome j RunIn
