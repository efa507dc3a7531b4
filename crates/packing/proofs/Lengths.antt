-- How many words a field has.
use Rattle.std.specs.Prelude.{Some, None, Option}
use mathlib.Core.Path.{◌≡◌, refl}
use Prim.Native.Nat.{ℕ}
use native.Mathlib.Omega.{arith}
use mathlib.Core.List.{List, [], ◌∷◌}
use lib.ListN.{length, length-append}
use mir.Syntax.{w32}
use mir.Val.{of_z}
use Rattle.sites.specs.declared.Site.{Site}
use Rattle.verdicts.specs.declared.Verdict.{Verdict}
use Rattle.packing.specs.Words.{maybe_words, key_words, site_words, id_words, flag_word, verdict_words}

pub key_words_lem : (k : List ℕ) → length (key_words k) ≡ 4
unfolding key_words
key_words_lem k = refl

pub maybe_words_lem : {A : Type 0} (f : A → ℕ) (x : Option A) → length (maybe_words f x) ≡ 2
maybe_words_lem f (Some v) = refl
maybe_words_lem f None = refl

pub id_words_lem : (i : Option ℕ) → length (id_words i) ≡ 2
id_words_lem = maybe_words_lem (λ n. n)

pub site_words_lem : (c : Option Site) → length (site_words c) ≡ 5
unfolding site_words
site_words_lem (Some s) = omega (arith, maybe_words_lem (of_z w32) s.alt_m)
site_words_lem None = refl

pub verdict_words_lem : (j : Option Verdict) → length (verdict_words j) ≡ 7
unfolding verdict_words
verdict_words_lem (Some v) = omega (arith, length-append (id_words v.wrong_by) (flag_word v.moved ∷ []), id_words_lem v.wrong_by)
verdict_words_lem None = refl
