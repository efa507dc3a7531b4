-- What a type whose values one word holds must prove: a value is read from its word again, and a word that fits is its value's.
use Rattle.std.specs.Prelude.{◌≡◌, ℕ, zero, suc, ◌≤◌, Bool, true, false, ℤ, ⊤}
use Rattle.std.specs.Int.{w32}
use Rattle.std.proofs.Common.{refl, ap, ◌∙◌, arith, of_z, to_z, SFits}
use native.Mathlib.Nat.{mod-eq_of_lt}
use mir.ValLaws.{to_z-of_z, of_z-to_z, of_z_fits}
use Rattle.verdicts.specs.declared.Last.{Last}
use Rattle.verdicts.specs.declared.Last.TheVariants.{Unjudged, Fits, Wrong}
use Rattle.packing.specs.Words.{most32, most64, low32, altitude_at, byte, flag_word, flag_of, last_word, last_of}

pub record WordLaws {A : Type 0} (most : ℕ) (to_word : A → ℕ) (of_word : ℕ → A) (In : A → Type 0) : Type 0 where
  pub back : (x : A) → In x → of_word (to_word x) ≡ x
  pub fits : (x : A) → In x → to_word x ≤ most
  pub again : (w : ℕ) → w ≤ most → to_word (of_word w) ≡ w

pub low_is : (n : ℕ) → n ≤ most32 → low32 n ≡ n
unfolding most32
low_is n h = mod-eq_of_lt (omega arith)

pub whole_laws : WordLaws {A = ℕ} most64 (λ n. n) (λ w. w) (λ n. n ≤ most64)
whole_laws = record { back = λ x h. refl; fits = λ x h. h; again = λ w h. refl }

pub wide_laws : WordLaws {A = ℕ} most32 (λ n. n) low32 (λ n. n ≤ most32)
wide_laws = record { back = low_is; fits = λ x h. h; again = low_is }

signed_back : (m : ℤ) → SFits w32 m → altitude_at (of_z w32 m) ≡ m
signed_back m h = ap (to_z w32) (mod-eq_of_lt (of_z_fits w32 m h).fits) ∙ to_z-of_z w32 m h

signed_fits : (m : ℤ) → SFits w32 m → of_z w32 m ≤ most32
unfolding most32
signed_fits m h = omega (arith, (of_z_fits w32 m h).fits)

signed_again : (w : ℕ) → w ≤ most32 → of_z w32 (altitude_at w) ≡ w
unfolding most32
signed_again w h = ap (λ (n : ℕ). of_z w32 (to_z w32 n)) (mod-eq_of_lt (omega arith)) ∙ of_z-to_z w32 w (record { fits = omega arith })

pub signed_laws : WordLaws {A = ℤ} most32 (of_z w32) altitude_at (SFits w32)
signed_laws = record { back = signed_back; fits = signed_fits; again = signed_again }

byte_is : (n : ℕ) → n ≤ 255 → byte n ≡ n
byte_is n h = mod-eq_of_lt (omega arith)

pub byte_laws : WordLaws {A = ℕ} 255 (λ n. n) byte (λ n. n ≤ 255)
byte_laws = record { back = byte_is; fits = λ x h. h; again = byte_is }

flag_back : (b : Bool) → ⊤ → flag_of (flag_word b) ≡ b
flag_back true h = refl
flag_back false h = refl

flag_fits : (b : Bool) → ⊤ → flag_word b ≤ 1
flag_fits true h = omega arith
flag_fits false h = omega arith

flag_again : (w : ℕ) → w ≤ 1 → flag_word (flag_of w) ≡ w
flag_again zero h = refl
flag_again (suc zero) h = refl
flag_again (suc (suc w)) h = absurd (omega arith)

pub flag_laws : WordLaws {A = Bool} 1 flag_word flag_of (λ b. ⊤)
flag_laws = record { back = flag_back; fits = flag_fits; again = flag_again }

last_back : (l : Last) → ⊤ → last_of (last_word l) ≡ l
last_back Unjudged h = refl
last_back Fits h = refl
last_back Wrong h = refl

last_fits : (l : Last) → ⊤ → last_word l ≤ 2
last_fits Unjudged h = omega arith
last_fits Fits h = omega arith
last_fits Wrong h = omega arith

last_again : (w : ℕ) → w ≤ 2 → last_word (last_of w) ≡ w
last_again zero h = refl
last_again (suc zero) h = refl
last_again (suc (suc zero)) h = refl
last_again (suc (suc (suc w))) h = absurd (omega arith)

pub last_laws : WordLaws {A = Last} 2 last_word last_of (λ l. ⊤)
last_laws = record { back = last_back; fits = last_fits; again = last_again }
