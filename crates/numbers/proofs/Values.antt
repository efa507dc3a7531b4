-- Numbers: one turn of the loop over the digits, and the ways that it ends.
use Rattle.std.specs.Prelude.{Some, None, Option, MatchOption}
use Rattle.std.specs.Option.{unwrap_or, option_copied, option_eq}
use Rattle.std.specs.List.{slice_get}
use mathlib.Core.Path.{◌≡◌, refl, sym, ◌∙◌}
use mathlib.Core.Bool.{Bool, true, false, ◌&&◌, cond, and-true, and-false}
use mathlib.Core.List.{List, [], ◌∷◌}
use Prim.Native.Nat.{ℕ, ◌+◌, ◌*◌, ◌≤◌, ◌<◌}
use native.Mathlib.Nat.{mul-le-mul_left, mul-one}
use native.Mathlib.Omega.{arith}
use borrow.Author.Tests.{lt-ltb, le-ltb, le-leb, lt-leb, leb-true}
use lib.Dec.{eqb, ltb, leb}
use lib.Pointwise.{pointwise}
use denote.Bor.{Bor}
use Rattle.std.proofs.lemmas.List.{drop_more}
use lib.ListN.{drop_of_length-le, length, get_or, take, drop}
use Rattle.numbers.specs.Numbers.{digit_of, all_digits, value_on, number_on, whole_of, is_minus, unsigned_of}

-- more digits make no number smaller
pub value_grows : (base n : ℕ) (s : List ℕ) → 0 < base → n ≤ value_on base n s
unfolding value_on
value_grows base n [] h = omega arith
value_grows base n (c ∷ s) h =
    let m : n * 1 ≤ n * base = mul-le-mul_left n h in
    let e : n * 1 ≡ n = mul-one n in
    let r : n * base + digit_of c ≤ value_on base (n * base + digit_of c) s = value_grows base (n * base + digit_of c) s h in
    omega arith

-- ---- one turn
pub digits_on : (base : ℕ) (s : List ℕ) (i : ℕ) → i < length s → digit_of (get_or s i 0) < base → all_digits base (drop i s) ≡ all_digits base (drop (i + 1) s)
unfolding all_digits
digits_on base s i h d = rw (drop_more s i 0 h) (rw (lt-ltb (digit_of (get_or s i 0)) base d))

pub value_on_lem : (base n : ℕ) (s : List ℕ) (i : ℕ) → i < length s → value_on base n (drop i s) ≡ value_on base (n * base + digit_of (get_or s i 0)) (drop (i + 1) s)
unfolding value_on
value_on_lem base n s i h = rw (drop_more s i 0 h)

-- ---- the ways out
pub no_digits : (base most n : ℕ) (s : List ℕ) → length s ≡ 0 → number_on base most n s ≡ None
unfolding number_on
no_digits base most n s e = rw (le-ltb 0 (length s) (omega arith))

refused : (b x y : Bool) (v : Option ℕ) → (x && y) ≡ false → cond (b && (x && y)) v None ≡ None
refused true x y v e = rw e
refused false x y v e = refl

pub not_digit : (base most n : ℕ) (s : List ℕ) (i : ℕ) → i < length s → base ≤ digit_of (get_or s i 0) → all_digits base s ≡ all_digits base (drop i s)
    → number_on base most n s ≡ None
unfolding number_on all_digits
not_digit base most n s i h d e =
    let f : all_digits base (drop i s) ≡ false = rw (drop_more s i 0 h) (rw (le-ltb (digit_of (get_or s i 0)) base d)) in
    refused (ltb 0 (length s)) (all_digits base s) _ _ (rw (e ∙ f))

-- the digit at i brings the number above `most`
pub too_large : (base most from n : ℕ) (s : List ℕ) (i : ℕ) → 0 < base → i < length s → value_on base from s ≡ value_on base n (drop i s)
    → most < n * base + digit_of (get_or s i 0) → number_on base most from s ≡ None
unfolding number_on
too_large base most from n s i b h e l =
    let g : n * base + digit_of (get_or s i 0) ≤ value_on base (n * base + digit_of (get_or s i 0)) (drop (i + 1) s) = value_grows base (n * base + digit_of (get_or s i 0)) (drop (i + 1) s) b in
    let v : most < value_on base from s = rw (e ∙ value_on_lem base n s i h) (omega arith) in
    refused (ltb 0 (length s)) (all_digits base s) _ _ (rw (lt-leb (value_on base from s) most v) (and-false (all_digits base s)))

-- every byte was a digit, and the number stayed within `most`
pub read_all : (base most from n : ℕ) (s : List ℕ) (i : ℕ) → 0 < length s → length s ≤ i → n ≤ most → all_digits base s ≡ all_digits base (drop i s)
    → value_on base from s ≡ value_on base n (drop i s) → number_on base most from s ≡ Some n
unfolding number_on all_digits value_on
read_all base most from n s i h l m d v =
    let d' : all_digits base s ≡ true = d ∙ rw (drop_of_length-le s l) in
    let v' : value_on base from s ≡ n = v ∙ rw (drop_of_length-le s l) in
    rw (v', d', lt-ltb 0 (length s) h, le-leb n most m)

-- a number that was read is at most `most`
pub within : (base most n k : ℕ) (s : List ℕ) → number_on base most n s ≡ Some k → k ≤ most
unfolding number_on
within base most n k s e = by (ltb 0 (length s)) (all_digits base s) (leb (value_on base n s) most) refl e where
  by : (x y b : Bool) → leb (value_on base n s) most ≡ b → cond (x && (y && b)) (Some (value_on base n s)) None ≡ Some k → k ≤ most
  by true true true l e = let v : value_on base n s ≡ k = cc in omega (arith, leb-true (value_on base n s) most l)
  by true true false l e = let z : ◌≡◌ {A = ℕ} 0 1 = cc in omega arith
  by true false b l e = let z : ◌≡◌ {A = ℕ} 0 1 = cc in omega arith
  by false y b l e = let z : ◌≡◌ {A = ℕ} 0 1 = cc in omega arith

-- ---- signed numbers
-- the library's first byte
pub minus_is : (s : List ℕ) (o : Option (Bor ℕ)) (m : Bor ℕ) → m.now ≡ 45 → option_copied o ≡ slice_get s 0 → option_eq (λ x y. eqb x.now y.now) o (Some m) ≡ is_minus s
unfolding is_minus
minus_is [] None m h e = refl
minus_is [] (Some x) m h e = absurd (cc)
minus_is (c ∷ s) None m h e = absurd (cc)
minus_is (c ∷ s) (Some x) m h e = let f : x.now ≡ c = cc in rw (f, h)

-- what the library strips
starts_is : (s : List ℕ) → pointwise eqb (take 1 s) (45 ∷ []) ≡ is_minus s
unfolding is_minus
starts_is [] = refl
starts_is (c ∷ s) = and-true (eqb c 45)

pub unsigned_is : (s : List ℕ) (o : Option (Bor (List ℕ))) (d : Bor (List ℕ)) → d.now ≡ s
    → MatchOption o (pointwise eqb (take 1 s) (45 ∷ []) ≡ false) (λ x. (pointwise eqb (take 1 s) (45 ∷ []) ≡ true) × (x.now ≡ drop 1 s) × (length x.now + 1 ≡ length s))
    → (unwrap_or o d).now ≡ unsigned_of s
unfolding unsigned_of
unsigned_is s None d e h = rw (sym (starts_is s) ∙ h) e
unsigned_is s (Some x) d e h = rw (sym (starts_is s) ∙ h.0) h.1

pub whole_within : (most k : ℕ) (s : List ℕ) → whole_of most s ≡ Some k → k ≤ most
unfolding whole_of
whole_within most k s e = within 10 most 0 k s e
