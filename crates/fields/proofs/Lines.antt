-- One turn of a loop over the bytes of a slice: what each definition says of the bytes from i on, by the byte at i and those from i + 1 on.
use Rattle.std.specs.Prelude.{Some, None, Option, MatchOption}
use Rattle.std.specs.Option.{unwrap_or, is_some}
use Rattle.std.specs.Char.{is_ascii_graphic}
use Rattle.std.specs.List.{position, position_or_len}
use mathlib.Core.Path.{◌≡◌, refl, sym, ap, subst, ◌∙◌}
use mathlib.Core.Bool.{Bool, true, false, ◌&&◌, cond, not, and-false, true≢false}
use mathlib.Core.Logic.{◌⊎◌, inl, inr}
use mathlib.Core.List.{List, [], ◌∷◌}
use Prim.Native.Nat.{ℕ, zero, suc, ◌+◌, ◌-◌, ◌≤◌, ◌<◌}
use native.Mathlib.Numerals.{one-add}
use native.Mathlib.Omega.{arith}
use borrow.Author.Tests.{eq-eqb, ne_eqb, le-leb, lt-leb, lt-ltb, le-ltb, ltb-false}
use lib.Dec.{eqb, ltb, leb}
use lib.Pointwise.{pointwise}
use denote.Bor.{Bor}
use Rattle.std.proofs.lemmas.Bool.{ltb-true}
use Rattle.std.proofs.lemmas.List.{drop_more, get_or-take}
use lib.ListN.{length, get_or, take, drop, drop_of_length-le, length-drop}
use lib.Seq.{take_all, length-take-le, length_front}
use Rattle.fields.specs.Text.{first_of, first_in, back_over, text_end, part_of, same_bytes, printable, moved_to}

-- ---- find
pub find_le : (c : ℕ) (s : List ℕ) → first_of c s ≤ length s
unfolding first_of
find_le c [] = omega arith
find_le c (x ∷ s) = by (eqb x c) (find_le c s) where
  by : (b : Bool) → first_of c s ≤ length s → cond b 0 (suc (first_of c s)) ≤ suc (length s)
  by true h = omega arith
  by false h = omega arith

-- the library's count of the bytes before the first that is c
pub first_is : (c : ℕ) (s : List ℕ) → position_or_len (λ x. eqb x c) s ≡ first_of c s
unfolding first_of
first_is c [] = refl
first_is c (x ∷ s) = by (eqb x c) (first_is c s) where
  by : (b : Bool) → position_or_len (λ y. eqb y c) s ≡ first_of c s → cond (not b) (1 + position_or_len (λ y. eqb y c) s) 0 ≡ cond b 0 (suc (first_of c s))
  by true e = refl
  by false e = one-add (position_or_len (λ y. eqb y c) s) ∙ ap suc e

pub first_found : (c : ℕ) (s : List ℕ) (r : Option ℕ) → r ≡ position (λ x. eqb x c) s → r ≡ first_in c s
unfolding first_in
first_found c s r e = e ∙ ap (λ n. cond (ltb n (length s)) (Some n) None) (first_is c s)

pub find_is : (c : ℕ) (s : List ℕ) {r : Option ℕ} {n : ℕ} → n ≡ unwrap_or r (length s) → r ≡ first_in c s → n ≡ first_of c s
unfolding first_in
find_is c s f e = f ∙ ap (λ (o : Option ℕ). unwrap_or o (length s)) e ∙ by (first_of c s) (find_le c s) (ltb (first_of c s) (length s)) refl where
  by : (n : ℕ) → n ≤ length s → (b : Bool) → ltb n (length s) ≡ b → unwrap_or (cond b (Some n) None) (length s) ≡ n
  by n h true e = refl
  by n h false e = let p : length s ≤ n = ltb-false n (length s) e in omega (arith, h)

-- what an answer of `first_place` says
pub first_some : (c : ℕ) (s : List ℕ) (n : ℕ) → Some n ≡ first_in c s → (n ≡ first_of c s) × (n < length s)
unfolding first_in
first_some c s n e = by (first_of c s) (ltb (first_of c s) (length s)) refl e where
  by : (m : ℕ) (b : Bool) → ltb m (length s) ≡ b → Some n ≡ cond b (Some m) None → (n ≡ m) × (n < length s)
  by m true h e = let q : n ≡ m = ap (λ (o : Option ℕ). unwrap_or o 0) e in (q, subst (λ k. k < length s) (sym q) (ltb-true m (length s) h))
  by m false h e = absurd (true≢false (ap is_some e))

pub first_none : (c : ℕ) (s : List ℕ) → None ≡ first_in c s → length s ≤ first_of c s
unfolding first_in
first_none c s e = by (first_of c s) (ltb (first_of c s) (length s)) refl e where
  by : (m : ℕ) (b : Bool) → ltb m (length s) ≡ b → None ≡ cond b (Some m) None → length s ≤ m
  by m true h e = absurd (true≢false (sym (ap is_some e)))
  by m false h e = ltb-false m (length s) h

-- ---- back over spaces
spaces_from : (s : List ℕ) (n d : ℕ) → ((k : ℕ) → n ≤ k → k < n + d → get_or s k 0 ≡ 32) → back_over s (n + d) ≡ back_over s n
unfolding back_over
spaces_from s n zero h = let l : n + 0 ≡ n = omega arith in ap (back_over s) l
spaces_from s n (suc d) h = let l : n + suc d ≡ suc (n + d) = omega arith in ap (back_over s) l ∙ rw (eq-eqb _ 32 (h (n + d) (omega arith) (omega arith))) (spaces_from s n d (λ k a b. h k a (omega arith)))

pub back_found : (s : List ℕ) (n : ℕ) → n < length s → (get_or s n 0 ≡ 32 → ⊥) → ((k : ℕ) → n + 1 ≤ k → k < length s → get_or s k 0 ≡ 32) → back_over s (length s) ≡ n + 1
unfolding back_over
back_found s n h q e =
    let d = length s - (n + 1) in
    let l : n + 1 + d ≡ length s = omega arith in
    ap (back_over s) (sym l) ∙ spaces_from s (n + 1) d (λ k a b. e k a (omega arith)) ∙ stop
  where
    stop : back_over s (n + 1) ≡ n + 1
    stop = let l : n + 1 ≡ suc n = omega arith in ap (back_over s) l ∙ rw (ne_eqb _ 32 q) (sym l)

pub back_none : (s : List ℕ) → ((k : ℕ) → k < length s → get_or s k 0 ≡ 32) → back_over s (length s) ≡ 0
unfolding back_over
back_none s e =
    let l : 0 + length s ≡ length s = omega arith in
    ap (back_over s) (sym l) ∙ spaces_from s 0 (length s) (λ k a b. e k (omega arith))

-- a part is moved back over as in its line
pub back_front : (s : List ℕ) (n : ℕ) → n ≤ length s → back_over (take n s) n ≡ back_over s n
unfolding back_over
back_front s n h = by n (omega arith) where
  by : (m : ℕ) → m ≤ n → back_over (take n s) m ≡ back_over s m
  by zero l = refl
  by (suc m) l = rw (get_or-take n s m 0 (omega arith)) (ap (λ k. cond (eqb (get_or s m 0) 32) k (suc m)) (by m (omega arith)))

-- ---- a line with a comment, and one without
pub text_comment : (line : List ℕ) (hash : ℕ) → Some hash ≡ first_in 35 line → back_over (take hash line) (length (take hash line)) ≡ text_end line
unfolding text_end
text_comment line hash e =
    let f = first_some 35 line hash e in
    ap (back_over (take hash line)) (length-take-le hash line (omega (arith, f.1))) ∙ back_front line hash (omega (arith, f.1)) ∙ rw (← f.0, lt-ltb hash (length line) f.1) refl

pub text_whole : (line : List ℕ) → None ≡ first_in 35 line → text_end line ≡ length line
unfolding text_end
text_whole line e = rw (le-ltb (first_of 35 line) (length line) (first_none 35 line e)) refl

-- ---- the same bytes
-- the library's comparison of slices
pub same_is : (s w : List ℕ) → pointwise eqb s w ≡ same_bytes s w
unfolding same_bytes
same_is [] [] = refl
same_is [] (y ∷ w) = refl
same_is (x ∷ s) [] = refl
same_is (x ∷ s) (y ∷ w) = ap (λ (b : Bool). eqb x y && b) (same_is s w)

-- ---- printable bytes
pub shown_on : (s : List ℕ) (i : ℕ) → i < length s → is_ascii_graphic (get_or s i 0) ≡ true → printable (drop i s) ≡ suc (printable (drop (i + 1) s))
unfolding printable
shown_on s i h e = rw (drop_more s i 0 h) (rw e)

pub shown_stop : (s : List ℕ) (i : ℕ) → i < length s → is_ascii_graphic (get_or s i 0) ≡ false → printable (drop i s) ≡ 0
unfolding printable
shown_stop s i h e = rw (drop_more s i 0 h) (rw e)

pub shown_end : (s : List ℕ) (i : ℕ) → length s ≤ i → printable (drop i s) ≡ 0
unfolding printable
shown_end s i h = rw (drop_of_length-le s h)

-- the code's `&s[from..]`
pub tail : (s : List ℕ) (from : ℕ) → take (length s - from) (drop from s) ≡ drop from s
tail s from = take_all (length s - from) (drop from s) (omega (arith, length-drop from s))

-- ---- a part
pub part_is : (s : List ℕ) (a e : ℕ) (r : Option (Bor (List ℕ))) (d : Bor (List ℕ)) → d.now ≡ []
    → MatchOption r ((e < a) ⊎ (length s < e)) (λ x. (a ≤ e) × (e ≤ length s) × (x.now ≡ take (e - a) (drop a s)) × (length x.now + a ≡ e)) → (unwrap_or r d).now ≡ part_of s a e
unfolding part_of
part_is s a e (Some x) d z h = rw (le-leb a e h.0, le-leb e (length s) h.1) h.2
part_is s a e None d z (inl h) = rw (lt-leb a e h) z
part_is s a e None d z (inr h) = rw (lt-leb e (length s) h, and-false (leb a e)) z

-- ---- bytes moved to the front
pub moved_length : (buf : List ℕ) (start i : ℕ) → start + i ≤ length buf → length (moved_to buf start i) ≡ length buf
unfolding moved_to
moved_length buf start i h =
    length_front buf (take i (drop start buf)) i
    (length-take-le i (drop start buf) (omega (arith, length-drop start buf)) ∙ sym (length-take-le i buf (omega arith)))
