-- Parts of an answer, put one after the other: where both fit, the first and then the second is the two as one.
use mathlib.Core.Path.{◌≡◌, refl, sym, ap, ◌∙◌}
use mathlib.Core.List.{List, [], ◌++◌, append-nil, append_assoc}
use Prim.Native.Nat.{ℕ, ◌+◌, ◌≤◌}
use native.Mathlib.Numerals.{add-one}
use native.Mathlib.Nat.{add-zero}
use native.Mathlib.Omega.{arith}
use borrow.Author.Tests.{le-leb}
use lib.ListN.{length, get_or, take, drop, length-append, length-drop, take-append-drop}
use lib.Seq.{take_at, drop-append-add, drop-drop, length-take-le}
use Rattle.fields.specs.Text.{spell, part_of, shown_of}
use Rattle.print.specs.declared.Text.{Text}
use Rattle.print.specs.Print.{digits, decimal_text, put_in, SameBuffer, Wrote, Adds}
use Rattle.answers.specs.Words.{◌then◌}
use Rattle.readers.specs.declared.Fault.{Fault}
use Rattle.answers.specs.Answers.{shown_text, fault_text, bytes_text, wrong_text}

-- what fits is put
put_whole : (out : List ℕ) (n : ℕ) (s : List ℕ) → n + length s ≤ length out → put_in out n s ≡ take n out ++ s ++ drop (n + length s) out
unfolding put_in
put_whole out n s h = rw (le-leb (n + length s) (length out) h)

module _ (out : List ℕ) (n : ℕ) where
  put_front : (s : List ℕ) → n ≤ length out → length (take n out ++ s) ≡ n + length s
  put_front s h = length-append (take n out) s ∙ ap (λ (k : ℕ). k + length s) (length-take-le n out h)

  pub put_length : (s : List ℕ) → n + length s ≤ length out → length (put_in out n s) ≡ length out
  put_length s h =
      ap length (put_whole out n s h) ∙ length-append (take n out ++ s) (drop (n + length s) out)
      ∙ omega (arith, put_front s (omega arith), length-drop (n + length s) out)

  pub put_twice : (a b : List ℕ) → n + length (a ++ b) ≤ length out → put_in (put_in out n a) (n + length a) b ≡ put_in out n (a ++ b)
  put_twice a b h =
      let l = length-append a b in
      let fa : n + length a ≤ length out = omega (arith, l) in
      let end : n + length a + length b ≡ n + length (a ++ b) = omega (arith, l) in
      let p = put_front a (omega arith) in
      let front : take (n + length a) (put_in out n a) ≡ take n out ++ a = ap (take (n + length a)) (put_whole out n a fa) ∙ take_at (take n out ++ a) (drop (n + length a) out) (n + length a) p in
      let back : drop (n + length a + length b) (put_in out n a) ≡ drop (n + length (a ++ b)) out =
      ap (drop (n + length a + length b)) (put_whole out n a fa)
      ∙ ap (λ (k : ℕ). drop (k + length b) (take n out ++ a ++ drop (n + length a) out)) (sym p)
      ∙ drop-append-add (take n out ++ a) (drop (n + length a) out) (length b)
      ∙ drop-drop (length b) (n + length a) out
      ∙ ap (λ (k : ℕ). drop k out) end in
      put_whole (put_in out n a) (n + length a) b (omega (arith, l, put_length a fa))
      ∙ ap (λ (t : List ℕ). t ++ b ++ drop (n + length a + length b) (put_in out n a)) front
      ∙ ap (λ (t : List ℕ). take n out ++ a ++ b ++ t) back
      ∙ ap (λ (t : List ℕ). t ++ drop (n + length (a ++ b)) out) (append_assoc (take n out) a b)
      ∙ sym (put_whole out n (a ++ b) h)

  pub put_none : n ≤ length out → out ≡ put_in out n []
  put_none h =
      sym
      (put_whole out n [] (omega arith)
      ∙ ap (λ (k : ℕ). take n out ++ [] ++ drop k out) (add-zero n)
      ∙ ap (λ (t : List ℕ). t ++ drop n out) (append-nil (take n out)) ∙ take-append-drop n out)

-- ---- what a part of an answer comes to
wrote_none : (out : List ℕ) (n : ℕ) → Wrote out n [] out n
unfolding Wrote
wrote_none out n h = (omega arith, put_none out n (omega arith))

wrote_then : (out a b out1 out2 : List ℕ) (n m r : ℕ) → Wrote out n a out1 m → Wrote out1 m b out2 r → Wrote out n (a then b) out2 r
unfolding Wrote
wrote_then out a b out1 out2 n m r w v h =
    let l = length-append a b in
    let x = w (omega (arith, l)) in
    let k : length out1 ≡ length out = ap length x.1 ∙ put_length out n a (omega (arith, l)) in
    let y = v (omega (arith, l, k, x.0)) in (
      omega (arith, l, x.0, y.0),
      y.1 ∙ ap (λ (o : List ℕ). put_in o m b) x.1 ∙ ap (λ (i : ℕ). put_in (put_in out n a) i b) x.0 ∙ put_twice out n a b h,
    )

pub adds_none : (a : Text) → Adds a [] a
unfolding Adds
adds_none a = ((refl, refl), wrote_none a.out.now a.n)

pub adds_then : (a b c : Text) (s t : List ℕ) → Adds a s b → Adds b t c → Adds a (s then t) c
unfolding Adds
adds_then a b c s t w v = ((v.0.0 ∙ w.0.0, v.0.1 ∙ w.0.1), wrote_then a.out.now s t b.out.now c.out.now a.n b.n c.n w.1 v.1)

-- the buffer stays the one that is lent
pub adds_there : (a b : Text) (s : List ℕ) → Adds a s b → SameBuffer a b
unfolding Adds
adds_there a b s w = w.0

pub adds_is : (a b : Text) (s t : List ℕ) → s ≡ t → Adds a s b → Adds a t b
adds_is a b s t e w = rw e at w

pub adds_both : (a b c : Text) (r s t : List ℕ) → Adds a (r then s) b → Adds b t c → Adds a (r then s then t) c
adds_both a b c r s t w v = adds_is a c ((r then s) then t) (r then s then t) (append_assoc r s t) (adds_then a b c (r then s) t w v)

-- ---- the parts
pub adds_shown : (a b : Text) (s line word : List ℕ) (end k : ℕ) → word ≡ part_of line 0 end → k ≡ shown_of word → s ≡ part_of word 0 k → Adds a s b → Adds a (shown_text (part_of line 0 end)) b
adds_shown a b s line word end k e f g w = adds_is a b s (shown_text (part_of line 0 end)) (g ∙ ap (part_of word 0) f ∙ ap shown_text e) w

-- a key, byte by byte
pub bytes_none : (a : Text) (key : List ℕ) → Adds a (bytes_text key 0) a
unfolding bytes_text
bytes_none a key = adds_none a

pub bytes_on : (a b c : Text) (key : List ℕ) (j x : ℕ) → x ≡ get_or key j 0 → Adds a (bytes_text key j) b → Adds b (digits 16 2 x) c → Adds a (bytes_text key (j + 1)) c
unfolding bytes_text
bytes_on a b c key j x e w v = rw (add-one j) (adds_then a b c (bytes_text key j) (digits 16 2 (get_or key j 0)) w (rw e at v))

-- what is wrong with a line, part by part
pub wrong_put : (a b c d e : Text) (line : List ℕ) (number : ℕ) (f : Fault) → Adds a (spell "error " then decimal_text number) b → Adds b (spell ": ") c → Adds c (fault_text f line) d → Adds d (spell "\n") e
    → Adds a (wrong_text f number line) e
wrong_put a b c d e line number f w1 w2 w3 w4 =
    let text = fault_text f line in
    adds_both a b e (spell "error ") (decimal_text number) (spell ": " then text then spell "\n") w1 (adds_then b c e (spell ": ") (text then spell "\n") w2 (adds_then c d e text (spell "\n") w3 w4))
