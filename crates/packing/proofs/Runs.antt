-- Runs of stores: one after another they are one run of both; a run over the whole list leaves what was stored. And a word at a place of what is left.
use mathlib.Core.Path.{◌≡◌, refl, sym, ap, ◌∙◌}
use Prim.Native.Nat.{ℕ, suc, ◌+◌}
use native.Mathlib.Omega.{arith}
use mathlib.Core.List.{List, [], ◌∷◌, ◌++◌, append-nil}
use lib.ListN.{length, get_or, set, drop, length-append}
use lib.Seq.{sets, sets-eq, drop-length, get_or-drop, drop-drop, take_at, drop_at}

pub after : (l xs ys : List ℕ) (i n : ℕ) → length xs ≡ n → sets (sets l i xs) (i + n) ys ≡ sets l i (xs ++ ys)
after l [] ys i n h = ap (λ (j : ℕ). sets l j ys) (omega arith)
after l (x ∷ xs) ys i n h = ap (λ (j : ℕ). sets (sets (set l i x) (suc i) xs) j ys) next ∙ after (set l i x) xs ys (suc i) (length xs) refl
  where
    next : i + n ≡ suc i + length xs
    next = omega arith

-- two, three and four runs, each from where the one before it ends
pub runs2 : (l a b y z : List ℕ) (i j : ℕ) → j ≡ i + length a → y ≡ sets l i a → z ≡ sets y j b → z ≡ sets l i (a ++ b)
runs2 l a b y z i j e f g = g ∙ ap (λ (m : List ℕ). sets m j b) f ∙ ap (λ (n : ℕ). sets (sets l i a) n b) e ∙ after l a b i (length a) refl

pub runs3 : (l a b c x y z : List ℕ) (i j k : ℕ) → j ≡ i + length a → k ≡ j + length b → x ≡ sets l i a → y ≡ sets x j b → z ≡ sets y k c → z ≡ sets l i (a ++ (b ++ c))
runs3 l a b c x y z i j k d e f g h = runs2 l a (b ++ c) x z i j d f (runs2 x b c y z j k e g h)

pub runs4 : (l a b c d w x y z : List ℕ) (i j k m : ℕ) → j ≡ i + length a → k ≡ j + length b → m ≡ k + length c
    → w ≡ sets l i a → x ≡ sets w j b → y ≡ sets x k c → z ≡ sets y m d → z ≡ sets l i (a ++ (b ++ (c ++ d)))
runs4 l a b c d w x y z i j k m p q r e f g h = runs2 l a (b ++ (c ++ d)) w z i j p e (runs3 w b c d x y z j k m q r f g h)

-- a run over all that is left behind the first n, and over all
pub over_rest : (p q xs : List ℕ) (n : ℕ) → length p ≡ n → length xs ≡ length q → sets (p ++ q) n xs ≡ p ++ xs
over_rest p q xs n h e =
    sets-eq xs (p ++ q) n (omega (arith, end)) ∙ ap (λ (l : List ℕ). (l ++ xs) ++ drop (n + length xs) (p ++ q)) (take_at p q n h)
    ∙ ap (λ (l : List ℕ). (p ++ xs) ++ l) (ap (λ (m : ℕ). drop m (p ++ q)) end ∙ drop-length (p ++ q)) ∙ append-nil (p ++ xs)
  where
    end : n + length xs ≡ length (p ++ q)
    end = omega (arith, h, e, length-append p q)

pub over_all : (l xs : List ℕ) → length xs ≡ length l → sets l 0 xs ≡ xs
over_all l xs h = over_rest [] l xs 0 refl h

-- a word of what is left from the i-th on
pub here : (l : List ℕ) (i : ℕ) → get_or (drop i l) 0 0 ≡ get_or l i 0
here l i = get_or-drop i l 0 0 ∙ ap (λ (j : ℕ). get_or l j 0) (omega arith)

pub there : (l : List ℕ) (i k : ℕ) → get_or (drop i l) k 0 ≡ get_or l (i + k) 0
there l i k = get_or-drop i l k 0

pub further : (l : List ℕ) (i k : ℕ) → drop k (drop i l) ≡ drop (i + k) l
further l i k = drop-drop k i l

-- past the first of what is left, the rest is left
pub past : (l p q : List ℕ) (i n : ℕ) → drop i l ≡ p ++ q → length p ≡ n → drop (i + n) l ≡ q
past l p q i n e h = sym (further l i n) ∙ ap (drop n) e ∙ drop_at p q n h
