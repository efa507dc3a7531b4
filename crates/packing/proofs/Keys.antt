-- A key's 32 bytes as four words and back: eight bytes are one word, by std's laws of it.
use mathlib.Core.Path.{◌≡◌, refl, sym, ap, ◌∙◌, subst}
use Prim.Native.Nat.{ℕ, zero, suc, ◌+◌, ◌-◌, ◌*◌, ◌≤◌, ◌<◌}
use native.Mathlib.Omega.{arith}
use mathlib.Core.List.{List, [], ◌∷◌, ◌++◌, append_assoc}
use lib.ListN.{length, get_or, take, drop, length-take, length-drop, length-append, take-append-drop}
use lib.Seq.{take_all, drop-drop, get_or-drop, take_at}
use Rattle.std.specs.Int.{w64, from_le_bytes, to_le_bytes}
use Rattle.std.proofs.lemmas.Nat.{from_le_bytes-to_le_bytes_8, le_bytes_8}
use Rattle.packing.specs.Words.{most64, eight, key_words, key_of}
use Rattle.packing.specs.Ranges.{Bytes, KeyIn}

-- BYTES
bytes_take : (n : ℕ) (l : List ℕ) → Bytes l → Bytes (take n l)
bytes_take zero l h j = omega arith
bytes_take (suc n) [] h j = omega arith
bytes_take (suc n) (x ∷ l) h zero = h 0
bytes_take (suc n) (x ∷ l) h (suc j) = bytes_take n l (λ m. h (suc m)) j

pub eight_bytes : (k : List ℕ) (i : ℕ) → Bytes k → Bytes (eight k i)
eight_bytes k i h = bytes_take 8 (drop i k) (λ j. subst (λ (n : ℕ). n < 256) (sym (get_or-drop i k j 0)) (h (i + j)))

-- A WORD: its eight bytes make it again, and eight bytes are those of their word
pub word_back : (w : ℕ) → w ≤ most64 → from_le_bytes w64 (to_le_bytes w64 w) ≡ w
unfolding most64
word_back w h = from_le_bytes-to_le_bytes_8 w (omega arith)

eight_back : (k : List ℕ) (i : ℕ) → KeyIn k → i + 8 ≤ 32 → to_le_bytes w64 (from_le_bytes w64 (eight k i)) ≡ eight k i
eight_back k i r h = le_bytes_8 (eight k i) _ (length-take 8 (drop i k) ∙ omega (arith, length-drop i k, r.long)) (eight_bytes k i r.bytes) refl

pub eight_below : (k : List ℕ) (i : ℕ) → KeyIn k → from_le_bytes w64 (eight k i) ≤ most64
unfolding most64
eight_below k i r = let b = eight_bytes k i r.bytes in omega (arith, b 0, b 1, b 2, b 3, b 4, b 5, b 6, b 7)

-- A KEY: four times eight are all
parts : (k : List ℕ) → length k ≡ 32 → eight k 0 ++ (eight k 8 ++ (eight k 16 ++ eight k 24)) ≡ k
parts k e =
    let a : eight k 24 ≡ drop 24 k = take_all 8 (drop 24 k) (omega (arith, length-drop 24 k)) in
    let b : eight k 16 ++ eight k 24 ≡ drop 16 k = ap (λ (l : List ℕ). eight k 16 ++ l) (a ∙ sym (drop-drop 8 16 k)) ∙ take-append-drop 8 (drop 16 k) in
    let c : eight k 8 ++ (eight k 16 ++ eight k 24) ≡ drop 8 k = ap (λ (l : List ℕ). eight k 8 ++ l) (b ∙ sym (drop-drop 8 8 k)) ∙ take-append-drop 8 (drop 8 k) in
    ap (λ (l : List ℕ). eight k 0 ++ l) c ∙ take-append-drop 8 k

four : (a b c d p q r s : List ℕ) → p ≡ a → q ≡ b → r ≡ c → s ≡ d → p ++ (q ++ (r ++ s)) ≡ a ++ (b ++ (c ++ d))
four a b c d p q r s e f g h = rw (e, f, g, h)

pub key_back : (k q : List ℕ) → KeyIn k → key_of (key_words k ++ q) ≡ k
unfolding key_of key_words
key_back k q r =
    four (eight k 0) (eight k 8) (eight k 16) (eight k 24) _ _ _ _
    (eight_back k 0 r (omega arith)) (eight_back k 8 r (omega arith)) (eight_back k 16 r (omega arith)) (eight_back k 24 r (omega arith)) ∙ parts k r.long

pub key_of_long : (ws : List ℕ) → length (key_of ws) ≡ 32
unfolding key_of
key_of_long ws = refl

-- the first i words' bytes, and one word's more
next_bytes : (i : ℕ) (ws : List ℕ) → i < 4 → take (8 * (i + 1)) (key_of ws) ≡ take (8 * i) (key_of ws) ++ to_le_bytes w64 (get_or ws i 0)
unfolding key_of
next_bytes zero ws h = refl
next_bytes (suc zero) ws h = refl
next_bytes (suc (suc zero)) ws h = refl
next_bytes (suc (suc (suc zero))) ws h = refl
next_bytes (suc (suc (suc (suc i)))) ws h = absurd (omega arith)

pub key_step : (i : ℕ) (ws key b : List ℕ) → b ≡ to_le_bytes w64 (get_or ws i 0) → i < 4 → length key ≡ 32 → take (8 * i) key ≡ take (8 * i) (key_of ws)
    → (length (take (8 * i) key ++ (b ++ drop (8 * i + 8 - 8 * i) (drop (8 * i) key))) ≡ 32)
    × (take (8 * (i + 1)) (take (8 * i) key ++ (b ++ drop (8 * i + 8 - 8 * i) (drop (8 * i) key))) ≡ take (8 * (i + 1)) (key_of ws))
key_step i ws key b eb h long e = (whole, all ∙ ap (λ (l : List ℕ). p ++ l) eb ∙ ap (λ (l : List ℕ). l ++ to_le_bytes w64 (get_or ws i 0)) e ∙ sym (next_bytes i ws h))
  where
    p : List ℕ
    p = take (8 * i) key

    rest : List ℕ
    rest = drop (8 * i + 8 - 8 * i) (drop (8 * i) key)

    eight_long : length b ≡ 8
    eight_long = ap length eb

    whole : length (p ++ (b ++ rest)) ≡ 32
    whole = length-append p (b ++ rest) ∙ omega (arith, long, h, length-append b rest, eight_long, length-take (8 * i) key, length-drop (8 * i) key, length-drop (8 * i + 8 - 8 * i) (drop (8 * i) key))

    seam : length (p ++ b) ≡ 8 * (i + 1)
    seam = length-append p b ∙ omega (arith, long, h, eight_long, length-take (8 * i) key)

    all : take (8 * (i + 1)) (p ++ (b ++ rest)) ≡ p ++ b
    all = ap (take (8 * (i + 1))) (sym (append_assoc p b rest)) ∙ take_at (p ++ b) rest (8 * (i + 1)) seam

pub key_all : (ws key : List ℕ) → length key ≡ 32 → take 32 key ≡ take 32 (key_of ws) → key ≡ key_of ws
key_all ws key long e = sym (take_all 32 key (omega (arith, long))) ∙ e ∙ take_all 32 (key_of ws) (omega (arith, key_of_long ws))

pub key_puts : (k : List ℕ) (a b c d : ℕ) → a ≡ from_le_bytes w64 (eight k 0) → b ≡ from_le_bytes w64 (eight k 8) → c ≡ from_le_bytes w64 (eight k 16) → d ≡ from_le_bytes w64 (eight k 24)
    → a ∷ b ∷ c ∷ d ∷ [] ≡ key_words k
unfolding key_words
key_puts k a b c d ea eb ec ed = simp (ea, eb, ec, ed)
