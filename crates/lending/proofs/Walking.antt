-- The digest of a whole watch: rows and cells are mixed in one by one, and what is left to mix comes to the same as all at first.
use Rattle.std.proofs.Common.{◌≡◌, ℕ, ◌+◌, ◌*◌, ◌/◌, ◌%◌, ◌<◌, ◌≤◌, List, [], ◌∷◌, ◌++◌, map, length, get_or, take, drop, sym, refl, ap, ◌∙◌, add-one, arith, length-take-le, drop-cons}
use native.Mathlib.Nat.{mul-mod_right, mul-div_cancel_left}
use lib.ListN.{length-map}
use lib.Seq.{drop-length}
use Rattle.rows.specs.declared.Row.{Row}
use Rattle.rows.specs.Links.{blank}
use Rattle.rows.specs.Read.{row_is, watch_is}
use Rattle.scans.specs.Ends.{ends_is}
use Rattle.flat.specs.Table.{rows_of}
use Rattle.flat.proofs.Rows.{wide_is, count_whole}
use Rattle.lending.specs.Digests.{mixed, mixed_all, row_words, rows_words, ends_words, first_hash, digest_of}
use Rattle.lending.proofs.Mixing.{mixed_append, then}

-- g with the words xs still to mix is h with all of ys
abbrev pub Left : ℕ → List ℕ → ℕ → List ℕ → Type 0
Left h ys g xs = mixed_all g xs ≡ mixed_all h ys

goes : (h g r : ℕ) (ys xs ws zs : List ℕ) → xs ≡ ws ++ zs → r ≡ mixed_all g ws → Left h ys g xs → Left h ys r zs
goes h g r ys xs ws zs e f l = ap (λ (n : ℕ). mixed_all n zs) f ∙ sym (mixed_append g ws zs) ∙ ap (mixed_all g) (sym e) ∙ l

ends : (h g : ℕ) (ys xs : List ℕ) → xs ≡ [] → Left h ys g xs → g ≡ mixed_all h ys
unfolding mixed_all
ends h g ys xs e l = ap (mixed_all g) (sym e) ∙ l

-- nothing is left behind the last element
none_left : {A : Type 0} (n i : ℕ) (l : List A) → n ≡ length l → i ≤ n → n ≤ i → drop i l ≡ []
none_left n i l e f g = let k : i ≡ length l = omega arith in ap (λ (j : ℕ). drop j l) k ∙ drop-length l

next_left : {A : Type 0} (d : A) (i : ℕ) (l : List A) → i < length l → drop i l ≡ get_or l i d ∷ drop (i + 1) l
next_left d i l h = drop-cons l i d h ∙ ap (λ (j : ℕ). get_or l i d ∷ drop j l) (sym (add-one i))

-- ROWS
abbrev pub words_from : List Row → ℕ → List ℕ
words_from rs i = rows_words (map row_is (drop i rs))

abbrev pub RowsLeft : ℕ → List Row → ℕ → ℕ → Type 0
RowsLeft h rs g i = Left h (rows_words (map row_is rs)) g (words_from rs i)

pub rows_go : (h g r n i : ℕ) (rs : List Row) (x : Row) → n ≡ length rs → i < n → x ≡ get_or rs i blank → r ≡ mixed_all g (row_words (row_is x)) → RowsLeft h rs g i → RowsLeft h rs r (i + 1)
unfolding rows_words
rows_go h g r n i rs x e f k m l =
    let s : drop i rs ≡ x ∷ drop (i + 1) rs = next_left blank i rs (omega arith) ∙ ap (λ (y : Row). y ∷ drop (i + 1) rs) (sym k) in
    goes h g r (rows_words (map row_is rs)) (words_from rs i) (row_words (row_is x)) (words_from rs (i + 1)) (ap (λ (ys : List Row). rows_words (map row_is ys)) s) m l

pub rows_end : (h g n i : ℕ) (rs : List Row) → n ≡ length rs → i ≤ n → n ≤ i → RowsLeft h rs g i → g ≡ mixed_all h (rows_words (map row_is rs))
unfolding rows_words
rows_end h g n i rs e f k l = ends h g (rows_words (map row_is rs)) (words_from rs i) (ap (λ (ys : List Row). rows_words (map row_is ys)) (none_left n i rs e f k)) l

-- WORDS, and so cells
abbrev pub WordsLeft : ℕ → List ℕ → ℕ → ℕ → Type 0
WordsLeft h ys g i = Left h ys g (drop i ys)

pub words_go : (h g r w i : ℕ) (ys : List ℕ) → i < length ys → w ≡ get_or ys i 0 → r ≡ mixed g w → WordsLeft h ys g i → WordsLeft h ys r (i + 1)
unfolding mixed_all
words_go h g r w i ys f k m l = goes h g r ys (drop i ys) (get_or ys i 0 ∷ []) (drop (i + 1) ys) (next_left 0 i ys f) (m ∙ ap (mixed g) k) l

pub words_end : (h g i : ℕ) (ys : List ℕ) → i ≤ length ys → length ys ≤ i → WordsLeft h ys g i → g ≡ mixed_all h ys
words_end h g i ys f k l = ends h g ys (drop i ys) (none_left (length ys) i ys refl f k) l

-- ---- the watch
pub all_mixed : (rs : List Row) (ys ws : List ℕ) (s n k a b c r : ℕ) → n ≡ length rs → s ≡ first_hash → k ≡ n → a ≡ mixed s k → b ≡ mixed_all a (ends_words (ends_is ws)) → c ≡ mixed_all b (rows_words (map row_is rs)) → r ≡ mixed_all c ys
    → r ≡ digest_of (watch_is rs ys ws)
unfolding digest_of mixed_all
all_mixed rs ys ws s n k a b c r en es ek ea eb ec er =
    let count : k ≡ length (map row_is rs) = ek ∙ en ∙ sym (length-map rs row_is) in
    then a b r (ends_words (ends_is ws)) (rows_words (map row_is rs) ++ ys) eb (then b c r (rows_words (map row_is rs)) ys ec er)
    ∙ ap (λ (h : ℕ). mixed_all h (ends_words (ends_is ws) ++ (rows_words (map row_is rs) ++ ys))) (ea ∙ ap (λ (h : ℕ). mixed h k) es ∙ ap (mixed first_hash) count)

-- the first C rows are C rows
pub rows_count : (c a : ℕ) (xs : List ℕ) → a ≡ 25 * c → 25 * c ≤ length xs → c ≡ length (rows_of (take a xs))
rows_count c a xs e h =
    let long : length (take a xs) ≡ 25 * c = length-take-le a xs (omega arith) ∙ e in
    let even : length (take a xs) % 25 ≡ 0 = ap (λ (n : ℕ). n % 25) long ∙ mul-mod_right 25 c in
    sym (mul-div_cancel_left c (omega arith)) ∙ ap (λ (n : ℕ). n / 25) (sym long) ∙ count_whole (take a xs) 25 wide_is even
