-- The digest in steps: words that are mixed in one after the other are mixed in as one list.
use Rattle.std.proofs.Common.{◌≡◌, ℕ, List, [], ◌∷◌, ◌++◌, sym, refl, ap, ◌∙◌}
use Rattle.heard.specs.declared.Heard.{Heard}
use Rattle.rows.specs.declared.Row.{Row}
use Rattle.rows.specs.Read.{row_is}
use Rattle.flat.specs.Words.{heard_words}
use Rattle.lending.specs.Digests.{mixed, mixed_all, link_word, verdict_six, row_words}
use Rattle.packing.specs.Words.{key_words, site_words, id_words}

-- ---- lists of words
pub mixed_append : (h : ℕ) (xs ys : List ℕ) → mixed_all h (xs ++ ys) ≡ mixed_all (mixed_all h xs) ys
unfolding mixed_all
mixed_append h [] ys = refl
mixed_append h (x ∷ xs) ys = mixed_append (mixed h x) xs ys

module _ (h g r : ℕ) where
  pub then : (xs ys : List ℕ) → g ≡ mixed_all h xs → r ≡ mixed_all g ys → r ≡ mixed_all h (xs ++ ys)
  then xs ys e f = f ∙ ap (λ (n : ℕ). mixed_all n ys) e ∙ sym (mixed_append h xs ys)

-- ---- a row's parts
pub heard_mixed : (d : Heard) (h a b c n r : ℕ) → a ≡ mixed_all h (site_words d.site) → n ≡ d.generation → b ≡ mixed a n → c ≡ mixed_all b (id_words d.even) → r ≡ mixed_all c (id_words d.odd) → r ≡ mixed_all h (heard_words d)
unfolding heard_words mixed_all
heard_mixed d h a b c n r ea en eb ec er =
    then h a r (site_words d.site) (d.generation ∷ (id_words d.even ++ id_words d.odd)) ea
    (then b c r (id_words d.even) (id_words d.odd) ec er ∙ ap (λ (k : ℕ). mixed_all k (id_words d.even ++ id_words d.odd)) (eb ∙ ap (mixed a) en))

pub row_mixed : (x : Row) (h a b c d p n r : ℕ) → a ≡ mixed_all h (key_words x.key) → b ≡ mixed_all a (heard_words x.part.heard) → c ≡ mixed_all b (verdict_six x.part.verdict)
    → p ≡ link_word x.prev → n ≡ link_word x.next → d ≡ mixed_all c (p ∷ n ∷ []) → r ≡ mixed_all d (id_words x.part.judged_ms) → r ≡ mixed_all h (row_words (row_is x))
unfolding row_words
row_mixed x h a b c d p n r ea eb ec ep en ed er =
    let tail : List ℕ = p ∷ n ∷ id_words x.part.judged_ms in
    rw (← ep, ← en)
    (then h a r (key_words x.key) (heard_words x.part.heard ++ (verdict_six x.part.verdict ++ tail)) ea
    (then a b r (heard_words x.part.heard) (verdict_six x.part.verdict ++ tail) eb
    (then b c r (verdict_six x.part.verdict) tail ec
    (then c d r (p ∷ n ∷ []) (id_words x.part.judged_ms) ed er))))
