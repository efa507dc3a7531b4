-- What a row's stores come to: its words, in a run. Each function's store is the last run, after those of the calls before it.
use Rattle.std.specs.Prelude.{Option}
use mathlib.Core.Path.{◌≡◌, refl, sym, ap, ap₂, ◌∙◌, subst}
use Prim.Native.Nat.{ℕ, ◌≤◌}
use native.Mathlib.Omega.{arith}
use mathlib.Core.List.{List, [], ◌∷◌, ◌++◌}
use lib.ListN.{length, set, length-append}
use lib.Seq.{sets}
use Rattle.heard.specs.declared.Heard.{Heard}
use Rattle.rows.specs.declared.Row.{Row}
use Rattle.scans.specs.declared.Links.{Links}
use Rattle.flat.specs.Words.{heard_words, closed_of}
use Rattle.packing.specs.Words.{most32, key_words, site_words, id_words, verdict_words}
use Rattle.packing.proofs.Runs.{runs4, over_all}
use Rattle.packing.proofs.Lengths.{key_words_lem, site_words_lem, id_words_lem, verdict_words_lem}

pub heard_words_lem : (h : Heard) → length (heard_words h) ≡ 10
unfolding heard_words
heard_words_lem h =
    let e = id_words h.even in let o = id_words h.odd in
    length-append (site_words h.site) (h.generation ∷ (e ++ o)) ∙ omega (arith, site_words_lem h.site, length-append e o, id_words_lem h.even, id_words_lem h.odd)

pub row_words_lem : (r : Row) → length (closed_of r) ≡ 25
unfolding closed_of
row_words_lem r =
    let k = key_words r.key in let h = heard_words r.part.heard in let v = verdict_words r.part.verdict in let c = id_words r.part.judged_ms in let z = r.prev ∷ r.next ∷ c in
    length-append k (h ++ (v ++ z)) ∙ omega (arith, key_words_lem r.key, length-append h (v ++ z), heard_words_lem r.part.heard, length-append v z, verdict_words_lem r.part.verdict, id_words_lem r.part.judged_ms)

-- STORES
pub heard_puts : (l w x y z s e o : List ℕ) (g : ℕ) (h : Heard) → s ≡ site_words h.site → g ≡ h.generation → e ≡ id_words h.even → o ≡ id_words h.odd
    → w ≡ sets l 4 s → x ≡ sets w 9 (g ∷ []) → y ≡ sets x 10 e → z ≡ sets y 12 o → z ≡ sets l 4 (heard_words h)
unfolding heard_words
heard_puts l w x y z s e o g h es eg ee eo ew ex ey ez =
    runs4 l (site_words h.site) (h.generation ∷ []) (id_words h.even) (id_words h.odd) w x y z 4 9 10 12 (omega (arith, site_words_lem h.site)) refl (omega (arith, id_words_lem h.even))
    (ew ∙ ap (sets l 4) es) (ex ∙ ap (λ (n : ℕ). sets w 9 (n ∷ [])) eg) (ey ∙ ap (sets x 10) ee) (ez ∙ ap (sets y 12) eo)

pub tail_puts : (l z : List ℕ) (a b p n : ℕ) (c : Option ℕ) → a ≡ p → b ≡ n → z ≡ sets (set (set l 21 a) 22 b) 23 (id_words c) → z ≡ sets l 21 (p ∷ n ∷ id_words c)
tail_puts l z a b p n c ea eb ez = ez ∙ ap₂ (λ (x y : ℕ). sets (set (set l 21 x) 22 y) 23 (id_words c)) ea eb

abbrev links_of : Row → Links
links_of r = record { prev = r.prev; next = r.next }

pub closes : (l w x y z k v : List ℕ) (r : Row) (m : Links) → length l ≡ 25 → m ≡ links_of r → k ≡ key_words r.key → v ≡ verdict_words r.part.verdict → w ≡ sets l 0 k → x ≡ sets w 4 (heard_words r.part.heard)
    → y ≡ sets x 14 v → z ≡ sets y 21 (m.prev ∷ m.next ∷ id_words r.part.judged_ms) → z ≡ closed_of r
unfolding closed_of
closes l w x y z k v r m e em ek ev ew ex ey ez =
    runs4 l (key_words r.key) (heard_words r.part.heard) (verdict_words r.part.verdict) (r.prev ∷ r.next ∷ id_words r.part.judged_ms) w x y z 0 4 14 21
    (omega (arith, key_words_lem r.key)) (omega (arith, heard_words_lem r.part.heard)) (omega (arith, verdict_words_lem r.part.verdict)) (ew ∙ ap (sets l 0) ek) ex (ey ∙ ap (sets x 14) ev)
    (ez ∙ ap (λ (n : Links). sets y 21 (n.prev ∷ n.next ∷ id_words r.part.judged_ms)) em)
    ∙ over_all l (closed_of r) (row_words_lem r ∙ sym e)

-- links in range, and the row that they are of
pub links_in : (r : Row) (m : Links) → m ≡ links_of r → m.prev ≤ most32 → m.next ≤ most32 → (r.prev ≤ most32) × (r.next ≤ most32)
links_in r m em hp hn = (subst (λ (n : Links). n.prev ≤ most32) em hp, subst (λ (n : Links). n.next ≤ most32) em hn)
