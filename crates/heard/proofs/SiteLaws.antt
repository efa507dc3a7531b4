-- For the code: one law for each way out of a function, its premises as the code leaves them.
use Rattle.std.proofs.Common.{◌≡◌, ℕ, ◌+◌, ◌-◌, ◌<◌, ◌≤◌, Bool, true, false, cond, not, List, length, get_or, set, replicate, take, drop, ◌++◌, append_assoc, drop-drop, length-take, length-drop, sym, refl, ap, ◌∙◌, arith, Option, Ok}
use Rattle.std.proofs.Math.ListN.{length-replicate}
use lib.Seq.{sets, sets-eq, length-sets}
use Rattle.cells.specs.Cells.{empty_word, added_word, bucket_of, aircraft_bit}
use Rattle.sites.specs.Sites.{placed}
use Rattle.sites.specs.declared.Site.{Site}
use Rattle.heard.specs.declared.Heard.{Heard}
use Rattle.heard.specs.declared.Position.{Position}
use Rattle.heard.specs.declared.counting.Counting.{Counting}
use Rattle.heard.specs.Heard.{half, width, epoch_of, is_even, held_id, with_id, not_older, holds_id, start_of, emptied, counted_at, on_site}
use Rattle.heard.specs.Answers.{half_before, counting_is, hearing_is}

pub half_is : half ≡ 1672
unfolding half
half_is = refl

pub width_is : width ≡ 3344
unfolding width
width_is = refl

pub start_odd : (b : Bool) → b ≡ false → (1672 ≡ start_of b) × (1672 ≤ 1672)
start_odd b e = (rw e (sym half_is), omega arith)

-- A POSITION heard around the site
module _ (h : Heard) (s : Site) (p : Position) (id : ℕ) (e : Bool) (i : Option ℕ) (id_is : id ≡ epoch_of p.at_ms) (even_is : e ≡ is_even id) (held_is : i ≡ held_id e h) where
  pub counted_is : (b : Bool) (c : Counting) → b ≡ not_older i id → b ≡ true → c.heard ≡ with_id e id h → c.newer ≡ not (holds_id i id) → c.start ≡ start_of e →
      c.place ≡ placed s.lat s.lon p.lat p.lon → c.low ≡ bucket_of p.feet → c.bit ≡ aircraft_bit p.address → (l : List ℕ) → hearing_is (Ok c) l ≡ on_site h l s p (epoch_of p.at_ms)
  unfolding counting_is half_before counted_at emptied
  counted_is b c q t k_is n_is st_is pl_is lowIs bitIs l = rw (← id_is, ← even_is, ← held_is, sym q ∙ t, k_is, n_is, st_is, pl_is, lowIs, bitIs, swap)
    where
      swap : {A : Type 0} (c : Bool) (x y : A) → cond (not c) x y ≡ cond c y x
      swap true x y = refl
      swap false x y = refl

pub half_long : (c : Counting) (l : List ℕ) → length (half_before c l) ≡ length l
unfolding half_before
half_long c l = go c.newer
  where
    go : (b : Bool) → length (cond b (sets l c.start (replicate half empty_word)) l) ≡ length l
    go true = length-sets l c.start (replicate half empty_word)
    go false = refl

-- a half lies within a row's cells, and so does a place in it
pub half_room : (c : Counting) (n z : ℕ) → n ≡ width → z ≤ c.start + 1672 → z ≤ n
half_room c n z e h = let f = c.fits in omega (arith, width_is)

pub place_room : (c : Counting) (l l' : List ℕ) → length l ≡ width → l' ≡ half_before c l → c.start + c.place < length l'
place_room c l l' e q = let f = c.fits in omega (arith, ap length q, half_long c l, width_is)

pub counting_is_lem : (c : Counting) (l l' : List ℕ) (v : ℕ) → l' ≡ half_before c l → v ≡ added_word (get_or l' (c.start + c.place) 0) c.low c.bit → set l' (c.start + c.place) v ≡ counting_is c l
unfolding counting_is
counting_is_lem c l l' v q e = rw (e, q)

-- a part that is filled is the definition's list of writes (`sets-eq`)
pub filled : (xs ys : List ℕ) (a z n w : ℕ) → z ≡ a + n → z ≤ length xs → ys ≡ replicate (length (take (z - a) (drop a xs))) w → take a xs ++ (ys ++ drop (z - a) (drop a xs)) ≡ sets xs a (replicate n w)
filled xs ys a z n w e l h =
    let k : z - a ≡ n = omega (arith, e) in
    let m : length (take (z - a) (drop a xs)) ≡ n = simp (length-take, length-drop) (omega arith) in
    let r : length (replicate n w) ≡ n = length-replicate n w in
    rw (h, m, k, sets-eq (replicate n w) xs a (rw r (omega arith)), r) (sym (append_assoc (take a xs) (replicate n w) (drop (a + n) xs) ∙ ap (λ (t : List ℕ). take a xs ++ (replicate n w ++ t)) (sym (drop-drop n a xs))))

-- a half emptied, or not
pub half_emptied : (c : Counting) (l ys : List ℕ) → length l ≡ width → c.newer ≡ true → ys ≡ replicate (length (take (c.start + 1672 - c.start) (drop c.start l))) empty_word →
    take c.start l ++ (ys ++ drop (c.start + 1672 - c.start) (drop c.start l)) ≡ half_before c l
unfolding half_before
half_emptied c l ys e t h = rw (t, half_is) (filled l ys c.start (c.start + 1672) 1672 empty_word refl (half_room c (length l) (c.start + 1672) e (omega arith)) h)

pub half_kept : (c : Counting) (l : List ℕ) → c.newer ≡ false → l ≡ half_before c l
unfolding half_before
half_kept c l e = rw e
