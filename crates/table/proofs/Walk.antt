-- The test that code runs, one walk along each chain, is question 2 (`walk_is_question`). What the walks find is two lists along the links after; they
-- are apart as their last rows differ, and together they are all rows as there are C.
use mathlib.Core.Path.{◌≡◌, refl, sym, ap, ◌∙◌}
use Prim.Native.Nat.{ℕ, zero, suc, ◌+◌, ◌≤◌}
use native.Mathlib.Omega.{arith}
use mathlib.Core.Bool.{true, not, ◌&&◌, ◌||◌}
use mathlib.Core.List.{List, [], ◌∷◌, ◌++◌}
use lib.Dec.{eqb, ltb}
use lib.ListN.{length, length-append}
use Rattle.table.specs.Rows.{NONE, Row, Watch, Form, row_at}
use Rattle.table.specs.Questions.{question1, last_of, all_sound, question2}
use Rattle.table.specs.Walk.{Walked, broken, ended, chains_fit, walk_used, walk_free, well_formed}
use Rattle.table.proofs.Tests.{by_bool, clash, and_1, and_2, or_cases, or_2, same_test, eqb_yes, eqb_no, eqb_true, ltb_yes, ltb_true}
use Rattle.table.proofs.Numbers.{first, Distinct, AllApart, distinct_append, append_distinct, apart_last, last_apart, below_none}
use Rattle.table.proofs.Linked.{Linked, Freed}
use Rattle.table.proofs.Counts.{Below, numbers_le}
use Rattle.table.proofs.Chains.{linked_freed, freed_below, freed_distinct, freed_apart}
use Rattle.table.proofs.Question2.{Question2, most_none, below_append, sound_rows, rows_sound, question_one, question_two, two_question}

module _ {P : Type 0} (u : P) (rows : List (Row P)) (small : length rows ≤ NONE) where
  walk_used_lem : (l : List ℕ) (f n p : ℕ) → length l ≤ f → Linked u rows p l NONE → walk_used u rows f n p (first l NONE) ≡ ended (n + length l) (last_of p l)
  walk_used_lem [] zero n p s h = rw (eqb_yes NONE NONE refl) (ap (λ (x : ℕ). ended x p) (omega arith))
  walk_used_lem [] (suc f) n p s h = rw (eqb_yes NONE NONE refl) (ap (λ (x : ℕ). ended x p) (omega arith))
  walk_used_lem (i ∷ l) zero n p s h = absurd (omega arith)
  walk_used_lem (i ∷ l) (suc f) n p s h =
      rw (eqb_no i NONE (below_none h.0 small), ltb_yes i (length rows) h.0, eqb_yes (row_at u rows i).prev p h.1, h.2)
      (walk_used_lem l f (suc n) i (omega arith) h.3 ∙ ap (λ (x : ℕ). ended x (last_of i l)) (omega arith))

  walk_free_lem : (l : List ℕ) (f n p : ℕ) → length l ≤ f → Freed u rows l → walk_free u rows f n p (first l NONE) ≡ ended (n + length l) (last_of p l)
  walk_free_lem [] zero n p s h = rw (eqb_yes NONE NONE refl) (ap (λ (x : ℕ). ended x p) (omega arith))
  walk_free_lem [] (suc f) n p s h = rw (eqb_yes NONE NONE refl) (ap (λ (x : ℕ). ended x p) (omega arith))
  walk_free_lem (i ∷ l) zero n p s h = absurd (omega arith)
  walk_free_lem (i ∷ l) (suc f) n p s h =
      rw (eqb_no i NONE (below_none h.0 small), ltb_yes i (length rows) h.0, h.1)
      (walk_free_lem l f (suc n) i (omega arith) h.2 ∙ ap (λ (x : ℕ). ended x (last_of i l)) (omega arith))

  -- two chains with no row in common do not end in one row
  last_differ : (l m : List ℕ) → Distinct (l ++ m) → (eqb (length l) 0 || (eqb (length m) 0 || not (eqb (last_of NONE l) (last_of NONE m)))) ≡ true
  last_differ [] m d = refl
  last_differ (a ∷ l) [] d = or_2 (eqb (suc (length l)) 0) true refl
  last_differ (a ∷ l) (b ∷ m) d =
      or_2 (eqb (suc (length l)) 0) _ (or_2 (eqb (suc (length m)) 0) _
      (rw (eqb_no (last_of a l) (last_of b m) (apart_last (last_of a l) b m (last_apart a l (b ∷ m) (distinct_append (a ∷ l) (b ∷ m) d).2)))))

  pub chains_fit_lem : (used free : List ℕ) (head tail at : ℕ) → head ≡ first used NONE → tail ≡ last_of NONE used → at ≡ first free NONE →
      Linked u rows NONE used NONE → Freed u rows free → Distinct (used ++ free) → length used + length free ≡ length rows →
      chains_fit (length rows) tail (walk_used u rows (length rows) 0 NONE head) (walk_free u rows (length rows) 0 NONE at) ≡ true
  chains_fit_lem used free head tail at eh et ef hu hf d n =
      rw (eh, ef, walk_used_lem used (length rows) 0 NONE (omega arith) hu, walk_free_lem free (length rows) 0 NONE (omega arith) hf)
      (rw (zero_left (length used), zero_left (length free), eqb_yes (length used + length free) (length rows) n, eqb_yes (last_of NONE used) tail (sym et)) (last_differ used free d))
    where
      zero_left : (x : ℕ) → 0 + x ≡ x
      zero_left x = omega arith

module _ {P : Type 0} (u : P) (rows : List (Row P)) (small : length rows ≤ NONE) where
  -- WHAT A WALK FOUND
  record Found (Holds : List ℕ → Type 0) (p at n m z : ℕ) : Type 0 where
    list : List ℕ
    holds : Holds list
    start : at ≡ first list NONE
    many : m ≡ n + length list
    end : z ≡ last_of p list

  stop : (Holds : List ℕ → Type 0) → Holds [] → (n p at m z : ℕ) → eqb at NONE ≡ true → ended n p ≡ ended m z → Found Holds p at n m z
  stop Holds h n p at m z q e =
      let a : n ≡ m = cc in
      let b : p ≡ z = cc in
      record { list = []; holds = h; start = eqb_true at NONE q; many = omega arith; end = sym b }

  no_walk : {X : Type 0} {m z : ℕ} → broken ≡ ended m z → X
  no_walk e = let q : ◌≡◌ {A = ℕ} 0 1 = cc in absurd (omega arith)

  used_found : (f n p at m z : ℕ) → walk_used u rows f n p at ≡ ended m z → Found (λ l. Linked u rows p l NONE) p at n m z
  used_found zero n p at m z e =
      by_bool (eqb at NONE) (λ q. stop (λ l. Linked u rows p l NONE) tt n p at m z q (rw q at e)) (λ q. no_walk (rw q at e))
  used_found (suc f) n p at m z e =
      by_bool (eqb at NONE) (λ q. stop (λ l. Linked u rows p l NONE) tt n p at m z q (rw q at e))
      (λ q. by_bool (ltb at (length rows) && eqb (row_at u rows at).prev p)
      (λ r. more r (used_found f (suc n) at (row_at u rows at).next m z (rw (q, r) at e)))
      (λ r. no_walk (rw (q, r) at e)))
    where
      more : (ltb at (length rows) && eqb (row_at u rows at).prev p) ≡ true → Found (λ l. Linked u rows at l NONE) at (row_at u rows at).next (suc n) m z → Found (λ l. Linked u rows p l NONE) p at n m z
      more r g = record {
        list = at ∷ g.list;
        holds = (ltb_true at (length rows) (and_1 (ltb at (length rows)) (eqb (row_at u rows at).prev p) r), eqb_true (row_at u rows at).prev p (and_2 (ltb at (length rows)) (eqb (row_at u rows at).prev p) r), g.start, g.holds);
        start = refl;
        many = omega (arith, g.many);
        end = g.end;
      }

  free_found : (f n p at m z : ℕ) → walk_free u rows f n p at ≡ ended m z → Found (Freed u rows) p at n m z
  free_found zero n p at m z e =
      by_bool (eqb at NONE) (λ q. stop (Freed u rows) tt n p at m z q (rw q at e)) (λ q. no_walk (rw q at e))
  free_found (suc f) n p at m z e =
      by_bool (eqb at NONE) (λ q. stop (Freed u rows) tt n p at m z q (rw q at e))
      (λ q. by_bool (ltb at (length rows))
      (λ r. more r (free_found f (suc n) at (row_at u rows at).next m z (rw (q, r) at e)))
      (λ r. no_walk (rw (q, r) at e)))
    where
      more : ltb at (length rows) ≡ true → Found (Freed u rows) at (row_at u rows at).next (suc n) m z → Found (Freed u rows) p at n m z
      more r g = record {
        list = at ∷ g.list;
        holds = (ltb_true at (length rows) r, g.start, g.holds);
        start = refl;
        many = omega (arith, g.many);
        end = g.end;
      }

  both_apart : (l m : List ℕ) → Freed u rows l → Freed u rows m → (eqb (length l) 0 || (eqb (length m) 0 || not (eqb (last_of NONE l) (last_of NONE m)))) ≡ true → AllApart l m
  both_apart [] m h k e = tt
  both_apart (i ∷ l) [] h k e = empty (i ∷ l)
    where
      empty : (x : List ℕ) → AllApart x []
      empty [] = tt
      empty (y ∷ x) = (tt, empty x)
  both_apart (i ∷ l) (j ∷ m) h k e =
      or_cases (eqb (suc (length l)) 0) (eqb (suc (length m)) 0 || not (eqb (last_of i l) (last_of j m))) e
      (λ q. absurd (omega (arith, eqb_true (suc (length l)) 0 q)))
      (λ q. or_cases (eqb (suc (length m)) 0) (not (eqb (last_of i l) (last_of j m))) q
      (λ r. absurd (omega (arith, eqb_true (suc (length m)) 0 r)))
      (λ r. freed_apart u rows small i (i ∷ l) j m h k (λ x. clash r (rw (eqb_yes (last_of i l) (last_of j m) x)))))

module _ {P : Type 0} (F : Form P) (w : Watch P) (small : length w.rows ≤ NONE) where
  finish : (n l m z : ℕ) (la lb : List ℕ) → Linked F.unmade w.rows NONE la NONE → Freed F.unmade w.rows lb → w.ends.head ≡ first la NONE → w.ends.free ≡ first lb NONE →
      n ≡ length la → m ≡ length lb → l ≡ last_of NONE la → z ≡ last_of NONE lb →
      chains_fit (length w.rows) w.ends.tail (ended n l) (ended m z) ≡ true → all_sound F.sound w.rows ≡ true → Question2 F w
  finish n l m z la lb ha hb eh ef na mb ea eb c s =
      let t = eqb l w.ends.tail in
      let o = eqb n 0 || (eqb m 0 || not (eqb l z)) in
      let sum : n + m ≡ length w.rows = eqb_true (n + m) (length w.rows) (and_1 (eqb (n + m) (length w.rows)) (t && o) c) in
      let tail : l ≡ w.ends.tail = eqb_true l w.ends.tail (and_1 t o (and_2 (eqb (n + m) (length w.rows)) (t && o) c)) in
      let last : (eqb (length la) 0 || (eqb (length lb) 0 || not (eqb (last_of NONE la) (last_of NONE lb)))) ≡ true = rw (na, mb, ea, eb) at (and_2 t o (and_2 (eqb (n + m) (length w.rows)) (t && o) c)) in
      let fa = linked_freed F.unmade w.rows small NONE la ha in
      let d : Distinct (la ++ lb) = append_distinct la lb (freed_distinct F.unmade w.rows small la fa) (freed_distinct F.unmade w.rows small lb hb) (both_apart F.unmade w.rows small la lb fa hb last) in
      let below : Below (length w.rows) (la ++ lb) = below_append (length w.rows) la lb (freed_below F.unmade w.rows small la fa) (freed_below F.unmade w.rows small lb hb) in
      record {
        used = la;
        free = lb;
        chained = record { linked = ha; freed = hb; head_is = eh; tail_is = sym tail ∙ ea; free_is = ef; distinct = d; small = small };
        count = omega arith;
        every_row = λ j n q. omega (arith, numbers_le (length w.rows) (j ∷ (la ++ lb)) (q, d) (n, below), length-append la lb);
        sound_at = sound_rows F.unmade F.sound w.rows s;
      }

  walk_means : well_formed F w ≡ true → Question2 F w
  unfolding well_formed
  walk_means h =
      go (walk_used F.unmade w.rows (length w.rows) 0 NONE w.ends.head) (walk_free F.unmade w.rows (length w.rows) 0 NONE w.ends.free) refl refl
      (and_1 (chains_fit (length w.rows) w.ends.tail (walk_used F.unmade w.rows (length w.rows) 0 NONE w.ends.head) (walk_free F.unmade w.rows (length w.rows) 0 NONE w.ends.free)) (all_sound F.sound w.rows) h)
      (and_2 (chains_fit (length w.rows) w.ends.tail (walk_used F.unmade w.rows (length w.rows) 0 NONE w.ends.head) (walk_free F.unmade w.rows (length w.rows) 0 NONE w.ends.free)) (all_sound F.sound w.rows) h)
    where
      go : (a b : Walked) → walk_used F.unmade w.rows (length w.rows) 0 NONE w.ends.head ≡ a → walk_free F.unmade w.rows (length w.rows) 0 NONE w.ends.free ≡ b →
          chains_fit (length w.rows) w.ends.tail a b ≡ true → all_sound F.sound w.rows ≡ true → Question2 F w
      go broken b e f c s = clash c refl
      go (ended n l) broken e f c s = clash c refl
      go (ended n l) (ended m z) e f c s =
          let a = used_found F.unmade w.rows small (length w.rows) 0 NONE w.ends.head n l e in
          let b = free_found F.unmade w.rows small (length w.rows) 0 NONE w.ends.free m z f in
          finish n l m z a.list b.list a.holds b.holds a.start b.start (omega (arith, a.many)) (omega (arith, b.many)) a.end b.end c s

  means_walk : Question2 F w → well_formed F w ≡ true
  unfolding well_formed
  means_walk q =
      let c = q.chained in
      rw (chains_fit_lem F.unmade w.rows small q.used q.free w.ends.head w.ends.tail w.ends.free c.head_is c.tail_is c.free_is c.linked c.freed c.distinct q.count, rows_sound F.unmade F.sound w.rows q.sound_at)

-- THE TEST IS THE QUESTION, where question 1 is answered yes
pub walk_is_question : {P : Type 0} (F : Form P) (w : Watch P) → question1 F w ≡ true → well_formed F w ≡ question2 F w
walk_is_question F w h =
    let small : length w.rows ≤ NONE = omega (arith, (question_one F w h).at_most, most_none) in
    same_test (well_formed F w) (question2 F w) (λ p. two_question F w small (walk_means F w small p)) (λ p. means_walk F w small (question_two F w small p))
