-- What a yes to questions 1 and 2 means: two lists of row numbers that the links run along, each row once in one of them, every row's part sound.
use Rattle.std.specs.Prelude.{Option, None, Some}
use mathlib.Core.Path.{◌≡◌, refl, sym, ap, ◌∙◌}
use Prim.Native.Nat.{ℕ, zero, suc, ◌+◌, ◌*◌, ◌≤◌, ◌<◌}
use native.Mathlib.Omega.{arith}
use mathlib.Core.Bool.{Bool, true, ◌&&◌}
use mathlib.Core.List.{List, [], ◌∷◌, ◌++◌}
use lib.Dec.{eqb, leb, lit≤}
use lib.ListN.{length, length-append}
use Rattle.table.specs.Rows.{NONE, Row, Ends, Watch, Form, chain_of, row_at}
use Rattle.table.specs.Questions.{last_of, chain, back_links, chains_match, in_one, each_in_one, among, all_sound, most, question1, question2}
use Rattle.table.proofs.Tests.{by_bool, clash, and_1, and_2, eqb_yes, eqb_true, leb_true}
use Rattle.table.proofs.Numbers.{first, Apart, Distinct, AllApart, distinct_append, append_distinct, append_apart}
use Rattle.table.proofs.Linked.{Linked, Freed, Chained}
use Rattle.table.proofs.Counts.{Below, numbers_le, numbers_ge, among_apart, apart_among, among_append, among_below, all_apart_by, apart_all, in_one_lem, one_in, one_other, one_either}
use Rattle.table.proofs.Chains.{linked_freed, freed_below, freed_distinct, chain_finds, chain_is_lem, back_links_lem, links_back}

-- QUESTION 1 as facts
pub record Sizes {P : Type 0} (F : Form P) (w : Watch P) : Type 0 where
  pub some_row : 1 ≤ length w.rows
  pub at_most : length w.rows ≤ most
  pub cells : length w.cells ≡ F.width * length w.rows

pub question_one : {P : Type 0} (F : Form P) (w : Watch P) → question1 F w ≡ true → Sizes F w
unfolding question1
question_one F w h =
    let a = leb 1 (length w.rows) in
    let b = leb (length w.rows) most in
    let c = eqb (length w.cells) (F.width * length w.rows) in
    record {
      some_row = leb_true 1 (length w.rows) (and_1 a (b && c) h);
      at_most = leb_true (length w.rows) most (and_1 b c (and_2 a (b && c) h));
      cells = eqb_true (length w.cells) (F.width * length w.rows) (and_2 b c (and_2 a (b && c) h));
    }

pub most_none : most ≤ NONE
unfolding most NONE
most_none = lit≤ tt

-- QUESTION 2 as facts
pub record Question2 {P : Type 0} (F : Form P) (w : Watch P) : Type 0 where
  pub used : List ℕ
  pub free : List ℕ
  pub chained : Chained F.unmade (chain_of w) used free
  pub count : length used + length free ≡ length w.rows
  pub every_row : (j : ℕ) → j < length w.rows → Apart j (used ++ free) → ⊥
  pub sound_at : (j : ℕ) → j < length w.rows → F.sound (row_at F.unmade w.rows j).part ≡ true

pub below_append : (C : ℕ) (l m : List ℕ) → Below C l → Below C m → Below C (l ++ m)
below_append C [] m a b = b
below_append C (i ∷ l) m a b = (a.0, below_append C l m a.1 b)

-- every row's part is sound: the test and the fact
pub sound_rows : {P : Type 0} (u : P) (sound : P → Bool) (rows : List (Row P)) → all_sound sound rows ≡ true → (j : ℕ) → j < length rows → sound (row_at u rows j).part ≡ true
sound_rows u sound [] h j n = absurd (omega arith)
sound_rows u sound (r ∷ rows) h zero n = and_1 (sound r.part) (all_sound sound rows) h
sound_rows u sound (r ∷ rows) h (suc j) n = sound_rows u sound rows (and_2 (sound r.part) (all_sound sound rows) h) j (omega arith)

pub rows_sound : {P : Type 0} (u : P) (sound : P → Bool) (rows : List (Row P)) → ((j : ℕ) → j < length rows → sound (row_at u rows j).part ≡ true) → all_sound sound rows ≡ true
rows_sound u sound [] h = refl
rows_sound u sound (r ∷ rows) h = rw (h 0 (omega arith)) (rows_sound u sound rows (λ j n. h (suc j) (omega arith)))

-- chains that are C rows together leave none out
pub every_row_lem : {P : Type 0} (u : P) (rows : List (Row P)) (used free : List ℕ) {e : Ends} → Chained u (record { rows = rows; ends = e }) used free → length used + length free ≡ length rows → (j : ℕ) → j < length rows → Apart j (used ++ free) → ⊥
every_row_lem u rows used free v n j h a =
    let below : Below (length rows) (used ++ free) = below_append (length rows) used free (freed_below u rows v.small used (linked_freed u rows v.small NONE used v.linked)) (freed_below u rows v.small free v.freed) in
    omega (arith, numbers_le (length rows) (j ∷ (used ++ free)) (a, v.distinct) (h, below), length-append used free)

module _ {P : Type 0} (F : Form P) (w : Watch P) (small : length w.rows ≤ NONE) where
  abbrev C : ℕ
  C = length w.rows

  -- two lists along the links after, each row in exactly one of them, make a yes
  pub made_of : (used free : List ℕ) → Linked F.unmade w.rows NONE used NONE → Freed F.unmade w.rows free → w.ends.head ≡ first used NONE → w.ends.tail ≡ last_of NONE used → w.ends.free ≡ first free NONE →
      ((i : ℕ) → i < C → in_one used free i ≡ true) → all_sound F.sound w.rows ≡ true → Question2 F w
  made_of used free hu hf eh et ef one s =
      let fu = linked_freed F.unmade w.rows small NONE used hu in
      let bu = freed_below F.unmade w.rows small used fu in
      let bf = freed_below F.unmade w.rows small free hf in
      let apart : AllApart used free = all_apart_by used free (λ i e. among_apart i free (one_other (among i used) (among i free) (one i (among_below C i used bu e)) e)) in
      let d : Distinct (used ++ free) = append_distinct used free (freed_distinct F.unmade w.rows small used fu) (freed_distinct F.unmade w.rows small free hf) apart in
      let every : (i : ℕ) → i < C → among i (used ++ free) ≡ true = (λ i n. among_append i used free ∙ one_either (among i used) (among i free) (one i n)) in
      record {
        used = used;
        free = free;
        chained = record { linked = hu; freed = hf; head_is = eh; tail_is = et; free_is = ef; distinct = d; small = small };
        count = omega (arith, length-append used free, numbers_le C (used ++ free) d (below_append C used free bu bf), numbers_ge C (used ++ free) every);
        every_row = λ j n a. clash (every j n) (apart_among j (used ++ free) a);
        sound_at = sound_rows F.unmade F.sound w.rows s;
      }

  match_facts : (used free : Option (List ℕ)) → chain F.unmade w.rows C w.ends.head ≡ used → chain F.unmade w.rows C w.ends.free ≡ free → chains_match F.unmade w used free ≡ true → all_sound F.sound w.rows ≡ true → Question2 F w
  match_facts None free e f m s = clash m refl
  match_facts (Some used) None e f m s = clash m refl
  match_facts (Some used) (Some free) e f m s =
      let a = each_in_one used free C in
      let b = back_links F.unmade w.rows NONE used in
      let t = eqb (last_of NONE used) w.ends.tail in
      let x = chain_finds F.unmade w.rows small C w.ends.head used e in
      let y = chain_finds F.unmade w.rows small C w.ends.free free f in
      let r : (b && t) ≡ true = and_2 a (b && t) m in
      made_of used free (links_back F.unmade w.rows small NONE used x.0 (and_1 b t r)) y.0 x.1 (sym (eqb_true (last_of NONE used) w.ends.tail (and_2 b t r))) y.1
      (in_one_lem used free C (and_1 a (b && t) m)) s

  -- the question is answered yes
  pub question_two : question2 F w ≡ true → Question2 F w
  unfolding question2
  question_two h =
      let u = chain F.unmade w.rows C w.ends.head in
      let f = chain F.unmade w.rows C w.ends.free in
      match_facts u f refl refl (and_1 (chains_match F.unmade w u f) (all_sound F.sound w.rows) h) (and_2 (chains_match F.unmade w u f) (all_sound F.sound w.rows) h)

  -- and the other way round
  pub two_question : Question2 F w → question2 F w ≡ true
  unfolding question2
  two_question q =
      let c = q.chained in
      let fu = linked_freed F.unmade w.rows small NONE q.used c.linked in
      let apart : AllApart q.used q.free = (distinct_append q.used q.free c.distinct).2 in
      let eu : chain F.unmade w.rows C w.ends.head ≡ Some q.used = ap (λ (x : ℕ). chain F.unmade w.rows C x) c.head_is ∙ chain_is_lem F.unmade w.rows small q.used C (omega (arith, q.count)) fu in
      let ef : chain F.unmade w.rows C w.ends.free ≡ Some q.free = ap (λ (x : ℕ). chain F.unmade w.rows C x) c.free_is ∙ chain_is_lem F.unmade w.rows small q.free C (omega (arith, q.count)) c.freed in
      rw (eu, ef, one_in q.used q.free C (λ i n. in_just i n apart), back_links_lem F.unmade w.rows small NONE q.used c.linked, eqb_yes (last_of NONE q.used) w.ends.tail (sym c.tail_is), rows_sound F.unmade F.sound w.rows q.sound_at)
    where
      in_just : (i : ℕ) → i < C → AllApart q.used q.free → in_one q.used q.free i ≡ true
      in_just i n a =
          by_bool (among i q.used)
          (λ p. rw (p, apart_among i q.free (apart_all i q.used q.free a p)))
          (λ p. rw p (by_bool (among i q.free) (λ x. x) (λ x. absurd (q.every_row i n (append_apart i q.used q.free (among_apart i q.used p) (among_apart i q.free x))))))
