-- What a call leaves in what is lent. Accepted, it leaves a watch that passes questions 1 and 2 (crate `table`), so every row that is read there passes question 2,
-- and of such rows each form of lending has its law (`chains/Lent.LeftLaws`): words are the rows closed, and nothing else can stand in them.
use mathlib.Core.Path.{◌≡◌, refl, sym, subst}
use Prim.Native.Nat.{ℕ, ◌≤◌}
use native.Mathlib.Omega.{arith}
use mathlib.Core.Bool.{true}
use mathlib.Core.List.{List, [], map}
use lib.ListN.{length, length-map}
use Rattle.table.specs.Machine as M
use Rattle.table.specs.Machine.{refused, said, Step}
use Rattle.table.specs.Rows.{Watch}
use Rattle.table.specs.Questions.{question1, question2, chain, chains_match, all_sound}
use Rattle.table.specs.Watch.{fresh_watch}
use Rattle.table.proofs.Tests.{by_bool, and_2}
use Rattle.table.proofs.Question2.{question_one}
use Rattle.table.proofs.Rep.{question_one_yes, question_two_yes}
use Rattle.table.proofs.Made.{up_from, fresh_rep}
use Rattle.table.proofs.Safe.{passes_again, drop_passes}
use Rattle.receiver.specs.declared.Part.{Part}
use Rattle.receiver.specs.Calls.{Act, Out, generation_is, judgment_is, says, freed, done, kind, siting, fresh_call, drop_oldest, call_on}
use Rattle.receiver.proofs.Keeps.{lawful}
use Rattle.rows.specs.Read.{form, row_is, watch_is}
use Rattle.rows.specs.declared.Row.{Row}
use Rattle.chains.specs.Lent.{LeftLaws}
use Rattle.moves.specs.declared.Word.TheVariants as Wd
use Rattle.moves.specs.Answers.{Answer, answer_is, outcome}
use Rattle.std.specs.Prelude.{Option, None, Ok, Err}
use Rattle.table.specs.Refusals.{number_of}
use Rattle.table.specs.declared.Refusal.{Refusal}

-- A STEP THAT IS ACCEPTED leaves a watch in order
abbrev Passes : Watch Part → Type 0
Passes w = (question1 form w ≡ true) × (question2 form w ≡ true)

abbrev InOrder : M.Answer Out → Watch Part → Type 0
InOrder (refused n) w = Unit {0}
InOrder (said pushed out) w = Passes w

abbrev Keeps : Step (Watch Part) Out → Type 0
Keeps s = InOrder s.answer s.next

in_order_lem : (a : M.Answer Out) (w : Watch Part) → Passes w → InOrder a w
in_order_lem (refused n) w p = tt
in_order_lem (said pushed out) w p = p

call_keeps : (w : Watch Part) (k : M.Key) (a : Act) → Keeps (call_on w k a)
call_keeps w k a =
    by_bool (question1 form w)
    (λ p. by_bool (question2 form w) (λ q. let c : M.Call Act = record { key = k; act = a } in in_order_lem (call_on w k a).answer (call_on w k a).next (passes_again kind siting lawful w p q c)) (λ q. rw (p, q) tt))
    (λ p. rw p tt)

drop_keeps : (w : Watch Part) → Keeps (drop_oldest w)
drop_keeps w =
    by_bool (question1 form w)
    (λ p. by_bool (question2 form w) (λ q. in_order_lem (drop_oldest w).answer (drop_oldest w).next (drop_passes kind siting lawful w p q freed)) (λ q. rw (p, q) tt))
    (λ p. rw p tt)

fresh_keeps : (w : Watch Part) → Keeps (fresh_call w)
fresh_keeps w =
    by_bool (question1 form w)
    (λ p.
    let s = question_one form w p in
    let C = length w.rows in
    let r = fresh_rep form lawful.form_laws C s.some_row s.at_most in
    rw p
    (question_one_yes form lawful.form_laws C s.some_row s.at_most (fresh_watch form C) [] [] (up_from 0 C) r, question_two_yes form lawful.form_laws C s.some_row s.at_most (fresh_watch form C) [] [] (up_from 0 C) r))
    (λ p. rw p tt)

-- question 2 asks of every row's part
rows_sound : (w : Watch Part) → question2 form w ≡ true → all_sound form.sound w.rows ≡ true
unfolding question2
rows_sound w q = and_2 (chains_match form.unmade w (chain form.unmade w.rows (length w.rows) w.ends.head) (chain form.unmade w.rows (length w.rows) w.ends.free)) (all_sound form.sound w.rows) q

-- What a call comes to that leaves these rows
abbrev pub Told : {X : Type 0} → (List X → List Row) → (M.Answer Out → List X → List X → Type 0) → List X → List ℕ → List ℕ → Answer → Step (Watch Part) Out → List X → Type 0
Told rows_in left before ys es r s after = (outcome r (rows_in after) ys es ≡ s) × left (answer_is r) before after

-- WHAT IS LENT, AT EXIT of a call whose answer is r: a refusal changes nothing of it (`u`), and what an accepted call leaves its equation says
module _ {X : Type 0} {rows_in : List X → List Row} {left : M.Answer Out → List X → List X → Type 0} (laws : LeftLaws rows_in left) (before after : List X) (ys es : List ℕ) where
  said_leaves : (p : Option M.Key) (out : Out) (s : Step (Watch Part) Out) → ◌≡◌ {A = Step (Watch Part) Out} (record { next = watch_is (rows_in after) ys es; answer = said p out }) s → Keeps s → left (said p out) before after
  said_leaves p out s o k =
      let w = watch_is (rows_in after) ys es in
      let h : Passes w = subst Keeps (sym o) k in
      let some : 1 ≤ length (map row_is (rows_in after)) = (question_one form w h.0).some_row in
      laws.keeps p out before after (omega (arith, some, length-map (rows_in after) row_is)) (rows_sound w h.1)

  leaves : (r : Answer) → ((x : Refusal) → r ≡ Err x → after ≡ before) → (s : Step (Watch Part) Out) → outcome r (rows_in after) ys es ≡ s → Keeps s → left (answer_is r) before after
  leaves (Err x) u s o k = subst (left (refused (number_of x)) before) (sym (u x refl)) (laws.leaves (number_of x) before)
  leaves (Ok (Wd.Generation g p)) u s o k = said_leaves p (generation_is g) s o k
  leaves (Ok (Wd.Judged j)) u s o k = said_leaves None (judgment_is j) s o k
  leaves (Ok (Wd.Says v)) u s o k = said_leaves None (says v) s o k
  leaves (Ok (Wd.Freed key)) u s o k = said_leaves None (freed key) s o k
  leaves (Ok Wd.Done) u s o k = said_leaves None done s o k

  module _ (r : Answer) (u : (x : Refusal) → r ≡ Err x → after ≡ before) (w : Watch Part) where
    -- a call's equation, and what it leaves
    pub told_call : (k : M.Key) (a : Act) → outcome r (rows_in after) ys es ≡ call_on w k a → (outcome r (rows_in after) ys es ≡ call_on w k a) × left (answer_is r) before after
    told_call k a o = (o, leaves r u (call_on w k a) o (call_keeps w k a))

    pub told_drop : outcome r (rows_in after) ys es ≡ drop_oldest w → (outcome r (rows_in after) ys es ≡ drop_oldest w) × left (answer_is r) before after
    told_drop o = (o, leaves r u (drop_oldest w) o (drop_keeps w))

    pub told_fresh : outcome r (rows_in after) ys es ≡ fresh_call w → (outcome r (rows_in after) ys es ≡ fresh_call w) × left (answer_is r) before after
    told_fresh o = (o, leaves r u (fresh_call w) o (fresh_keeps w))
