-- DEMAND 3, PROVED: `promise`. The watch answers a list of calls as the table in the order of use does (crate `table`, `histories`); the table answers a protected key as its row
-- alone (Lru); a row alone answers as its card (Cards). A check after the list is one call more, and what a card says of it is read off its run (Runs).
use Rattle.std.specs.Prelude.{Option, None, Some}
use mathlib.Core.Path.{◌≡◌, refl, sym, ap, ◌∙◌, subst, fun_ext}
use mathlib.Core.Logic.{◌↔◌}
use Prim.Native.Nat.{ℕ, ◌≤◌}
use native.Mathlib.Omega.{arith}
use mathlib.Core.Bool.{Bool, true, false}
use mathlib.Core.List.{List, [], ◌∷◌, ◌++◌, append_cancel_left, head-eq_of_cons-eq}
use Rattle.table.specs.Machine.{Key, same, Call, Answer, said, Step, Event, history, after}
use Rattle.table.specs.Questions.{most}
use Rattle.table.specs.Watch.{rowed_machine, fresh_watch, watch_step}
use Rattle.table.proofs.Tests.{by_bool, clash}
use Rattle.table.proofs.Keys.{same_refl}
use Rattle.table.proofs.Order.{table_step}
use Rattle.table.proofs.Refine.{histories}
use Rattle.table.proofs.Made.{up_from, fresh_rep}
use Rattle.near_field.specs.declared.Judgment.{Judgment}
use Rattle.near_field.specs.declared.Judgment.TheVariants.{Unjudged, Fits, Wrong}
use Rattle.verdicts.specs.declared.CheckState.TheVariants as Says
use Rattle.receiver.specs.Calls.{Act, claim, position, judging, check, take_out, Out, says, kind, siting, call_on}
use Rattle.receiver.proofs.Keeps.{lawful}
use Rattle.protection.specs.Marks.{calls_of, own, answers_to, Since, marking, since, Protected}
use Rattle.protection.specs.Run.{Run, HeldWrong, held, last_wrong, plain, says_of}
use Rattle.protection.specs.Card.{Card, card_checked, card_step, card_answers, card_after}
use Rattle.protection.specs.Promise.{marks_key, told, watch_after, Safe, Answers, Checks, Promise}
use Rattle.protection.proofs.Alone.{marks}
use Rattle.protection.proofs.Lru.{table_promise}
use Rattle.protection.proofs.Runs.{held_means, means_held}
use Rattle.protection.proofs.Cards.{card_answers_lem, row_is_card}

-- THE ANSWERS
pub most_is : {C : ℕ} → C ≤ 4096 → C ≤ most
unfolding most
most_is h = h

pub marks_are : (a : Act) → marks_key a ≡ marks (kind a)
marks_are (claim c) = refl
marks_are (position p) = refl
marks_are (judging now aircraft) = refl
marks_are check = refl
marks_are take_out = refl

-- the watch answers every list of calls as the table does
pub told_is_table : (C : ℕ) → 1 ≤ C → C ≤ 4096 → (calls : List (Call Act)) → told C calls ≡ history (table_step kind (rowed_machine siting) C) [] calls
told_is_table C one m calls = histories kind siting lawful C one (most_is m) (fresh_watch siting.form C) [] calls ([], up_from 0 C, fresh_rep siting.form lawful.form_laws C one (most_is m))

answers : Answers
answers C one m k calls p =
    let e = told_is_table C one m calls in
    let q : Protected (λ a. marks (kind a)) C k None (told C calls) = subst (λ (f : Act → Bool). Protected f C k None (told C calls)) (fun_ext marks_are) p in
    ap (λ (h : List (Event Act Out)). answers_to k h) e
    ∙ table_promise kind (rowed_machine siting) C one k calls (subst (λ (h : List (Event Act Out)). Protected (λ a. marks (kind a)) C k None h) e q)
    ∙ row_is_card k (calls_of k calls)
    ∙ sym (card_answers_lem k None (calls_of k calls))

-- A LIST OF CALLS AND ONE MORE
history_last : {W Act Out : Type 0} (step : W → Call Act → Step W Out) (w : W) (cs : List (Call Act)) (c : Call Act) →
    history step w (cs ++ (c ∷ [])) ≡ history step w cs ++ (record { call = c; answer = (step (after step w cs) c).answer } ∷ [])
history_last step w [] c = refl
history_last {Act = Act} {Out = Out} step w (x ∷ cs) c = ap {B = List (Event Act Out)} (λ l. record { call = x; answer = (step w x).answer } ∷ l) (history_last step (step w x).next cs c)

answers_last : {Act Out : Type 0} (k : Key) (l : List (Event Act Out)) (e : Event Act Out) → same k e.call.key ≡ true → answers_to k (l ++ (e ∷ [])) ≡ answers_to k l ++ (own e.answer ∷ [])
answers_last k [] e h = rw h
answers_last {Out = Out} k (x ∷ l) e h =
    by_bool (same k x.call.key) (λ p. rw p (ap {B = List (Answer Out)} (λ r. own x.answer ∷ r) (answers_last k l e h))) (λ p. rw p (answers_last k l e h))

calls_last : {Act : Type 0} (k : Key) (l : List (Call Act)) (c : Call Act) → same k c.key ≡ true → calls_of k (l ++ (c ∷ [])) ≡ calls_of k l ++ (c.act ∷ [])
calls_last k [] c h = rw h
calls_last {Act} k (x ∷ l) c h =
    by_bool (same k x.key) (λ p. rw p (ap {B = List Act} (λ r. x.act ∷ r) (calls_last k l c h))) (λ p. rw p (calls_last k l c h))

card_last : (k : Key) (m : Option Card) (l : List Act) (a : Act) → card_answers k m (l ++ (a ∷ [])) ≡ card_answers k m l ++ ((card_step k (card_after k m l) a).answer ∷ [])
card_last k m [] a = refl
card_last k m (x ∷ l) a = ap {B = List (Answer Out)} (λ r. (card_step k m x).answer ∷ r) (card_last k (card_step k m x).next l a)

protected_last : {Act Out : Type 0} (marks : Act → Bool) (C : ℕ) (k : Key) (s : Since) (l : List (Event Act Out)) (e : Event Act Out) → marking marks e ≡ false → Protected marks C k s l → Protected marks C k s (l ++ (e ∷ []))
protected_last marks C k s [] e n p = (p, rw n p)
protected_last marks C k s (x ∷ l) e n p = (p.0, protected_last marks C k (since marks k s x) l e n p.1)

-- WHAT A CARD'S ANSWER TO A CHECK MEANS
plain_not : (j : Judgment) (d : ℕ) → plain j ≡ Says.Wrong d → ⊥
plain_not (Wrong x e) d p = let z : ◌≡◌ {A = ℕ} 0 1 = cc in omega arith
plain_not Fits d p = let z : ◌≡◌ {A = ℕ} 0 1 = cc in omega arith
plain_not Unjudged d p = let z : ◌≡◌ {A = ℕ} 0 1 = cc in omega arith

run_means : (c : Card) (d : ℕ) (r : Run) → ((card_checked c r).answer ≡ said None (says (Says.Wrong d))) ↔ (HeldWrong r × (d ≡ last_wrong r))
run_means c d [] = ((λ e. let z : ◌≡◌ {A = ℕ} 0 1 = cc in absurd (omega arith)), (λ h. clash (means_held [] h.0) refl))
run_means c d (j ∷ r) = (there, back)
  where
    there : (card_checked c (j ∷ r)).answer ≡ said None (says (Says.Wrong d)) → HeldWrong (j ∷ r) × (d ≡ last_wrong (j ∷ r))
    there e =
        let q : says_of j r ≡ Says.Wrong d = cc in
        by_bool (held (j ∷ r))
        (λ p. (held_means (j ∷ r) p, (let x : Says.Wrong (last_wrong (j ∷ r)) ≡ Says.Wrong d = rw p at q in cc)))
        (λ p. absurd (plain_not j d (rw p at q)))

    back : HeldWrong (j ∷ r) × (d ≡ last_wrong (j ∷ r)) → (card_checked c (j ∷ r)).answer ≡ said None (says (Says.Wrong d))
    back h = rw (means_held (j ∷ r) h.0, h.1)

card_means : (k : Key) (d : ℕ) (m : Option Card) → ((card_step k m check).answer ≡ said None (says (Says.Wrong d))) ↔ ((c : Card) × (m ≡ Some c) × HeldWrong c.run × (d ≡ last_wrong c.run))
card_means k d None = ((λ e. let z : ◌≡◌ {A = ℕ} 0 1 = cc in absurd (omega arith)), (λ h. let q : Path (Option Card) None (Some h.0) = h.1 in let z : ◌≡◌ {A = ℕ} 0 1 = cc in absurd (omega arith)))
card_means k d (Some c) = (
  (λ e. let h = (run_means c d c.run).0 e in (c, refl, h.0, h.1)),
  (λ h. let q : c ≡ h.0 = (let p : Path (Option Card) (Some c) (Some h.0) = h.1 in cc) in
      (run_means c d c.run).1 (subst (λ (x : Card). HeldWrong x.run × (d ≡ last_wrong x.run)) (sym q) (h.2, h.3))),
)

-- A CHECK AFTER THE LIST is the card's: the answers with it are the card's, and so are those before it
check_is_card : (C : ℕ) → 1 ≤ C → C ≤ 4096 → (k : Key) (calls : List (Call Act)) → Safe C k calls →
    own (call_on (watch_after C calls) k check).answer ≡ (card_step k (card_after k None (calls_of k calls)) check).answer
check_is_card C one m k calls p =
    let c : Call Act = record { key = k; act = check } in
    let e : Event Act Out = record { call = c; answer = (call_on (watch_after C calls) k check).answer } in
    let mine = calls_of k calls in
    let x = own e.answer in
    let y = (card_step k (card_after k None mine) check).answer in
    let long : told C (calls ++ (c ∷ [])) ≡ told C calls ++ (e ∷ []) = history_last (watch_step kind siting) (fresh_watch siting.form C) calls c in
    let whole = answers C one m k (calls ++ (c ∷ [])) (subst (λ (h : List (Event Act Out)). Protected marks_key C k None h) (sym long) (protected_last marks_key C k None (told C calls) e refl p)) in
    let both : answers_to k (told C calls) ++ (x ∷ []) ≡ card_answers k None mine ++ (y ∷ []) =
    sym (ap (λ (h : List (Event Act Out)). answers_to k h) long ∙ answers_last k (told C calls) e (same_refl k)) ∙ whole ∙ ap (λ (l : List Act). card_answers k None l) (calls_last k calls c (same_refl k)) ∙ card_last k None mine check in
    head-eq_of_cons-eq (append_cancel_left (answers_to k (told C calls)) (x ∷ []) (y ∷ []) (both ∙ ap (λ (l : List (Answer Out)). l ++ (y ∷ [])) (sym (answers C one m k calls p))))

checks : Checks
checks C one m k calls p d =
    let now = check_is_card C one m k calls p in
    let means = card_means k d (card_after k None (calls_of k calls)) in
    ((λ e. means.0 (sym now ∙ e)), (λ h. now ∙ means.1 h))

-- DEMAND 3
pub promise : Promise
promise = record { answers = answers; checks = checks }
