-- Every row number is named within a round. Ticks that follow one another name what one tick of all their rows would (`in_a_row`), and so many ticks of k are
-- C rows or more (`enough`).
use mathlib.Core.Path.{◌≡◌, refl, sym, ap, ◌∙◌, subst}
use Prim.Native.Nat.{ℕ, zero, suc, ◌+◌, ◌*◌, ◌/◌, ◌%◌, ◌≤◌, ◌<◌}
use native.Mathlib.Omega.{arith}
use native.Mathlib.Nat.{div-add-mod', mod-lt, zero-mul}
use mathlib.Core.Bool.{true, ◌&&◌}
use mathlib.Core.List.{List, ◌++◌}
use lib.Dec.{eqb, leb}
use lib.ListN.{length}
use Rattle.table.specs.Rows.{Watch, Form}
use Rattle.table.specs.Questions.{question1, question2, among}
use Rattle.table.proofs.Tests.{by_bool, and_1, and_2, eqb_true, leb_true}
use Rattle.turns.specs.Turn.{gave, start_of, named, named_by, next_of, holds, question8, turn_on}
use Rattle.std.specs.Prelude.{Result, Err}
use Rattle.table.specs.declared.Refusal.{Refusal}
use Rattle.rows.proofs.Passed.{no_ok, one_ok}
use Rattle.turns.specs.declared.Turned.{Turned}
use Rattle.turns.specs.Round.{Ticks, over, tick, ticks_of, EveryRowNamed}
use Rattle.turns.proofs.Numbers.{onward, onward_is, start_below, start_is, named_more, all_named}

-- A TICK THAT IS ACCEPTED
refused_named : {X : Type 0} {r : Refusal} {count answered : ℕ} → ◌≡◌ {A = Result Turned Refusal} (Err r) (gave count answered) → X
refused_named e = no_ok (sym e)

record Accepted (C k next answered : ℕ) : Type 0 where
  from_one : 1 ≤ k
  to_all : k ≤ C
  next_is : next_of C next k ≡ answered

accepted : {P : Type 0} (F : Form P) (w : Watch P) (next k count answered : ℕ) (list : List ℕ) → (turn_on F w next k list).answer ≡ gave count answered → Accepted (length w.rows) k next answered
unfolding question8
accepted F w next k count answered list e =
    by_bool (question1 F w)
    (λ p. by_bool (question2 F w)
    (λ q. by_bool (question8 C k list)
    (λ r. record {
      from_one = leb_true 1 k (and_1 (leb 1 k) (leb k C) (and_1 (leb 1 k && leb k C) (leb k (holds list)) r));
      to_all = leb_true k C (and_2 (leb 1 k) (leb k C) (and_1 (leb 1 k && leb k C) (leb k (holds list)) r));
      next_is = numbers (rw (p, q, r) at e);
    })
    (λ r. refused_named (rw (p, q, r) at e)))
    (λ q. refused_named (rw (p, q) at e)))
    (λ p. refused_named (rw p at e))
  where
    C : ℕ
    C = length w.rows

    numbers : {m : ℕ} → gave m (next_of C next k) ≡ gave count answered → next_of C next k ≡ answered
    numbers h = ap (λ (t : Turned). t.next) (one_ok h)

module _ {P : Type 0} (F : Form P) (C k : ℕ) where
  -- TICKS IN A ROW
  in_a_row : {next n : ℕ} {rows : List ℕ} → Ticks F C k next n rows → rows ≡ named_by C next (n * k)
  in_a_row (over {next = next}) = ap (named_by C next) (sym (zero-mul k))
  in_a_row (tick {next = next} {count = count} {answered = answered} {n = n} {rows = rows} w list long said rest) =
      let a : Accepted C k next answered = subst (λ (m : ℕ). Accepted m k next answered) long (accepted F w next k count answered list said) in
      let h : start_of C next < C = start_below C next (omega (arith, a.from_one, a.to_all)) in
      let reach : onward C k (start_of C next) ≡ start_of C answered = onward_is C k (start_of C next) h ∙ a.next_is ∙ sym (start_is C answered (subst (λ (x : ℕ). x < C) a.next_is (mod-lt (start_of C next + k) (omega (arith, h))))) in
      let more : k + n * k ≡ suc n * k = omega arith in
      ap (λ (l : List ℕ). named_by C next k ++ l) (in_a_row rest)
      ∙ ap (λ (s : ℕ). named C (start_of C next) k ++ named C s (n * k)) (sym reach)
      ∙ named_more C k (n * k) (start_of C next)
      ∙ ap (named C (start_of C next)) more

  some_tick : {next n : ℕ} {rows : List ℕ} → Ticks F C k next (suc n) rows → 1 ≤ k
  some_tick (tick {next = next} {count = count} {answered = answered} w list long said rest) = (accepted F w next k count answered list said).from_one

  -- so many ticks of k are C rows or more
  enough : 1 ≤ k → C ≤ ticks_of C k * k
  enough h =
      by_bool (eqb (C % k) 0)
      (λ p. rw p (omega (arith, div-add-mod' C k, eqb_true (C % k) 0 p)))
      (λ p. rw p (omega (arith, div-add-mod' C k, mod-lt C h)))

  no_tick : ticks_of C k ≡ 0 → C ≡ 0
  no_tick e =
      by_bool (eqb (C % k) 0)
      (λ p. let none : C / k ≡ 0 = omega (arith, rw p at e) in omega (arith, div-add-mod' C k, eqb_true (C % k) 0 p, ap (λ (n : ℕ). n * k) none, zero-mul k))
      (λ p. absurd (omega (arith, rw p at e)))

pub every_row_named : EveryRowNamed
every_row_named P F C k next rows ticks i h = go (ticks_of C k) refl ticks
  where
    go : (n : ℕ) → ticks_of C k ≡ n → Ticks F C k next n rows → among i rows ≡ true
    go zero e t = absurd (omega (arith, no_tick F C k e))
    go (suc n) e t =
        subst (λ (l : List ℕ). among i l ≡ true) (sym (in_a_row F C k t))
        (all_named C (suc n * k) (start_of C next) i (start_below C next (omega arith)) h (subst (λ (m : ℕ). C ≤ m * k) e (enough F C k (some_tick F C k t))))
