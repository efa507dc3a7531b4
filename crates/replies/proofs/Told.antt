-- A call's equation, what it leaves and its answer's numbers are what is told of it.
use mathlib.Core.Path.{◌≡◌, ap, ap₂, subst, ◌∙◌}
use Prim.Native.Nat.{ℕ}
use mathlib.Core.List.{List}
use Rattle.table.specs.Machine.{Key, Step, Answer}
use Rattle.table.specs.Rows.{Watch}
use Rattle.receiver.specs.declared.Part.{Part}
use Rattle.receiver.specs.Calls.{Act, Out, call_on}
use Rattle.flat.specs.Table.{rows_of, Left}
use Rattle.moves.specs.Answers as A
use Rattle.moves.specs.Answers.{answer_is, outcome}
use Rattle.replies.specs.Replies.{answer_words, Told}

pub told : (r : A.Answer) (answer before after ys ws : List ℕ) (s t : Step (Watch Part) Out) → answer ≡ answer_words (answer_is r) → (outcome r (rows_of after) ys ws ≡ s) × Left (answer_is r) before after → s ≡ t → Told answer before after ys ws t
unfolding Told
told r answer before after ys ws s t a c e =
    let o = c.0 ∙ e in (
      a ∙ ap (λ (x : Step (Watch Part) Out). answer_words x.answer) o,
      ap (λ (x : Step (Watch Part) Out). x.next) o,
      subst (λ (x : Answer Out). Left x before after) (ap (λ (x : Step (Watch Part) Out). x.answer) o) c.1,
    )

-- of a call with a key, both as they were made up
pub told_call : (r : A.Answer) (answer before after ys ws : List ℕ) (w : Watch Part) (j k : Key) (a b : Act) → answer ≡ answer_words (answer_is r) → (outcome r (rows_of after) ys ws ≡ call_on w j a) × Left (answer_is r) before after → j ≡ k → a ≡ b → Told answer before after ys ws (call_on w k b)
told_call r answer before after ys ws w j k a b t c p q = told r answer before after ys ws (call_on w j a) (call_on w k b) t c (ap₂ {C = Step (Watch Part) Out} (λ x y. call_on w x y) p q)
