-- The facts of specs/Facts: a watch that passes questions 1 and 2 passes them again after every call (crate `table`, `passes_again`), and a fresh one passes; a row is pushed
-- out as the table's entry is (Pushed).
use Rattle.std.specs.Prelude.{None}
use mathlib.Core.Path.{◌≡◌, sym, subst, fun_ext}
use Prim.Native.Nat.{ℕ, ◌≤◌}
use mathlib.Core.Bool.{Bool, true}
use mathlib.Core.List.{List, [], ◌∷◌}
use lib.ListN.{length}
use Rattle.table.specs.Machine.{Event}
use Rattle.table.specs.Rows.{Watch}
use Rattle.table.specs.Questions.{most, question1, question2}
use Rattle.table.specs.Watch.{rowed_machine, fresh_watch}
use Rattle.table.proofs.Question2.{question_one}
use Rattle.table.proofs.Rep.{question_one_yes, question_two_yes}
use Rattle.table.proofs.Made.{up_from, fresh_rep}
use Rattle.table.proofs.Safe.{passes_again, drop_passes}
use Rattle.receiver.specs.declared.Part.{Part}
use Rattle.receiver.specs.Calls.{Act, Out, kind, freed, siting}
use Rattle.receiver.proofs.Keeps.{lawful}
use Rattle.protection.specs.Marks.{Stays}
use Rattle.protection.specs.Promise.{told}
use Rattle.protection.specs.Facts.{AnyCall, with_key, fresh, dropping, any_step, any_after, NeverNo, NotPushedOut}
use Rattle.protection.proofs.Alone.{marks}
use Rattle.protection.proofs.Pushed.{stays}
use Rattle.protection.proofs.Promised.{most_is, marks_are, told_is_table}

abbrev Passes : Watch Part → Type 0
Passes w = (question1 siting.form w ≡ true) × (question2 siting.form w ≡ true)

fresh_passes : (C : ℕ) → 1 ≤ C → C ≤ most → Passes (fresh_watch siting.form C)
fresh_passes C one m =
    let r = fresh_rep siting.form lawful.form_laws C one m in
    (question_one_yes siting.form lawful.form_laws C one m (fresh_watch siting.form C) [] [] (up_from 0 C) r, question_two_yes siting.form lawful.form_laws C one m (fresh_watch siting.form C) [] [] (up_from 0 C) r)

step_passes : (w : Watch Part) (c : AnyCall) → Passes w → Passes (any_step w c).next
step_passes w (with_key c) p = passes_again kind siting lawful w p.0 p.1 c
step_passes w dropping p = drop_passes kind siting lawful w p.0 p.1 freed
step_passes w fresh p = let s = question_one siting.form w p.0 in rw p.0 (fresh_passes (length w.rows) s.some_row s.at_most)

all_pass : (w : Watch Part) (calls : List AnyCall) → Passes w → Passes (any_after w calls)
all_pass w [] p = p
all_pass w (c ∷ cs) p = all_pass (any_step w c).next cs (step_passes w c p)

pub never_no : NeverNo
never_no C one m calls = all_pass (fresh_watch siting.form C) calls (fresh_passes C one (most_is m))

pub not_pushed_out : NotPushedOut
not_pushed_out C one m k calls =
    subst (λ (f : Act → Bool). Stays f C k None (told C calls)) (sym (fun_ext marks_are))
    (subst (λ (h : List (Event Act Out)). Stays (λ a. marks (kind a)) C k None h) (sym (told_is_table C one m calls)) (stays kind (rowed_machine siting) C one k calls))
