-- The watch answers as the list of Order: each call gets the same answer and the watch stands for the list again (`step_agrees`), so every list of
-- calls gets the same answers (`histories`).
use Rattle.std.specs.Prelude.{Option, None, Some}
use mathlib.Core.Path.{◌≡◌, refl, sym, ap, ap₂, ◌∙◌, subst}
use Prim.Native.Nat.{ℕ, ◌≤◌, ◌<◌}
use native.Mathlib.Omega.{arith}
use mathlib.Core.List.{List, [], ◌∷◌, ◌++◌}
use lib.ListN.{length}
use Rattle.table.specs.Machine.{Key, Kind, enters, uses, looks, leaves, Outcome, refuse, accept, Call, Answer, said, Step, Event, history}
use Rattle.table.specs.Rows.{NONE, Watch, row_at}
use Rattle.table.specs.Questions.{most, find_row}
use Rattle.table.specs.Watch.{Body, fresh_body, body_at, make_room, Rowed, rowed_machine, kept_row, on_row, on_none, located, watch_step}
use Rattle.table.proofs.Numbers.{first}
use Rattle.table.proofs.Order.{Entry, find, without, replaced, room, changed, held_call, new_call, table_step}
use Rattle.table.proofs.Entries.{entries, At, Located, absent, present, locate}
use Rattle.table.proofs.Cells.{cells_length}
use Rattle.table.proofs.Rep.{FormLaws, Fine, Rep, RepAny, row_below, marked_row, looked_row, left_row, roomy, take_rep, question_one_yes, question_two_yes}

-- What a receiver's calls owe: its form's laws, and that the parts they leave stay sound and a row's cells as many.
pub record Lawful {Act Out : Type 0} (R : Rowed Act Out) : Type 0 where
  pub form_laws : FormLaws R.form
  pub keeps : (k : Key) (s : Body R.Part) (a : Act) (s' : Body R.Part) (o : Out) → R.act k s a ≡ accept s' o → Fine R.form s → Fine R.form s'

-- ONE CALL
module _ {Act Out : Type 0} (kind : Act → Kind) (R : Rowed Act Out) (law : Lawful R) (C : ℕ) (one : 1 ≤ C) (most? : C ≤ most) where
  abbrev pub Table : Type 0
  Table = List (Entry (Body R.Part))

  abbrev pub Stands : Watch R.Part → Table → Type 0
  Stands w t = RepAny R.form C w t

  -- both answer the same and the watch stands for the table again
  abbrev pub Agree : Step (Watch R.Part) Out → Step Table Out → Type 0
  Agree x y = (x.answer ≡ y.answer) × Stands x.next y.next

  abbrev Reps : Watch R.Part → Table → List ℕ → List ℕ → Type 0
  Reps w t used free = Rep R.form C w t used free

  new_step : (w : Watch R.Part) (t : Table) (used free : List ℕ) → Reps w t used free → (k : Key) (κ : Kind) (r : Outcome (Body R.Part) Out) →
      ((s : Body R.Part) (o : Out) → r ≡ accept s o → Fine R.form s) →
      Agree (on_none kind R w k κ r) (new_call kind (rowed_machine R) C t k κ r)
  new_step w t used free v k enters (refuse n) f = (refl, (used, free, v))
  new_step w t used free v k enters (accept s o) f =
      let x = roomy R.form law.form_laws C one most? w t used free v in
      (ap (λ (p : Option Key). said p o) x.pushes, (x.used ++ x.row ∷ [], x.free, take_rep R.form law.form_laws C one most? (make_room R.form w) (room C t) x.used x.row x.free k s (f s o refl) x.rep))
  new_step w t used free v k uses r f = (refl, (used, free, v))
  new_step w t used free v k looks r f = (refl, (used, free, v))
  new_step w t used free v k leaves r f = (refl, (used, free, v))

  held_step : (w : Watch R.Part) (t : Table) (used free : List ℕ) → Reps w t used free → (n : ℕ) (k : Key) (a : At R.form w n k used) (κ : Kind) (r : Outcome (Body R.Part) Out) →
      ((s : Body R.Part) (o : Out) → r ≡ accept s o → Fine R.form s) →
      Agree (on_row kind R w a.row k κ r) (held_call kind (rowed_machine R) C t k κ r)
  held_step w t used free v n k a κ (refuse m) f = (refl, (used, free, v))
  held_step w t used free v n k a κ (accept s o) f = (refl, go κ)
    where
      v' : Reps w t (a.pre ++ a.row ∷ a.post) free
      v' = subst (λ (l : List ℕ). Reps w t l free) a.splits v

      rest' : without k t ≡ entries R.form w (a.pre ++ a.post)
      rest' = ap (λ (x : Table). without k x) (sym v.table) ∙ a.rest

      puts' : (x : Body R.Part) → replaced k x t ≡ entries R.form w a.pre ++ (record { key = (row_at R.form.unmade w.rows a.row).key; state = x } ∷ entries R.form w a.post)
      puts' x = ap (λ (y : Table). replaced k x y) (sym v.table) ∙ a.puts x

      go : (κ : Kind) → Stands (kept_row kind R κ w a.row k s) (changed kind (rowed_machine R) C κ t k s)
      go enters = marked_row R.form law.form_laws C one most? w t a.pre a.row a.post free v' k a.key_is rest' puts' s (f s o refl)
      go uses = marked_row R.form law.form_laws C one most? w t a.pre a.row a.post free v' k a.key_is rest' puts' s (f s o refl)
      go looks = looked_row R.form law.form_laws C one most? w t a.pre a.row a.post free v' k a.key_is rest' puts' s (f s o refl)
      go leaves = left_row R.form law.form_laws C one most? w t a.pre a.row a.post free v' k a.key_is rest' puts'

  -- a call of the list
  pub step_agrees : (w : Watch R.Part) (t : Table) (c : Call Act) → Stands w t → Agree (watch_step kind R w c) (table_step kind (rowed_machine R) C t c)
  step_agrees w t c st =
      rw (question_one_yes R.form law.form_laws C one most? w t used free v, question_two_yes R.form law.form_laws C one most? w t used free v)
      (subst (λ (q : ℕ). Agree (located kind R w c.key c.act (find_row R.form.unmade w.rows (length w.rows) c.key q)) (table_step kind (rowed_machine R) C t c)) (sym v.chained.head_is) (go (locate R.form w (length w.rows) c.key used NONE v.chained.small (omega (arith, v.count, v.rows_long)) v.chained.linked)))
    where
      used : List ℕ
      used = st.0

      free : List ℕ
      free = st.1

      v : Reps w t used free
      v = st.2

      go : Located R.form w (length w.rows) c.key used →
          Agree (located kind R w c.key c.act (find_row R.form.unmade w.rows (length w.rows) c.key (first used NONE))) (table_step kind (rowed_machine R) C t c)
      go (absent e g) =
          let f : find c.key t ≡ None = ap (λ (x : Table). find c.key x) (sym v.table) ∙ g in
          rw (e, f) (new_step w t used free v c.key (kind c.act) (R.act c.key (fresh_body R.form) c.act)
          (λ s o q. law.keeps c.key (fresh_body R.form) c.act s o q (record { sound_part = law.form_laws.unmade_sound; wide = law.form_laws.blank_wide })))
      go (present a) =
          let f : find c.key t ≡ Some (body_at R.form w a.row) = ap (λ (x : Table). find c.key x) (sym v.table) ∙ a.finds in
          let v' : Reps w t (a.pre ++ a.row ∷ a.post) free = subst (λ (l : List ℕ). Reps w t l free) a.splits v in
          let below : a.row < C = row_below R.form law.form_laws C one most? w t a.pre a.row a.post free v' in
          rw (a.search, f) (held_step w t used free v (length w.rows) c.key a (kind c.act) (R.act c.key (body_at R.form w a.row) c.act)
          (λ s o q. law.keeps c.key (body_at R.form w a.row) c.act s o q (record { sound_part = v.sound_at a.row; wide = cells_length R.form.width a.row C w.cells v.cells_long below })))

  -- THE WHOLE LIST: the same calls get the same answers
  pub histories : (w : Watch R.Part) (t : Table) (cs : List (Call Act)) → Stands w t → history (watch_step kind R) w cs ≡ history (table_step kind (rowed_machine R) C) t cs
  histories w t [] st = refl
  histories w t (c ∷ cs) st =
      let a = step_agrees w t c st in
      ap₂ {C = List (Event Act Out)} (λ (x : Answer Out) (l : List (Event Act Out)). record { call = c; answer = x } ∷ l) a.0 (histories (watch_step kind R w c).next (table_step kind (rowed_machine R) C t c).next cs a.1)
