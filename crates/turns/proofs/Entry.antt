-- The ways out of `turn`: refused by question 1 or 2, refused by 8, accepted. Facts on lists alone, of rows whose ends were read (`ends_are`) and that were
-- looked at (`seen`).
use Rattle.std.specs.Prelude.{Option, None, Some, Result, Ok}
use mathlib.Core.Path.{◌≡◌, refl, sym, ap, ap₂, ◌∙◌, subst}
use Prim.Native.Nat.{ℕ, ◌*◌, ◌≤◌, ◌<◌}
use native.Mathlib.Omega.{arith}
use native.Mathlib.Nat.{div-add-mod'}
use mathlib.Core.Bool.{Bool, true, false, ◌&&◌}
use mathlib.Core.List.{List, map}
use lib.Dec.{leb}
use lib.ListN.{length, get_or, replicate}
use Rattle.table.specs.Rows.{Watch}
use Rattle.table.specs.Questions.{most, question2, chain, chains_match, all_sound}
use Rattle.table.proofs.Tests.{clash, and_1, and_2, leb_true}
use Rattle.table.proofs.Question2.{question_one}
use Rattle.receiver.specs.declared.Part.{Part}
use Rattle.receiver.specs.Calls.{unmade_part}
use Rattle.scans.specs.declared.Key.{Key}
use Rattle.rows.specs.declared.Row.{Row}
use Rattle.scans.specs.declared.Ends.{Ends}
use Rattle.table.specs.declared.Refusal.{Refusal}
use Rattle.table.specs.declared.Refusal.TheVariants as R
use Rattle.rows.specs.Read.{form, row_is, watch_of, watch_is, looked_in, Looked}
use Rattle.scans.specs.Ends.{ends_of, ends_is}
use Rattle.scans.specs.Scan.{claimable}
use Rattle.rows.proofs.Passed.{Passed}
use Rattle.rows.proofs.Passed as Rows
use Rattle.rows.proofs.Chains.{rows_long_lem}
use Rattle.turns.specs.Turn.{gave, start_of, named_by, named, is_in, is_used, keys_of, written, holds, next_of, question8, refusal, acceptance, turn_on, Tick}
use Rattle.turns.specs.Passes.{mark_all, passed, keys_long}
use Rattle.turns.proofs.Numbers.{onward, start_below, onward_is}
use Rattle.turns.proofs.Passes.{marks_tell, ahead, from_start, all_passed}

record Chained (o : Option (List ℕ)) : Type 0 where
  rows : List ℕ
  is : o ≡ Some rows

chained : (w : Watch Part) (o f : Option (List ℕ)) → chains_match unmade_part w o f ≡ true → Chained o
chained w None f h = clash h refl
chained w (Some l) f h = record { rows = l; is = refl }

used_chain : (w : Watch Part) → question2 form w ≡ true → Chained (chain unmade_part w.rows (length w.rows) w.ends.head)
unfolding question2
used_chain w h =
    let u = chain unmade_part w.rows (length w.rows) w.ends.head in
    let f = chain unmade_part w.rows (length w.rows) w.ends.free in
    chained w u f (and_1 (chains_match unmade_part w u f) (all_sound form.sound w.rows) h)

-- A TICK
module _ (xs : List Row) (ys ws : List ℕ) (e : Ends) (key : Key) (l : Result ℕ Refusal) (ends_are : ends_of e ≡ ends_is ws) (seen : Looked xs (length ys) e key l) (next k : ℕ) (list : List ℕ) where
  w : Watch Part
  w = watch_of xs ys e

  same : w ≡ watch_is xs ys ws
  unfolding w
  same = ap {B = Watch Part} (λ z. record { rows = map row_is xs; cells = ys; ends = z }) ends_are

  same_watch : turn_on form w next k list ≡ turn_on form (watch_is xs ys ws) next k list
  same_watch = ap (λ (z : Watch Part). turn_on form z next k list) same

  looked : claimable l ≡ claimable (looked_in w key.bytes)
  unfolding w
  looked = ap claimable (seen ys refl)

  -- they are passed
  module _ (o : Option ℕ) (n : ℕ) (fit : claimable l ≡ Ok o) (count : n ≡ length xs) where
    pass : Passed w
    pass = Rows.passed w key.bytes o (sym looked ∙ fit)

    all : n ≡ length w.rows
    unfolding w
    all = count ∙ sym (rows_long_lem xs)

    pub few : n ≤ 4096
    unfolding most
    few = omega (arith, (question_one form w pass.one).at_most, all)

    module _ (q : Bool) (asked : (bytes : List ℕ) → length bytes ≡ length list → q ≡ question8 n k bytes) where
      eight : q ≡ question8 (length w.rows) k list
      eight = asked list refl ∙ ap (λ (m : ℕ). question8 m k list) all

      -- question 8
      pub turn_eight : q ≡ false → refusal list R.Turn ≡ turn_on form (watch_is xs ys ws) next k list
      turn_eight h = (let p = pass.one in let s = pass.two in let u : question8 (length w.rows) k list ≡ false = sym eight ∙ h in rw (p, s, u)) ∙ same_watch

      module _ (h : q ≡ true) where
        may : question8 (length w.rows) k list ≡ true
        may = sym eight ∙ h

        some_row : 0 < n
        some_row = omega (arith, (question_one form w pass.one).some_row, all)

        pub room : 32 * k ≤ length list
        unfolding question8
        room = omega (arith, leb_true k (holds list) (and_2 (leb 1 k && leb k (length w.rows)) (leb k (holds list)) may), div-add-mod' (length list) 32)

        pub first_row : (s : ℕ) → s ≡ start_of n next → s < n
        first_row s e = subst (λ (i : ℕ). i < n) (sym e) (start_below n next some_row)

        -- accepted: the keys of the used rows among those named, from the start of the list
        pub turn_ahead : (s : ℕ) → s ≡ start_of n next → ahead 0 list (keys_of form (watch_is xs ys ws) (named n s k)) (onward n k s) ≡ turn_on form (watch_is xs ys ws) next k list
        turn_ahead s es =
            ap (λ (z : Watch Part). ahead 0 list (keys_of form z (named n s k)) (onward n k s)) (sym same)
            ∙ ap (λ (i : ℕ). ahead 0 list (keys_of form w (named n i k)) (onward n k i)) es
            ∙ from_start (keys_of form w (named_by n next k)) (onward n k (start_of n next)) list
            ∙ ap (λ (m : ℕ). record { answer = gave (length (keys_of form w (named_by n next k))) m; list = written (keys_of form w (named_by n next k)) list }) (onward_is n k (start_of n next) (start_below n next some_row))
            ∙ ap (λ (c : ℕ). record { answer = gave (length (keys_of form w (named_by c next k))) (next_of c next k); list = written (keys_of form w (named_by c next k)) list }) all
            ∙ accepted ∙ same_watch
          where
            accepted : acceptance form w next k list ≡ turn_on form w next k list
            accepted = let p = pass.one in let s = pass.two in let u = may in rw (p, s, u)

        -- the marks of the used chain tell the used rows
        pub tells : (d : ℕ) (marks : List Bool) → d ≡ e.head → ((used : List ℕ) → chain unmade_part (map row_is xs) n d ≡ Some used → marks ≡ mark_all used (replicate 4096 false)) → (i : ℕ) → i < n → get_or marks i false ≡ is_used form (watch_is xs ys ws) i
        unfolding w
        tells d marks ed em i q =
            ap (λ (b : List Bool). get_or b i false) marked ∙ marks_tell used.rows i (omega (arith, few)) ∙ sym (ap (is_in i) used.is) ∙ ap (λ (z : Watch Part). is_used form z i) same
          where
            used : Chained (chain unmade_part w.rows (length w.rows) w.ends.head)
            used = used_chain w pass.two

            marked : marks ≡ mark_all used.rows (replicate 4096 false)
            marked = em used.rows (ap₂ {C = Option (List ℕ)} (λ m h. chain unmade_part (map row_is xs) m h) all ed ∙ used.is)

        pub turn_passes : (d s : ℕ) (marks : List Bool) (out : Tick) → d ≡ e.head → ((used : List ℕ) → chain unmade_part (map row_is xs) n d ≡ Some used → marks ≡ mark_all used (replicate 4096 false)) → s ≡ start_of n next → (out ≡ passed marks xs n k s 0 list) × keys_long marks xs n k s → out ≡ turn_on form (watch_is xs ys ws) next k list
        turn_passes d s marks out ed em es eo =
            eo.0 ∙ all_passed (watch_is xs ys ws) n xs refl marks (tells d marks ed em) k s list eo.1 (first_row s es) room ∙ turn_ahead s es
