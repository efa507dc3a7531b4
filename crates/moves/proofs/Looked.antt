-- What a look tells of the definitions' step: a call goes by the first question that is answered no, or by the row that was found. Facts on lists
-- alone, of a watch whose ends were read (`ends_are`) and that was looked at (`seen`).
--     stepped_is, at_row          a call is decided by the look; by the row's part and cells where one was found
--     no_step, claim_step         the refusals 1 to 3, and those of a claim, which is not asked 3
--     held_site, claim_site, held_room, head_room, seat_room   what the calls' functions ask: a site within degrees, a row's cells among all
use Rattle.std.specs.Prelude.{Option, None, Some, Result, Ok, Err}
use mathlib.Core.Path.{◌≡◌, refl, sym, ◌∙◌, ap, subst}
use Prim.Native.Nat.{ℕ, zero, suc, ◌<◌, ◌≤◌, ◌+◌, ◌*◌}
use native.Mathlib.Omega.{arith}
use native.Mathlib.Nat.{mul-le-mul_left}
use mathlib.Core.Bool.{true, false, cond}
use mathlib.Core.List.{List, [], ◌∷◌, map}
use lib.Dec.{eqb}
use lib.ListN.{length, get_or, take, drop}
use Rattle.table.specs.Machine as M
use Rattle.table.specs.Machine.{same, Step, Outcome}
use Rattle.table.specs.Refusals.{number_of}
use Rattle.table.specs.declared.Refusal.{Refusal}
use Rattle.table.specs.Rows as T
use Rattle.table.specs.Rows.{NONE, Watch, chain_of, row_at}
use Rattle.table.specs.Questions.{question1, question2, find_row}
use Rattle.table.specs.Watch.{Body, body_at, fresh_body, refusal, on_row, on_new, on_none, located}
use Rattle.table.proofs.Tests.{by_bool, and_1, eqb_true, eqb_false}
use Rattle.table.proofs.Keys.{same_eq}
use Rattle.table.proofs.Numbers.{below_none}
use Rattle.table.proofs.Linked.{Chained}
use Rattle.table.proofs.Question2.{Sizes, question_one, most_none, Question2, question_two}
use Rattle.table.proofs.Safe.{head_row, free_row_lem, found_row}
use Rattle.receiver.specs.declared.Part.{Part}
use Rattle.heard.specs.Heard.{width, site_fits}
use Rattle.verdicts.specs.Verdict.{verdict_fits}
use Rattle.sites.specs.declared.Site.{Site}
use Rattle.receiver.specs.Calls.{Act, claim, Out, kind, row_act, siting, unmade_part, call_on}
use Rattle.rows.specs.declared.Row.{Row}
use Rattle.rows.specs.Read.{form, fits, row_is, watch_of, watch_is, looked_in, Looked}
use Rattle.scans.specs.Ends.{ends_of, ends_is}
use Rattle.rows.specs.Links.{blank, part_at, room_ends, seat_of}
use Rattle.rows.proofs.Chains.{rows_long_lem, row_is_lem}
use Rattle.rows.proofs.Passed.{Passed, passed, no_ok, one_ok, one_err}
use Rattle.moves.specs.Answers.{outcome}
use Rattle.scans.specs.declared.Key.{Key}
use Rattle.scans.specs.declared.Ends.{Ends}
use Rattle.scans.specs.Scan.{row_or_no, claimable}

-- row i's part and cells
abbrev pub body_of : List Row → List ℕ → ℕ → Body Part
body_of xs ys i = record { part = (get_or xs i blank).part; cells = take width (drop (width * i) ys) }

-- THE LOOK DECIDES
abbrev pub by_look : Watch Part → M.Key → Act → Result ℕ Refusal → Step (Watch Part) Out
by_look w k a (Err r) = cond (eqb (number_of r) 3) (on_none kind siting w k (kind a) (row_act k (fresh_body form) a)) (refusal w (number_of r))
by_look w k a (Ok i) = on_row kind siting w i k (kind a) (row_act k (body_at form w i) a)

located_by : (w : Watch Part) (k : M.Key) (a : Act) (o : Option ℕ) → located kind siting w k a o ≡ by_look w k a (row_or_no o)
located_by w k a None = refl
located_by w k a (Some i) = refl

step_by : (w : Watch Part) (k : M.Key) (a : Act) → call_on w k a ≡ by_look w k a (looked_in w k)
step_by w k a =
    by_bool (question1 form w)
    (λ p. by_bool (question2 form w)
    (λ q. rw (p, q) (located_by w k a (find_row unmade_part w.rows (length w.rows) k w.ends.head)))
    (λ q. rw (p, q)))
    (λ p. rw p)

-- a row was found
record HeldAt (w : Watch Part) (k : M.Key) (i : ℕ) : Type 0 where
  one : question1 form w ≡ true
  two : question2 form w ≡ true
  search : find_row unmade_part w.rows (length w.rows) k w.ends.head ≡ Some i

held_at : (w : Watch Part) (k : M.Key) (i : ℕ) → Ok i ≡ looked_in w k → HeldAt w k i
held_at w k i e =
    by_bool (question1 form w)
    (λ p. by_bool (question2 form w)
    (λ q. record { one = p; two = q; search = go (find_row unmade_part w.rows (length w.rows) k w.ends.head) (rw (p, q) at e) })
    (λ q. no_ok (rw (p, q) at e)))
    (λ p. no_ok (rw p at e))
  where
    go : (o : Option ℕ) → Ok i ≡ row_or_no o → o ≡ Some i
    go None h = no_ok h
    go (Some j) h = ap Some (sym (one_ok h))

-- the row that a search finds has the key
key_at_lem : (rows : List (T.Row Part)) (f : ℕ) (k : M.Key) (at i : ℕ) → find_row unmade_part rows f k at ≡ Some i → same k (row_at unmade_part rows i).key ≡ true
key_at_lem rows zero k at i e = let z : ◌≡◌ {A = ℕ} 0 1 = cc in absurd (omega arith)
key_at_lem rows (suc f) k at i e =
    by_bool (eqb at NONE) (λ p. none_some (rw p at e))
    (λ p. by_bool (same k (row_at unmade_part rows at).key)
    (λ q. subst (λ (j : ℕ). same k (row_at unmade_part rows j).key ≡ true) (some_eq (rw (p, q) at e)) q)
    (λ q. key_at_lem rows f k (row_at unmade_part rows at).next i (rw (p, q) at e)))
  where
    none_some : {X : Type 0} → ◌≡◌ {A = Option ℕ} None (Some i) → X
    none_some h = let z : ◌≡◌ {A = ℕ} 0 1 = cc in absurd (omega arith)

    some_eq : Some at ≡ Some i → at ≡ i
    some_eq h = cc

-- what a claim goes on with tells the look
claim_row : (z : Result ℕ Refusal) (i : ℕ) → claimable z ≡ Ok (Some i) → z ≡ Ok i
claim_row (Ok j) i h = ap Ok (some_eq (one_ok h))
  where
    some_eq : Some j ≡ Some i → j ≡ i
    some_eq e = cc
claim_row (Err r) i h = by_bool (eqb (number_of r) 3) (λ p. none_some (rw p at h)) (λ p. no_ok (sym (rw p at h)))
  where
    none_some : {X : Type 0} → ◌≡◌ {A = Result (Option ℕ) Refusal} (Ok None) (Ok (Some i)) → X
    none_some e = let z : ◌≡◌ {A = ℕ} 0 1 = cc in absurd (omega arith)

-- e was read from the ends ws, l is the look
module _ (xs : List Row) (ys ws : List ℕ) (e : Ends) (key : Key) (l : Result ℕ Refusal) (ends_are : ends_of e ≡ ends_is ws) (seen : Looked xs (length ys) e key l) where
  abbrev pub w : Watch Part
  w = watch_of xs ys e

  abbrev pub stepped : Act → Step (Watch Part) Out
  stepped a = call_on (watch_is xs ys ws) key.bytes a

  pub watch_same : watch_is xs ys ws ≡ w
  watch_same = ap {B = Watch Part} (λ z. record { rows = map row_is xs; cells = ys; ends = z }) (sym ends_are)

  pub stepped_is : (a : Act) → stepped a ≡ by_look w key.bytes a l
  stepped_is a = ap (λ (v : Watch Part). call_on v key.bytes a) watch_same ∙ step_by w key.bytes a ∙ ap (λ (z : Result ℕ Refusal). by_look w key.bytes a z) (sym (seen ys refl))

  -- a refusal leaves what there was
  pub refuses : (s : Step (Watch Part) Out) (r : Refusal) → s ≡ refusal w (number_of r) → outcome (Err r) xs ys ws ≡ s
  refuses s r q = ap {B = Step (Watch Part) Out} (λ v. refusal v (number_of r)) watch_same ∙ sym q

  pub claim_passed : (o : Option ℕ) → claimable l ≡ Ok o → Passed w
  claim_passed o fit = passed w key.bytes o (ap claimable (sym (seen ys refl)) ∙ fit)

  -- 1 to 3: no row was found
  pub no_step : (a : Act) → ((o : Outcome (Body Part) Out) → on_none kind siting w key.bytes (kind a) o ≡ refusal w 3) → (x : Refusal) → l ≡ Err x → stepped a ≡ refusal w (number_of x)
  no_step a three x q =
      stepped_is a ∙ ap (λ (z : Result ℕ Refusal). by_look w key.bytes a z) q
      ∙ by_bool (eqb (number_of x) 3) (λ y. rw y (three _ ∙ ap {B = Step (Watch Part) Out} (λ n. refusal w n) (sym (eqb_true (number_of x) 3 y)))) (λ y. rw y)

  -- 1 and 2: a claim is not asked 3
  pub claim_step : (site : Option Site) (x : Refusal) → claimable l ≡ Err x → stepped (claim site) ≡ refusal w (number_of x)
  claim_step site x q = go l (stepped_is (claim site)) q
    where
      go : (z : Result ℕ Refusal) → stepped (claim site) ≡ by_look w key.bytes (claim site) z → claimable z ≡ Err x → stepped (claim site) ≡ refusal w (number_of x)
      go (Ok i) p h = no_ok h
      go (Err r) p h = by_bool (eqb (number_of r) 3) (λ y. no_ok (rw y at h)) (λ y. p ∙ rw y (ap {B = Step (Watch Part) Out} (λ z. refusal w (number_of z)) (one_err (rw y at h))))

  -- QUESTIONS 1 AND 2 ARE PASSED
  module _ (pass : Passed w) where
    pub sizes : Sizes form w
    sizes = question_one form w pass.one

    pub small_rows : length (map row_is xs) ≤ NONE
    small_rows = omega (arith, sizes.at_most, most_none)

    pub small : length xs ≤ NONE
    small = omega (arith, small_rows, rows_long_lem xs)

    pub two : Question2 form w
    two = question_two form w small_rows pass.two

    -- row n's cells are among all
    pub cells_room : (n : ℕ) → n < length (map row_is xs) → width * n + width ≤ length ys
    cells_room n h = omega (arith, mul-le-mul_left width h, sizes.cells)

    sound_at_lem : (n : ℕ) → n < length (map row_is xs) → site_fits (get_or xs n blank).part.heard.site ≡ true
    sound_at_lem n h =
        let p = (get_or xs n blank).part in
        and_1 (site_fits p.heard.site) (verdict_fits p.verdict) (ap (λ (r : T.Row Part). fits r.part) (sym (row_is_lem xs n)) ∙ two.sound_at n h)

    -- with no row free there is one that is used
    oldest : (used free : List ℕ) → Chained unmade_part (chain_of w) used free → length used + length free ≡ length (map row_is xs) → e.free ≡ NONE → e.head < length (map row_is xs)
    oldest [] [] v c f = absurd (omega (arith, c, sizes.some_row))
    oldest [] (j ∷ m) v c f = absurd (below_none v.freed.0 small_rows (sym v.free_is ∙ f))
    oldest (j ∷ m) free v c f = subst (λ (n : ℕ). n < length (map row_is xs)) (sym v.head_is) v.linked.0

    pub oldest_row : eqb e.free NONE ≡ true → e.head < length (map row_is xs)
    oldest_row p = oldest two.used two.free two.chained two.count (eqb_true e.free NONE p)

    -- the row that is taken
    pub room_row : (room_ends xs e).free < length (map row_is xs)
    room_row = by_bool (eqb e.free NONE) (λ p. rw p (oldest_row p)) (λ p. rw p (free_row_lem unmade_part (chain_of w) two.used two.free two.chained (eqb_false e.free NONE p)))

    pub head_room : eqb e.head NONE ≡ false → width * e.head + width ≤ length ys
    head_room used = cells_room e.head (head_row unmade_part (chain_of w) two.used two.free two.chained (eqb_false e.head NONE used))

  -- ROW i IS HELD
  module _ (i : ℕ) (at : l ≡ Ok i) where
    held : HeldAt w key.bytes i
    held = held_at w key.bytes i (sym at ∙ seen ys refl)

    pub pass : Passed w
    pass = record { one = held.one; two = held.two }

    pub within : i < length (map row_is xs)
    within = (found_row form w key.bytes i held.one held.two held.search).row

    pub held_room : width * i + width ≤ length ys
    held_room = cells_room pass i within

    pub held_site : site_fits (get_or xs i blank).part.heard.site ≡ true
    held_site = sound_at_lem pass i within

    -- the row's key is the call's
    pub key_same : same key.bytes (row_at unmade_part (map row_is xs) i).key ≡ true
    key_same = key_at_lem (map row_is xs) (length (map row_is xs)) key.bytes e.head i held.search

    pub key_is_lem : (get_or xs i blank).key ≡ key.bytes
    key_is_lem = sym (same_eq key.bytes (row_at unmade_part (map row_is xs) i).key key_same ∙ ap (λ (r : T.Row Part). r.key) (row_is_lem xs i))

    pub body_is : body_at form w i ≡ body_of xs ys i
    body_is = ap {B = Body Part} (λ (r : T.Row Part). record { part = r.part; cells = take width (drop (width * i) ys) }) (row_is_lem xs i)

    pub at_row : (a : Act) → stepped a ≡ on_row kind siting w i key.bytes (kind a) (row_act key.bytes (body_of xs ys i) a)
    at_row a = stepped_is a ∙ ap (λ (z : Result ℕ Refusal). by_look w key.bytes a z) at ∙ ap (λ (b : Body Part). on_row kind siting w i key.bytes (kind a) (row_act key.bytes b a)) body_is

  -- A CLAIM'S ROW: the one held, or the one that is taken
  pub claim_held : (i : ℕ) → claimable l ≡ Ok (Some i) → l ≡ Ok i
  claim_held i fit = claim_row l i fit

  pub new_step : (site : Option Site) → claimable l ≡ Ok None → stepped (claim site) ≡ on_new kind siting w key.bytes (row_act key.bytes (fresh_body form) (claim site))
  new_step site fit = go l (stepped_is (claim site)) fit
    where
      some_none : {X : Type 0} {i : ℕ} → ◌≡◌ {A = Result (Option ℕ) Refusal} (Ok (Some i)) (Ok None) → X
      some_none h = let z : ◌≡◌ {A = ℕ} 0 1 = cc in absurd (omega arith)

      go : (z : Result ℕ Refusal) → stepped (claim site) ≡ by_look w key.bytes (claim site) z → claimable z ≡ Ok None → stepped (claim site) ≡ on_new kind siting w key.bytes (row_act key.bytes (fresh_body form) (claim site))
      go (Ok i) p q = some_none q
      go (Err r) p q = by_bool (eqb (number_of r) 3) (λ y. p ∙ rw y) (λ y. no_ok (sym (rw y at q)))

  pub claim_site : (o : Option ℕ) → claimable l ≡ Ok o → site_fits (part_at xs o).heard.site ≡ true
  claim_site None fit = refl
  claim_site (Some i) fit = held_site i (claim_held i fit)

  pub seat_room : (o : Option ℕ) → claimable l ≡ Ok o → (p : Part) → width * (seat_of xs e o p).at + width ≤ length ys
  seat_room None fit p = let pass = claim_passed None fit in cells_room pass (room_ends xs e).free (room_row pass)
  seat_room (Some i) fit p = held_room i (claim_held i fit)
