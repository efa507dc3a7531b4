-- What a call does to the rows, cells and ends, from the row that was found, a fresh one, or the oldest, is the definitions' step; and what was decided on values is
-- what the definitions decide. One law for each way out of a call. Facts on lists alone; crate `lent` cites them with its callees' contracts.
use Rattle.std.specs.Prelude.{Some, None, Option, Result, Ok, Err}
use Rattle.sites.specs.declared.Site.{Site}
use Rattle.verdicts.specs.declared.Verdict.{Verdict}
use mathlib.Core.Path.{◌≡◌, refl, sym, ◌∙◌, ap, ap₂}
use Prim.Native.Nat.{ℕ, ◌≤◌, ◌+◌, ◌*◌}
use native.Mathlib.Omega.{arith}
use mathlib.Core.Bool.{Bool, true, false, cond, ◌||◌}
use mathlib.Core.List.{List, map}
use lib.Dec.{eqb}
use lib.ListN.{length, get_or, take, drop, length-set}
use lib.Seq.{sets, length-sets}
use Rattle.table.specs.Machine as M
use Rattle.table.specs.Machine.{Step, Outcome, refuse, accept, said}
use Rattle.table.specs.Refusals.{number_of}
use Rattle.table.specs.declared.Refusal.{Refusal}
use Rattle.table.specs.declared.Refusal.TheVariants as R
use Rattle.table.specs.Rows as T
use Rattle.table.specs.Rows.{NONE, Watch, row_at}
use Rattle.table.specs.Watch.{Body, put_body, touch, free_row, pushed_out, take_row, refusal, on_row, on_new}
use Rattle.table.proofs.Tests.{by_bool}
use Rattle.table.proofs.Cells.{cells_same}
use Rattle.table.proofs.Stores.{back_same, put_unchanged}
use Rattle.near_field.specs.declared.Judgment.{Judgment}
use Rattle.heard.specs.declared.Heard.{Heard}
use Rattle.receiver.specs.declared.Part.{Part}
use Rattle.heard.specs.declared.Position.{Position}
use Rattle.heard.specs.declared.Claiming.{Claiming}
use Rattle.heard.specs.declared.counting.Counting.{Counting}
use Rattle.heard.specs.Heard.{width, empty_cells, Moved, claimed, positioned}
use Rattle.verdicts.specs.Verdict.{says_verdict, too_soon}
use Rattle.heard.specs.Answers.{claiming_is, counting_is, hearing_is}
use Rattle.receiver.specs.Calls.{Act, claim, position, judging, check, take_out, Out, generation_is, judgment_is, says, freed, done, kind, row_act, claim_done, position_done, judging_of, judged_part, siting, unmade_part, drop_oldest}
use Rattle.rows.specs.declared.Row.{Row}
use Rattle.rows.specs.declared.Seat.{Seat}
use Rattle.rows.specs.Read.{form, row_is, watch_of, watch_is, Looked}
use Rattle.scans.specs.Ends.{ends_of, ends_is}
use Rattle.rows.specs.Links.{blank, with_part, part_at, parted_rows, released_rows, released_ends, marked_rows, marked_ends, room_rows, room_ends, entered_rows, entered_ends, seat_of, seated_rows}
use Rattle.rows.proofs.Chains.{row_is_lem, unlinked_long, free_is_lem, touch_is, put_is, take_is, room_is}
use Rattle.moves.specs.declared.Word.TheVariants as Wd
use Rattle.moves.specs.Answers.{Answer, answer_is, outcome, check_answer}
use Rattle.moves.specs.Moves.{heard_part}
use Rattle.moves.proofs.Looked as Look'
use Rattle.moves.proofs.Looked.{body_of}
use Rattle.rows.proofs.Passed.{Passed}
use Rattle.scans.specs.declared.Key.{Key}
use Rattle.scans.specs.declared.Ends.{Ends}
use Rattle.scans.specs.Scan.{claimable}
use Rattle.bodies.specs.Bodies.{claim_part}
use Rattle.receiver.proofs.Keeps.{empty_wide}

-- DECISIONS, as the definitions'
abbrev claim_body : Part → Claiming → List ℕ → Body Part
claim_body p c m = record { part = claim_part p c; cells = cond c.moved empty_cells m }

claim_done_lem : (p : Part) (c : Claiming) (m : List ℕ) → claim_done p (claiming_is (Ok c) m) ≡ accept (claim_body p c m) (generation_is c.heard.generation)
claim_done_lem p c m = by_bool c.moved (λ y. rw y) (λ y. rw y)

-- a row's cells, moved or kept, written back
cells_back : (ys : List ℕ) (i : ℕ) (b : Bool) → width * i + width ≤ length ys → cond b (sets ys (width * i) empty_cells) ys ≡ sets ys (width * i) (cond b empty_cells (take width (drop (width * i) ys)))
cells_back ys i true h = refl
cells_back ys i false h = sym (back_same width (width * i) ys h)

-- emptied twice
twice : (ys : List ℕ) (i : ℕ) → length empty_cells ≡ width → width * i + width ≤ length ys → sets (sets ys (width * i) empty_cells) (width * i) empty_cells ≡ sets ys (width * i) empty_cells
twice ys i wide h =
    let l = sets ys (width * i) empty_cells in
    ap (λ (x : List ℕ). sets l (width * i) x) (sym (cells_same width i ys empty_cells wide h)) ∙ back_same width (width * i) l (omega (arith, length-sets ys (width * i) empty_cells))

step_of : {W O : Type 0} {n m : W} {a b : M.Answer O} → n ≡ m → a ≡ b → ◌≡◌ {A = Step W O} (record { next = n; answer = a }) (record { next = m; answer = b })
step_of {W} {O} p q = ap₂ {C = Step W O} (λ x y. record { next = x; answer = y }) p q

module _ (xs : List Row) (ys ws : List ℕ) (e : Ends) (key : Key) (l : Result ℕ Refusal) (ends_are : ends_of e ≡ ends_is ws) (seen : Looked xs (length ys) e key l) where
  abbrev w : Watch Part
  w = watch_of xs ys e

  abbrev k : M.Key
  k = key.bytes

  abbrev stepped : Act → Step (Watch Part) Out
  stepped a = Look'.stepped xs ys ws e key l ends_are seen a

  -- the same rows, cells and ends
  still : watch_is xs ys ws ≡ w
  still = Look'.watch_same xs ys ws e key l ends_are seen

  refuses : (s : Step (Watch Part) Out) (r : Refusal) → s ≡ refusal w (number_of r) → outcome (Err r) xs ys ws ≡ s
  refuses s r q = Look'.refuses xs ys ws e key l ends_are seen s r q

  -- ROW i IS HELD
  module _ (i : ℕ) (at : l ≡ Ok i) where
    abbrev old : Part
    old = (get_or xs i blank).part

    -- the row's cells
    abbrev mine : List ℕ
    mine = take width (drop (width * i) ys)

    pass : Passed w
    pass = Look'.pass xs ys ws e key l ends_are seen i at

    small : length xs ≤ NONE
    small = Look'.small xs ys ws e key l ends_are seen pass

    room : width * i + width ≤ length ys
    room = Look'.held_room xs ys ws e key l ends_are seen i at

    key_is_lem : (get_or xs i blank).key ≡ k
    key_is_lem = Look'.key_is_lem xs ys ws e key l ends_are seen i at

    decides : (a : Act) (o : Outcome (Body Part) Out) → row_act k (body_of xs ys i) a ≡ o → stepped a ≡ on_row kind siting w i k (kind a) o
    decides a o q = Look'.at_row xs ys ws e key l ends_are seen i at a ∙ ap (λ (x : Outcome (Body Part) Out). on_row kind siting w i k (kind a) x) q

    refused_by : (a : Act) (r : Refusal) → row_act k (body_of xs ys i) a ≡ refuse (number_of r) → outcome (Err r) xs ys ws ≡ stepped a
    refused_by a r q = refuses (stepped a) r (decides a (refuse (number_of r)) q)

    -- TAKE-OUT
    pub took_out : (zs : List Row) (cs vs : List ℕ) (r : Answer) → r ≡ Ok (Wd.Freed (get_or xs i blank).key) → zs ≡ released_rows xs e i → cs ≡ sets ys (width * i) empty_cells → ends_is vs ≡ ends_of (released_ends xs e i) → outcome r zs cs vs ≡ stepped take_out
    took_out zs cs vs r v p q t =
        step_of (exits ∙ free_is_lem xs ys e i small) (ap answer_is v ∙ ap {B = M.Answer Out} (λ (x : M.Key). said None (freed x)) key_is_lem)
        ∙ sym (decides take_out (accept (body_of xs ys i) (freed k)) refl)
      where
        exits : watch_is zs cs vs ≡ watch_of (released_rows xs e i) (sets ys (width * i) empty_cells) (released_ends xs e i)
        exits = rw (t, p, q)

    -- CHECK
    pub checked : (r : Answer) → r ≡ check_answer old.verdict → outcome r xs ys ws ≡ stepped check
    checked r v = go old.verdict refl v
      where
        stays : put_body form w i k (body_of xs ys i) ≡ w
        stays =
            ap (λ (b : Body Part). put_body form w i k b) (sym (Look'.body_is xs ys ws e key l ends_are seen i at))
            ∙ put_unchanged form w i k (Look'.key_same xs ys ws e key l ends_are seen i at) (Look'.within xs ys ws e key l ends_are seen i at) (Look'.sizes xs ys ws e key l ends_are seen pass).cells

        go : (z : Option Verdict) → old.verdict ≡ z → r ≡ check_answer z → outcome r xs ys ws ≡ stepped check
        go None q t = ap (λ (x : Answer). outcome x xs ys ws) t ∙ refused_by check R.NeverJudged (rw q)
        go (Some x) q t = step_of (still ∙ sym stays) (ap answer_is t) ∙ sym (decides check (accept (body_of xs ys i) (says (says_verdict x))) (rw q))

    -- the row's part and cells are stored
    put_part : (q : Part) (cs : List ℕ) → watch_of (parted_rows xs i q) (sets ys (width * i) cs) e ≡ put_body form w i k (record { part = q; cells = cs })
    put_part q cs = put_is xs ys e i (with_part (get_or xs i blank) q) k (record { part = q; cells = cs }) key_is_lem refl refl refl

    -- and the row is marked
    marked : (q : Part) (cs : List ℕ) → watch_of (marked_rows xs e i q) (sets ys (width * i) cs) (marked_ends xs e i q) ≡ touch form (put_body form w i k (record { part = q; cells = cs })) i
    marked q cs =
        touch_is (parted_rows xs i q) (sets ys (width * i) cs) e i (omega (arith, length-set xs i (with_part (get_or xs i blank) q), small))
        ∙ ap (λ (v : Watch Part). touch form v i) (put_part q cs)

    -- POSITION
    heard_as : (p : Position) (h : Result Counting Refusal) → ((m : List ℕ) → hearing_is h m ≡ positioned old.heard m p) → row_act k (body_of xs ys i) (position p) ≡ position_done old (hearing_is h mine)
    heard_as p h eh = ap (λ (o : Outcome (Body Heard) (Unit {0})). position_done old o) (sym (eh mine))

    -- 4 to 6
    pub not_heard : (p : Position) (r : Refusal) → ((m : List ℕ) → hearing_is (Err r) m ≡ positioned old.heard m p) → outcome (Err r) xs ys ws ≡ stepped (position p)
    not_heard p r eh = refused_by (position p) r (heard_as p (Err r) eh)

    pub heard_so : (p : Position) (c : Counting) → ((m : List ℕ) → hearing_is (Ok c) m ≡ positioned old.heard m p) → (zs : List Row) (cs vs : List ℕ) → zs ≡ marked_rows xs e i (heard_part old c.heard) → cs ≡ sets ys (width * i) (counting_is c mine)
        → ends_is vs ≡ ends_of (marked_ends xs e i (heard_part old c.heard)) → outcome (Ok Wd.Done) zs cs vs ≡ stepped (position p)
    heard_so p c eh zs cs vs ez ec v =
        step_of (exits ∙ marked (heard_part old c.heard) (counting_is c mine)) refl
        ∙ sym (decides (position p) (accept (record { part = heard_part old c.heard; cells = counting_is c mine }) done) (heard_as p (Ok c) eh))
      where
        exits : watch_is zs cs vs ≡ watch_of (marked_rows xs e i (heard_part old c.heard)) (sets ys (width * i) (counting_is c mine)) (marked_ends xs e i (heard_part old c.heard))
        exits = rw (v, ez, ec)

    -- JUDGING: 9
    pub undue : (now aircraft : ℕ) → too_soon old.judged_ms now ≡ true → outcome (Err R.TooSoon) xs ys ws ≡ stepped (judging now aircraft)
    undue now aircraft t = refused_by (judging now aircraft) R.TooSoon (rw t)

    pub judged : (now aircraft : ℕ) → too_soon old.judged_ms now ≡ false → (j : Judgment) → j ≡ judging_of old.heard mine now aircraft → (zs : List Row) → zs ≡ parted_rows xs i (judged_part old now j) → outcome (Ok (Wd.Judged j)) zs ys ws ≡ stepped (judging now aircraft)
    judged now aircraft t j ej zs ez =
        step_of (exits ∙ put_part (judged_part old now j) mine) refl
        ∙ sym (decides (judging now aircraft) (accept (record { part = judged_part old now j; cells = mine }) (judgment_is j)) (rw (t, ej)))
      where
        exits : watch_is zs ys ws ≡ watch_of (parted_rows xs i (judged_part old now j)) (sets ys (width * i) mine) e
        exits =
            ap (λ (z : List Row). watch_is z ys ws) ez ∙ ap {B = Watch Part} (λ (z : T.Ends). record { rows = map row_is (parted_rows xs i (judged_part old now j)); cells = ys; ends = z }) (sym ends_are)
            ∙ ap (λ (m : List ℕ). watch_of (parted_rows xs i (judged_part old now j)) m e) (sym (back_same width (width * i) ys room))

  -- CLAIM, on row o or a new one
  -- 4
  pub claim_out : (site : Option Site) (o : Option ℕ) → claimable l ≡ Ok o → (r : Refusal) → ((m : List ℕ) → claiming_is (Err r) m ≡ claimed (part_at xs o).heard m site) → outcome (Err r) xs ys ws ≡ stepped (claim site)
  claim_out site None fit r ec = refuses (stepped (claim site)) r (Look'.new_step xs ys ws e key l ends_are seen site fit
      ∙ ap (λ (o : Outcome (Body Heard) Moved). on_new kind siting w k (claim_done unmade_part o)) (sym (ec empty_cells)))
  claim_out site (Some i) fit r ec =
      refused_by i (Look'.claim_held xs ys ws e key l ends_are seen i fit) (claim site) r (ap (λ (o : Outcome (Body Heard) Moved). claim_done (part_at xs (Some i)) o) (sym (ec (take width (drop (width * i) ys)))))

  -- where the row starts, and whether its cells become empty
  abbrev emptied : Seat → Claiming → List ℕ
  emptied s c = cond (s.made || c.moved) (sets ys (width * s.at) empty_cells) ys

  pub claimed_in : (site : Option Site) (o : Option ℕ) → claimable l ≡ Ok o → (c : Claiming) → ((m : List ℕ) → claiming_is (Ok c) m ≡ claimed (part_at xs o).heard m site) → (zs : List Row) (cs vs : List ℕ) (s : Seat) → s ≡ seat_of xs e o (claim_part (part_at xs o) c)
      → zs ≡ seated_rows xs e o key (claim_part (part_at xs o) c) → cs ≡ emptied s c → ends_is vs ≡ ends_of s.ends → outcome (Ok (Wd.Generation c.heard.generation s.pushed)) zs cs vs ≡ stepped (claim site)
  claimed_in site (Some i) fit c ec zs cs vs s s_is ez c_is v =
      step_of (exits ∙ marked i at part (cond c.moved empty_cells mine')) (rw s_is)
      ∙ sym (decides i at (claim site) (accept (claim_body old' c mine') (generation_is c.heard.generation)) (ap (λ (o : Outcome (Body Heard) Moved). claim_done old' o) (sym (ec mine')) ∙ claim_done_lem old' c mine'))
    where
      at : l ≡ Ok i
      at = Look'.claim_held xs ys ws e key l ends_are seen i fit

      old' : Part
      old' = (get_or xs i blank).part

      mine' : List ℕ
      mine' = take width (drop (width * i) ys)

      part : Part
      part = claim_part old' c

      cells_are : cs ≡ sets ys (width * i) (cond c.moved empty_cells mine')
      cells_are = c_is ∙ ap (λ (x : Seat). emptied x c) s_is ∙ cells_back ys i c.moved (room i at)

      exits : watch_is zs cs vs ≡ watch_of (marked_rows xs e i part) (sets ys (width * i) (cond c.moved empty_cells mine')) (marked_ends xs e i part)
      exits = rw (v ∙ ap (λ (x : Seat). ends_of x.ends) s_is, ez, cells_are)
  claimed_in site None fit c ec zs cs vs s s_is ez c_is v =
      step_of (exits ∙ take_is (room_rows xs e) cells₁ empty_cells (room_ends xs e) key part room_long ∙ ap (λ (x : Watch Part). take_row form x k body) (room_is xs ys e small')) answers
      ∙ sym (Look'.new_step xs ys ws e key l ends_are seen site fit
      ∙ ap (λ (o : Outcome (Body Part) Out). on_new kind siting w k o) (ap (λ (o : Outcome (Body Heard) Moved). claim_done unmade_part o) (sym (ec empty_cells)) ∙ claim_done_lem unmade_part c empty_cells ∙ one_way c.moved))
    where
      part : Part
      part = claim_part unmade_part c

      body : Body Part
      body = record { part = part; cells = empty_cells }

      -- the cells with room made
      cells₁ : List ℕ
      cells₁ = cond (eqb e.free NONE) (sets ys (width * e.head) empty_cells) ys

      one_way : (b : Bool) → accept (record { part = part; cells = cond b empty_cells empty_cells }) (generation_is c.heard.generation) ≡ accept body (generation_is c.heard.generation)
      one_way true = refl
      one_way false = refl

      pass' : Passed w
      pass' = Look'.claim_passed xs ys ws e key l ends_are seen None fit

      small' : length xs ≤ NONE
      small' = Look'.small xs ys ws e key l ends_are seen pass'

      cells_once : sets cells₁ (width * (room_ends xs e).free) empty_cells ≡ sets ys (width * (room_ends xs e).free) empty_cells
      cells_once = by_bool (eqb e.free NONE) (λ p. rw p (twice ys e.head empty_wide (Look'.cells_room xs ys ws e key l ends_are seen pass' e.head (Look'.oldest_row xs ys ws e key l ends_are seen pass' p)))) (λ p. rw p)

      cells_are : cs ≡ sets cells₁ (width * (room_ends xs e).free) empty_cells
      cells_are = c_is ∙ ap (λ (x : Seat). emptied x c) s_is ∙ sym cells_once

      room_long : length (room_rows xs e) ≤ NONE
      room_long = by_bool (eqb e.free NONE) (λ p. rw (p, length-set) (omega (arith, unlinked_long xs e.head, small'))) (λ p. rw p small')

      answers : said s.pushed (generation_is c.heard.generation) ≡ said (pushed_out form w) (generation_is c.heard.generation)
      answers = rw (s_is, row_is_lem xs e.head)

      exits : watch_is zs cs vs ≡ watch_of (entered_rows xs e key part) (sets cells₁ (width * (room_ends xs e).free) empty_cells) (entered_ends xs e)
      exits = rw (v ∙ ap (λ (x : Seat). ends_of x.ends) s_is, ez, cells_are)

  -- DROP-OLDEST: the look is for any key
  drop_is : drop_oldest (watch_is xs ys ws) ≡ drop_oldest w
  drop_is = ap drop_oldest still

  module _ (o : Option ℕ) (fit : claimable l ≡ Ok o) where
    passes : Passed w
    passes = Look'.claim_passed xs ys ws e key l ends_are seen o fit

    -- 3
    pub drop_none : eqb e.head NONE ≡ true → outcome (Err R.NotHeld) xs ys ws ≡ drop_oldest (watch_is xs ys ws)
    drop_none n = refuses (drop_oldest (watch_is xs ys ws)) R.NotHeld (drop_is ∙ rw (passes.one, passes.two, n))

    pub dropped_one : eqb e.head NONE ≡ false → (zs : List Row) (cs vs : List ℕ) (r : Answer) → r ≡ Ok (Wd.Freed (get_or xs e.head blank).key) → zs ≡ released_rows xs e e.head → cs ≡ sets ys (width * e.head) empty_cells → ends_is vs ≡ ends_of (released_ends xs e e.head)
        → outcome r zs cs vs ≡ drop_oldest (watch_is xs ys ws)
    dropped_one used zs cs vs r v p q t =
        step_of (exits ∙ free_is_lem xs ys e e.head (Look'.small xs ys ws e key l ends_are seen passes)) answers ∙ sym (drop_is ∙ accepted)
      where
        accepted : drop_oldest w ≡ record { next = free_row form w e.head; answer = said None (freed (row_at unmade_part (map row_is xs) e.head).key) }
        accepted = rw (passes.one, passes.two, used)

        exits : watch_is zs cs vs ≡ watch_of (released_rows xs e e.head) (sets ys (width * e.head) empty_cells) (released_ends xs e e.head)
        exits = rw (t, p, q)

        answers : answer_is r ≡ said None (freed (row_at unmade_part (map row_is xs) e.head).key)
        answers = ap answer_is v ∙ ap (λ (x : M.Key). said None (freed x)) (ap (λ (x : T.Row Part). x.key) (sym (row_is_lem xs e.head)))
