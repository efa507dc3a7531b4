-- One theorem for each call, of every way out: what the call leaves and answers is the definitions' step, whether the look refuses it, the call's own question, or
-- none. What it comes to on each way out stands in specs/Moves; Looked has the refusals of the look, Steps the others. Facts on lists alone, of a watch whose ends
-- were read (`ends_are`) and that was looked at (`seen`).
use Rattle.std.specs.Prelude.{Option, Some, None, Result, Ok, Err}
use mathlib.Core.Path.{◌≡◌, refl, sym, ◌∙◌, ap, subst}
use Prim.Native.Nat.{ℕ, ◌*◌}
use mathlib.Core.Bool.{true, false}
use mathlib.Core.List.{List}
use lib.Dec.{eqb}
use lib.ListN.{length, get_or, take, drop}
use Rattle.table.specs.Machine.{Step}
use Rattle.table.specs.Refusals.{number_of}
use Rattle.table.specs.declared.Refusal.{Refusal}
use Rattle.table.specs.declared.Refusal.TheVariants as R
use Rattle.table.specs.Rows.{NONE, Watch}
use Rattle.table.specs.Questions.{question1, question2, find_row}
use Rattle.table.specs.Watch.{refusal}
use Rattle.table.proofs.Tests.{by_bool}
use Rattle.sites.specs.declared.Site.{Site}
use Rattle.near_field.specs.declared.Judgment.{Judgment}
use Rattle.heard.specs.declared.Position.{Position}
use Rattle.heard.specs.Heard.{width}
use Rattle.verdicts.specs.Verdict.{too_soon}
use Rattle.receiver.specs.declared.Part.{Part}
use Rattle.receiver.specs.Calls.{Act, claim, position, judging, check, take_out, Out, judging_of, drop_oldest, unmade_part}
use Rattle.rows.specs.declared.Row.{Row}
use Rattle.rows.specs.Read.{form, watch_of, watch_is, looked_in, Looked}
use Rattle.rows.specs.Links.{blank}
use Rattle.rows.proofs.Passed.{no_ok, one_err}
use Rattle.scans.specs.declared.Key.{Key}
use Rattle.scans.specs.declared.Ends.{Ends}
use Rattle.scans.specs.Ends.{ends_of, ends_is}
use Rattle.scans.specs.Scan.{row_or_no, claimable}
use Rattle.moves.specs.declared.Word.TheVariants as Wd
use Rattle.moves.specs.Answers.{Answer, outcome}
use Rattle.moves.specs.Moves.{Staying, RemovedRow, oldest_of, oldest_look, checked_as, due_look, JudgedAt, judged_as, judged_rows, ClaimedRow, by_look, by_site, seated, HeardRow, nobody, turned_down, placed}
use Rattle.moves.proofs.Looked as Look'
use Rattle.moves.proofs.Steps as Step'

-- a search that ends, found or not, is no refusal to a claim
fits : {X : Type 0} (o : Option ℕ) (x : Refusal) → claimable (row_or_no o) ≡ Err x → X
fits None x h = no_ok h
fits (Some i) x h = no_ok h

module _ (xs : List Row) (ys ws : List ℕ) (e : Ends) (key : Key) (l : Result ℕ Refusal) (ends_are : ends_of e ≡ ends_is ws) (seen : Looked xs (length ys) e key l) where
  abbrev w : Watch Part
  w = watch_of xs ys e

  abbrev stepped : Act → Step (Watch Part) Out
  stepped a = Look'.stepped xs ys ws e key l ends_are seen a

  -- what was read stays
  stays : (s : Step (Watch Part) Out) (q r : Answer) (zs : List Row) (cs vs : List ℕ) → outcome q xs ys ws ≡ s → r ≡ q → Staying xs ys e zs cs vs → outcome r zs cs vs ≡ s
  stays s q r zs cs vs o a t = same ∙ o
    where
      ends : ends_is vs ≡ ends_is ws
      ends = t.2 ∙ ends_are

      same : outcome r zs cs vs ≡ outcome q xs ys ws
      same = rw (a, t.0, t.1, ends)

  -- a refusal that leaves what was read
  refused_as : (s : Step (Watch Part) Out) (x : Refusal) (r : Answer) (zs : List Row) (cs vs : List ℕ) → s ≡ refusal w (number_of x) → r ≡ Err x → Staying xs ys e zs cs vs → outcome r zs cs vs ≡ s
  refused_as s x r zs cs vs q a t = stays s (Err x) r zs cs vs (Look'.refuses xs ys ws e key l ends_are seen s x q) a t

  -- CHECK
  pub check_so : (z : Result ℕ Refusal) → l ≡ z → (r : Answer) (vs : List ℕ) → ends_is vs ≡ ends_of e → r ≡ checked_as xs z → outcome r xs ys vs ≡ stepped check
  check_so (Err x) q r vs t a = refused_as (stepped check) x r xs ys vs (Look'.no_step xs ys ws e key l ends_are seen check (λ o. refl) x q) a (refl, refl, t)
  check_so (Ok i) q r vs t a = stays (stepped check) r r xs ys vs (Step'.checked xs ys ws e key l ends_are seen i q r a) refl (refl, refl, t)

  -- JUDGING: which row is due
  pub soon_is : (now i : ℕ) → l ≡ Ok i → too_soon (get_or xs i blank).part.judged_ms now ≡ true → due_look xs l now ≡ Err R.TooSoon
  soon_is now i q y = ap (λ (z : Result ℕ Refusal). due_look xs z now) q ∙ rw y

  pub due_is : (now i : ℕ) → l ≡ Ok i → too_soon (get_or xs i blank).part.judged_ms now ≡ false → due_look xs l now ≡ Ok i
  due_is now i q n = ap (λ (z : Result ℕ Refusal). due_look xs z now) q ∙ rw n

  -- d is the row that was found and is due, or the first no, 9 among them
  pub judging_so : (now aircraft : ℕ) (d : Result ℕ Refusal) (j : Judgment) (zs : List Row) (r : Answer) (vs : List ℕ) → due_look xs l now ≡ d → JudgedAt xs ys d now aircraft j → r ≡ judged_as d j → zs ≡ judged_rows xs d now j → ends_is vs ≡ ends_of e
      → outcome r zs ys vs ≡ stepped (judging now aircraft)
  judging_so now aircraft d j zs r vs ed ej a p t = go l refl
    where
      -- the first no is said, and nothing changes
      turned_away : (x : Refusal) → due_look xs l now ≡ Err x → outcome (Err x) xs ys ws ≡ stepped (judging now aircraft) → outcome r zs ys vs ≡ stepped (judging now aircraft)
      turned_away x q o =
          let no : d ≡ Err x = sym ed ∙ q in
          stays (stepped (judging now aircraft)) (Err x) r zs ys vs o (a ∙ ap (λ (z : Result ℕ Refusal). judged_as z j) no) (p ∙ ap (λ (z : Result ℕ Refusal). judged_rows xs z now j) no, refl, t)

      -- the row is judged by its cells, and keeps the judgment and the clock
      told : (i : ℕ) → l ≡ Ok i → too_soon (get_or xs i blank).part.judged_ms now ≡ false → outcome r zs ys vs ≡ stepped (judging now aircraft)
      told i q n =
          same
          ∙ Step'.judged xs ys ws e key l ends_are seen i q now aircraft n j (subst (λ (z : Result ℕ Refusal). JudgedAt xs ys z now aircraft j) due ej) zs (p ∙ ap (λ (z : Result ℕ Refusal). judged_rows xs z now j) due)
        where
          due : d ≡ Ok i
          due = sym ed ∙ due_is now i q n

          answer : r ≡ Ok (Wd.Judged j)
          answer = a ∙ ap (λ (z : Result ℕ Refusal). judged_as z j) due

          ends : ends_is vs ≡ ends_is ws
          ends = t ∙ ends_are

          same : outcome r zs ys vs ≡ outcome (Ok (Wd.Judged j)) zs ys ws
          same = rw (answer, ends)

      go : (z : Result ℕ Refusal) → l ≡ z → outcome r zs ys vs ≡ stepped (judging now aircraft)
      go (Err x) q =
          let s = Look'.no_step xs ys ws e key l ends_are seen (judging now aircraft) (λ o. refl) x q in
          turned_away x (ap (λ (z : Result ℕ Refusal). due_look xs z now) q) (Look'.refuses xs ys ws e key l ends_are seen (stepped (judging now aircraft)) x s)
      go (Ok i) q = by_bool (too_soon (get_or xs i blank).part.judged_ms now)
          (λ y. turned_away R.TooSoon (soon_is now i q y) (Step'.undue xs ys ws e key l ends_are seen i q now aircraft y))
          (λ n. told i q n)

  -- TAKE-OUT
  pub take_so : (z : Result ℕ Refusal) → l ≡ z → (zs : List Row) (cs vs : List ℕ) (r : Answer) → RemovedRow xs ys e z zs cs vs r → outcome r zs cs vs ≡ stepped take_out
  take_so (Err x) q zs cs vs r p = refused_as (stepped take_out) x r zs cs vs (Look'.no_step xs ys ws e key l ends_are seen take_out (λ o. refl) x q) p.0 p.1
  take_so (Ok i) q zs cs vs r p = Step'.took_out xs ys ws e key l ends_are seen i q zs cs vs r p.0 p.1 p.2 p.3

  -- DROP-OLDEST: the look is for any key
  drop_unfit : (x : Refusal) → claimable l ≡ Err x → drop_oldest w ≡ refusal w (number_of x)
  drop_unfit x h = go (subst (λ (z : Result ℕ Refusal). claimable z ≡ Err x) (seen ys refl) h)
    where
      number : {y : Refusal} → ◌≡◌ {A = Result (Option ℕ) Refusal} (Err y) (Err x) → ◌≡◌ {A = Step (Watch Part) Out} (refusal w (number_of y)) (refusal w (number_of x))
      number p = ap {B = Step (Watch Part) Out} (λ z. refusal w (number_of z)) (one_err p)

      go : claimable (looked_in w key.bytes) ≡ Err x → drop_oldest w ≡ refusal w (number_of x)
      go q =
          by_bool (question1 form w)
          (λ a. by_bool (question2 form w) (λ b. fits (find_row unmade_part w.rows (length w.rows) key.bytes w.ends.head) x (rw (a, b) at q)) (λ b. rw (a, b) (number (rw (a, b) at q))))
          (λ a. rw a (number (rw a at q)))

  pub oldest_is : (o : Option ℕ) → claimable l ≡ Ok o → eqb e.head NONE ≡ false → oldest_look l e ≡ Ok e.head
  oldest_is o q n = ap (λ (z : Result (Option ℕ) Refusal). oldest_of z e) q ∙ rw n

  pub drop_so : (z : Result ℕ Refusal) → oldest_look l e ≡ z → (zs : List Row) (cs vs : List ℕ) (r : Answer) → RemovedRow xs ys e z zs cs vs r → outcome r zs cs vs ≡ drop_oldest (watch_is xs ys ws)
  drop_so z ez zs cs vs r p = go (claimable l) refl
    where
      as_looked : {y : Result ℕ Refusal} → oldest_look l e ≡ y → RemovedRow xs ys e y zs cs vs r
      as_looked q = subst (λ (x : Result ℕ Refusal). RemovedRow xs ys e x zs cs vs r) (sym ez ∙ q) p

      drop_is : drop_oldest (watch_is xs ys ws) ≡ drop_oldest w
      drop_is = ap drop_oldest (Look'.watch_same xs ys ws e key l ends_are seen)

      go : (y : Result (Option ℕ) Refusal) → claimable l ≡ y → outcome r zs cs vs ≡ drop_oldest (watch_is xs ys ws)
      go (Err x) q =
          let f = as_looked {y = Err x} (ap (λ (y : Result (Option ℕ) Refusal). oldest_of y e) q) in
          refused_as (drop_oldest (watch_is xs ys ws)) x r zs cs vs (drop_is ∙ drop_unfit x q) f.0 f.1
      go (Ok o) q = by_bool (eqb e.head NONE)
          (λ y.
          let f = as_looked {y = Err R.NotHeld} (ap (λ (x : Result (Option ℕ) Refusal). oldest_of x e) q ∙ rw y) in
          stays (drop_oldest (watch_is xs ys ws)) (Err R.NotHeld) r zs cs vs (Step'.drop_none xs ys ws e key l ends_are seen o q y) f.0 f.1)
          (λ n.
          let f = as_looked (oldest_is o q n) in
          Step'.dropped_one xs ys ws e key l ends_are seen o q n zs cs vs r f.0 f.1 f.2 f.3)

  -- CLAIM
  pub claim_so : (site : Option Site) (zs : List Row) (cs vs : List ℕ) (r : Answer) → ClaimedRow xs ys e l key site zs cs vs r → outcome r zs cs vs ≡ stepped (claim site)
  claim_so site zs cs vs r (by_look x f a t) = refused_as (stepped (claim site)) x r zs cs vs (Look'.claim_step xs ys ws e key l ends_are seen site x f) a t
  claim_so site zs cs vs r (by_site o x f ec a t) = stays (stepped (claim site)) (Err x) r zs cs vs (Step'.claim_out xs ys ws e key l ends_are seen site o f x ec) a t
  claim_so site zs cs vs r (seated o c s f ec es a z q v) = ap (λ (x : Answer). outcome x zs cs vs) a ∙ Step'.claimed_in xs ys ws e key l ends_are seen site o f c ec zs cs vs s es z q v

  -- POSITION
  pub position_so : (p : Position) (zs : List Row) (cs vs : List ℕ) (r : Answer) → HeardRow xs ys e l p zs cs vs r → outcome r zs cs vs ≡ stepped (position p)
  position_so p zs cs vs r (nobody x f a t) = refused_as (stepped (position p)) x r zs cs vs (Look'.no_step xs ys ws e key l ends_are seen (position p) (λ o. refl) x f) a t
  position_so p zs cs vs r (turned_down i x f eh a t) = stays (stepped (position p)) (Err x) r zs cs vs (Step'.not_heard xs ys ws e key l ends_are seen i f p x eh) a t
  position_so p zs cs vs r (placed i c f eh a z q v) = ap (λ (x : Answer). outcome x zs cs vs) a ∙ Step'.heard_so xs ys ws e key l ends_are seen i f p c eh zs cs vs z q v
