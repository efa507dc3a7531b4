-- What the calls come to on the rows, cells and ends, by the row that was found or the first no. Definitions only; proofs/Entries shows them to be the
-- definitions' calls.
use Rattle.std.specs.Prelude.{◌≡◌, ℕ, ◌*◌, cond, ◌||◌, List, eqb, get_or, take, drop, Option, Result, Ok, Err}
use Rattle.std.proofs.lemmas.List.Edits.{sets}
use Rattle.table.specs.Rows.{NONE}
use Rattle.table.specs.declared.Refusal.{Refusal}
use Rattle.table.specs.declared.Refusal.TheVariants as R
use Rattle.sites.specs.declared.Site.{Site}
use Rattle.near_field.specs.declared.Judgment.{Judgment}
use Rattle.heard.specs.declared.Heard.{Heard}
use Rattle.heard.specs.declared.Position.{Position}
use Rattle.heard.specs.declared.Claiming.{Claiming}
use Rattle.heard.specs.declared.counting.Counting.{Counting}
use Rattle.heard.specs.Heard.{width, empty_cells, claimed, positioned}
use Rattle.heard.specs.Answers.{claiming_is, counting_is, hearing_is}
use Rattle.verdicts.specs.Verdict.{too_soon}
use Rattle.receiver.specs.declared.Part.{Part}
use Rattle.receiver.specs.Calls.{judging_of, judged_part}
use Rattle.rows.specs.declared.Row.{Row}
use Rattle.rows.specs.declared.Seat.{Seat}
use Rattle.rows.specs.Links.{blank, part_at, parted_rows, released_rows, released_ends, marked_rows, marked_ends, seat_of, seated_rows}
use Rattle.scans.specs.declared.Key.{Key}
use Rattle.scans.specs.declared.Ends.{Ends}
use Rattle.scans.specs.Ends.{ends_of, ends_is}
use Rattle.scans.specs.Scan.{claimable}
use Rattle.bodies.specs.Bodies.{claim_part}
use Rattle.moves.specs.declared.Word.TheVariants as Wd
use Rattle.moves.specs.Answers.{Answer, check_answer}

-- NOTHING CHANGES: the rows and cells are those before, and the ends those that were read
abbrev pub Staying : List Row → List ℕ → Ends → List Row → List ℕ → List ℕ → Type 0
Staying xs ys e zs cs vs = (zs ≡ xs) × (cs ≡ ys) × (ends_is vs ≡ ends_of e)

-- TAKE-OUT, DROP-OLDEST: the row is freed, its cells are emptied and its key is answered; or the first no
abbrev pub RemovedRow : List Row → List ℕ → Ends → Result ℕ Refusal → List Row → List ℕ → List ℕ → Answer → Type 0
RemovedRow xs ys e (Err x) zs cs vs r = (r ≡ Err x) × Staying xs ys e zs cs vs
RemovedRow xs ys e (Ok i) zs cs vs r = (r ≡ Ok (Wd.Freed (get_or xs i blank).key)) × (zs ≡ released_rows xs e i) × (cs ≡ sets ys (width * i) empty_cells) × (ends_is vs ≡ ends_of (released_ends xs e i))

-- which row is dropped: no key is sought, so 3 is asked of the order of use
abbrev pub oldest_of : Result (Option ℕ) Refusal → Ends → Result ℕ Refusal
oldest_of (Err x) e = Err x
oldest_of (Ok o) e = cond (eqb e.head NONE) (Err R.NotHeld) (Ok e.head)

abbrev pub oldest_look : Result ℕ Refusal → Ends → Result ℕ Refusal
oldest_look l e = oldest_of (claimable l) e

-- CHECK
abbrev pub checked_as : List Row → Result ℕ Refusal → Answer
checked_as xs (Err x) = Err x
checked_as xs (Ok i) = check_answer (get_or xs i blank).part.verdict

-- JUDGING: the row that was found, unless it is too soon, which is 9
abbrev pub due_look : List Row → Result ℕ Refusal → ℕ → Result ℕ Refusal
due_look xs (Err x) now = Err x
due_look xs (Ok i) now = cond (too_soon (get_or xs i blank).part.judged_ms now) (Err R.TooSoon) (Ok i)

-- what its cells tell; of no row nothing is judged, so any judgment will do
abbrev pub JudgedAt : List Row → List ℕ → Result ℕ Refusal → ℕ → ℕ → Judgment → Type 0
JudgedAt xs ys (Err x) now aircraft j = Unit {0}
JudgedAt xs ys (Ok i) now aircraft j = j ≡ judging_of (get_or xs i blank).part.heard (take width (drop (width * i) ys)) now aircraft

abbrev pub judged_as : Result ℕ Refusal → Judgment → Answer
judged_as (Err x) j = Err x
judged_as (Ok i) j = Ok (Wd.Judged j)

abbrev pub judged_rows : List Row → Result ℕ Refusal → ℕ → Judgment → List Row
judged_rows xs (Err x) now j = xs
judged_rows xs (Ok i) now j = parted_rows xs i (judged_part (get_or xs i blank).part now j)

-- CLAIM: refused by the look, by the claim; or accepted, where a row made for the key, or moved, gets empty cells
pub data ClaimedRow (xs : List Row) (ys : List ℕ) (e : Ends) (l : Result ℕ Refusal) (k : Key) (site : Option Site) (zs : List Row) (cs vs : List ℕ) (r : Answer) : Type 0 where
  by_look : (x : Refusal) → claimable l ≡ Err x → r ≡ Err x → Staying xs ys e zs cs vs → ClaimedRow xs ys e l k site zs cs vs r
  by_site : (o : Option ℕ) (x : Refusal) → claimable l ≡ Ok o → ((n : List ℕ) → claiming_is (Err x) n ≡ claimed (part_at xs o).heard n site) → r ≡ Err x → Staying xs ys e zs cs vs → ClaimedRow xs ys e l k site zs cs vs r
  seated : (o : Option ℕ) (c : Claiming) (s : Seat) → claimable l ≡ Ok o → ((n : List ℕ) → claiming_is (Ok c) n ≡ claimed (part_at xs o).heard n site) → s ≡ seat_of xs e o (claim_part (part_at xs o) c) → r ≡ Ok (Wd.Generation c.heard.generation s.pushed)
      → zs ≡ seated_rows xs e o k (claim_part (part_at xs o) c) → cs ≡ cond (s.made || c.moved) (sets ys (width * s.at) empty_cells) ys → ends_is vs ≡ ends_of s.ends → ClaimedRow xs ys e l k site zs cs vs r

-- POSITION: a part that keeps all but what was heard
abbrev pub heard_part : Part → Heard → Part
heard_part p h = record { heard = h; verdict = p.verdict; judged_ms = p.judged_ms }

-- refused by the look, by the row; or accepted, and the row is marked
pub data HeardRow (xs : List Row) (ys : List ℕ) (e : Ends) (l : Result ℕ Refusal) (p : Position) (zs : List Row) (cs vs : List ℕ) (r : Answer) : Type 0 where
  nobody : (x : Refusal) → l ≡ Err x → r ≡ Err x → Staying xs ys e zs cs vs → HeardRow xs ys e l p zs cs vs r
  turned_down : (i : ℕ) (x : Refusal) → l ≡ Ok i → ((n : List ℕ) → hearing_is (Err x) n ≡ positioned (get_or xs i blank).part.heard n p) → r ≡ Err x → Staying xs ys e zs cs vs → HeardRow xs ys e l p zs cs vs r
  placed : (i : ℕ) (c : Counting) → l ≡ Ok i → ((n : List ℕ) → hearing_is (Ok c) n ≡ positioned (get_or xs i blank).part.heard n p) → r ≡ Ok Wd.Done → zs ≡ marked_rows xs e i (heard_part (get_or xs i blank).part c.heard)
      → cs ≡ sets ys (width * i) (counting_is c (take width (drop (width * i) ys))) → ends_is vs ≡ ends_of (marked_ends xs e i (heard_part (get_or xs i blank).part c.heard)) → HeardRow xs ys e l p zs cs vs r
