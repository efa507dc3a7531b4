-- The scan that answers questions 2 and 3 in one pass, as far as it asks nothing of a row but its number and links. Definitions only; `rows/specs/Search` has the step over a row.
use Rattle.std.specs.Prelude.{ℕ, ◌+◌, ◌-◌, Bool, true, false, cond, not, ◌&&◌, ◌||◌, ltb, eqb, Option, Some, None, Result, Ok, Err}
use Rattle.table.specs.Refusals.{number_of}
use Rattle.table.specs.declared.Refusal.{Refusal}
use Rattle.table.specs.declared.Refusal.TheVariants as R
use Rattle.table.specs.Rows.{NONE}
use Rattle.scans.specs.declared.Key.{Key}
use Rattle.scans.specs.declared.Cursor.{Cursor}

-- A STEP ALONG A CHAIN
abbrev pub back_fits : Bool → ℕ → ℕ → Bool
back_fits b x p = cond b (eqb x p) true

abbrev pub first_found : Option ℕ → ℕ → Bool → Option ℕ
first_found (Some i) at t = Some i
first_found None at t = cond t (Some at) None

abbrev pub more_of : Cursor → ℕ → Bool
more_of s n = cond s.fits (cond (eqb s.left 0) false (ltb s.at n)) false

abbrev pub start_of : ℕ → ℕ → Bool → Key → Cursor
start_of n at b k = record { at = at; prev = NONE; left = n; back = b; fits = true; sound = true; found = None; key = k.bytes }

-- a chain's scan has come to its end
abbrev pub came_through : Cursor → Bool
came_through s = s.fits && eqb s.at NONE

-- both chains end, are together all n rows, the first ends in the tail and not where the second does, and every part is sound
abbrev pub chains_of : ℕ → ℕ → Cursor → Cursor → Bool
chains_of n tail a b =
    (came_through a && came_through b)
    && ((eqb (n - a.left + (n - b.left)) n && (eqb a.prev tail && (eqb (n - a.left) 0 || (eqb (n - b.left) 0 || not (eqb a.prev b.prev)))))
    && (a.sound && b.sound))

-- 2, or the row that was found, or 3
abbrev pub row_or_no : Option ℕ → Result ℕ Refusal
row_or_no (Some i) = Ok i
row_or_no None = Err R.NotHeld

abbrev pub look_of : ℕ → ℕ → Cursor → Cursor → Result ℕ Refusal
look_of n tail a b = cond (chains_of n tail a b) (row_or_no a.found) (Err R.NotInOrder)

-- a claim is not asked 3
abbrev pub claimable : Result ℕ Refusal → Result (Option ℕ) Refusal
claimable (Ok i) = Ok (Some i)
claimable (Err r) = cond (eqb (number_of r) 3) (Ok None) (Err r)
