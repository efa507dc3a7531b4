-- A row's verdict (01, 'Verdict and run'), and when it may be judged again (02, Item 3). Definitions only.
use Rattle.std.specs.Prelude.{ℕ, ◌+◌, ◌%◌, min, Bool, true, false, cond, ◌&&◌, ◌||◌, eqb, leb, ltb, Some, None, Option}
use Rattle.near_field.specs.declared.Judgment.{Judgment}
use Rattle.near_field.specs.declared.Judgment.TheVariants as Found
use Rattle.verdicts.specs.declared.Last.{Last}
use Rattle.verdicts.specs.declared.Last.TheVariants.{Unjudged, Fits, Wrong}
use Rattle.verdicts.specs.declared.Verdict.{Verdict}
use Rattle.verdicts.specs.declared.CheckState.{CheckState}
use Rattle.verdicts.specs.declared.CheckState.TheVariants as Says

-- each a byte that stops at 255
abbrev pub up : ℕ → ℕ
up n = min 255 (n + 1)

abbrev pub is_held : Option ℕ → Bool
is_held (Some d) = true
is_held None = false

-- A Wrong adds to the first count and zeroes the second; with three reached, or a distance held, its distance is held.
unfoldable pub wrongly : Verdict → ℕ → Verdict
wrongly v d = record {
  last = Wrong;
  wrong_run = up v.wrong_run;
  other_run = 0;
  wrong_by = cond (leb 3 (up v.wrong_run) || is_held v.wrong_by) (Some d) None;
  moved = false;
}

-- Any other (Fits, Unjudged) adds to the second and zeroes the first; three let the distance go.
unfoldable pub otherwise : Verdict → Last → Verdict
otherwise v l = record {
  last = l;
  wrong_run = 0;
  other_run = up v.other_run;
  wrong_by = cond (leb 3 (up v.other_run)) None v.wrong_by;
  moved = false;
}

-- one judging more
abbrev pub judged_once : Verdict → Judgment → Verdict
judged_once v (Found.Wrong d e) = wrongly v d
judged_once v Found.Fits = otherwise v Fits
judged_once v Found.Unjudged = otherwise v Unjudged

-- A run begins, counts 0 and no distance held,
abbrev pub begun : Verdict
begun = record { last = Unjudged; wrong_run = 0; other_run = 0; wrong_by = None; moved = false }

-- with the first judging after the row was made or moved.
abbrev pub goes_on : Option Verdict → Verdict
goes_on None = begun
goes_on (Some v) = cond v.moved begun v

abbrev pub judged_next : Option Verdict → Judgment → Option Verdict
judged_next v j = Some (judged_once (goes_on v) j)

-- (02, Item 3) A judging earlier than the last accepted one's now_ms plus 1,800,000 ms is turned down, a clock gone back included. Where none is kept, no judging
-- is too soon.
abbrev pub too_soon : Option ℕ → ℕ → Bool
too_soon (Some ms) now = ltb now (ms + 1800000)
too_soon None now = false

-- a move has ended the run
abbrev pub run_ended : Option Verdict → Option Verdict
run_ended None = None
run_ended (Some v) = Some (record { last = v.last; wrong_run = v.wrong_run; other_run = v.other_run; wrong_by = v.wrong_by; moved = true })

-- Check says wrong, with the distance, when one is held, else fits if the last judging was Fits, else unjudged.
abbrev pub plainly : Last → CheckState
plainly Fits = Says.Fits
plainly Unjudged = Says.Unjudged
plainly Wrong = Says.Unjudged

abbrev pub says_by : Option ℕ → Last → CheckState
says_by (Some d) l = Says.Wrong d
says_by None l = plainly l

abbrev pub says_verdict : Verdict → CheckState
says_verdict v = says_by v.wrong_by v.last

-- (question 2) each held distance a step of 5 from 5 to 800
abbrev pub step_of5 : ℕ → Bool
step_of5 d = eqb (d % 5) 0 && (leb 5 d && leb d 800)

abbrev pub by_fits : Option ℕ → Bool
by_fits (Some d) = step_of5 d
by_fits None = true

abbrev pub verdict_fits : Option Verdict → Bool
verdict_fits None = true
verdict_fits (Some v) = by_fits v.wrong_by
