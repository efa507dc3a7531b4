-- The scan that answers questions 1, 2 and 3 in one pass: what a step over a row comes to. Definitions only; proofs/Looks shows that it tells `looked_in`.
use Rattle.std.specs.Prelude.{ℕ, zero, suc, ◌-◌, ◌*◌, Bool, cond, ◌&&◌, List, leb, eqb, length, get_or}
use Rattle.table.specs.Machine.{same}
use Rattle.table.specs.Questions.{most}
use Rattle.heard.specs.Heard.{width}
use Rattle.rows.specs.Read.{fits}
use Rattle.rows.specs.Links.{blank}
use Rattle.rows.specs.declared.Row.{Row}
use Rattle.scans.specs.Scan.{back_fits, first_found, more_of}
use Rattle.scans.specs.declared.Cursor.{Cursor}

-- question 1
abbrev pub sizes_of : ℕ → ℕ → Bool
sizes_of n m = leb 1 n && (leb n most && eqb m (width * n))

abbrev pub step_of : Cursor → Row → Cursor
step_of s r = cond (eqb s.left 0) s (record {
  at = r.next;
  prev = s.at;
  left = s.left - 1;
  back = s.back;
  fits = back_fits s.back r.prev s.prev;
  sound = s.sound && fits r.part;
  found = first_found s.found s.at (same s.key r.key);
  key = s.key;
})

-- at most k steps
unfoldable pub scan_for : ℕ → List Row → Cursor → Cursor
scan_for zero rows s = s
scan_for (suc k) rows s = cond (more_of s (length rows)) (scan_for k rows (step_of s (get_or rows s.at blank))) s

unfoldable pub scanned : List Row → Cursor → Cursor
scanned rows s = scan_for s.left rows s
