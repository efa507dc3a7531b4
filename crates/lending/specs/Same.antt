-- What a watch holds of its caller's. Apart from `Lendings`, which the watch's own fact cites. Definitions only.
use Rattle.std.specs.Prelude.{◌≡◌}
use Rattle.lending.specs.declared.watch.Watch.{Watch}

-- the rows, the cells and the ends are the ones that were lent
abbrev pub SameLent : Watch → Watch → Type 0
SameLent v w = (w.rows.ghost_name ≡ v.rows.ghost_name) × (w.cells.ghost_name ≡ v.cells.ghost_name) × (w.ends.ghost_name ≡ v.ends.ghost_name)
