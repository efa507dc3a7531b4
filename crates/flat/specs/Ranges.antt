-- The range of a row's parts, as their types have it. Definitions only.
use Rattle.std.specs.Prelude.{◌≤◌}
use Rattle.heard.specs.declared.Heard.{Heard}
use Rattle.rows.specs.declared.Row.{Row}
use Rattle.packing.specs.Words.{most32}
use Rattle.packing.specs.Ranges.{KeyIn, SiteIn, IdIn, VerdictIn}

pub record HeardIn (h : Heard) : Type 0 where
  pub site : SiteIn h.site
  pub generation : h.generation ≤ most32
  pub even : IdIn h.even
  pub odd : IdIn h.odd

pub record RowIn (r : Row) : Type 0 where
  pub key : KeyIn r.key
  pub heard : HeardIn r.part.heard
  pub verdict : VerdictIn r.part.verdict
  pub clock : IdIn r.part.judged_ms
  pub prev : r.prev ≤ most32
  pub next : r.next ≤ most32
