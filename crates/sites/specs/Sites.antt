-- 01, 'Claims' and 'Against the Rust, and its unportable shapes': sites in degrees. What is placed and compared are their ticks.
use Rattle.std.specs.Prelude.{ℕ, Bool, ◌&&◌, cond, eqb, ℤ, pos, Float, Some, None, Option}
use Rattle.angles.specs.Place as ticks
use Rattle.measures.specs.Degrees.{in_degrees, tick_of}
use Rattle.floats.specs.Horizon.{antenna_of}
use Rattle.sites.specs.declared.Site.{Site}

-- Seven calls, question 4, of a site: 'Are both degrees finite, lat −90 to 90, lon −180 to 180?'
abbrev pub held : Site → Bool
held s = in_degrees s.lat s.lon

-- Claims: 'Same place (distance at most 1 km ..)', of the ticks
unfoldable pub same_place : Site → Site → Bool
same_place a b = ticks.same_place (tick_of a.lat) (tick_of a.lon) (tick_of b.lat) (tick_of b.lon)

-- A judging, 2: 'a = max(alt or 0, 0) + 100'
abbrev pub alt_or0 : Option ℤ → ℤ
alt_or0 (Some m) = m
alt_or0 None = pos 0

unfoldable pub antenna : Site → Float
antenna s = antenna_of (alt_or0 s.alt_m)

-- Against the Rust: 'the placing answers the cell, or 1,600 + bin': of a site's degrees and a position's
unfoldable pub placed : Float → Float → Float → Float → ℕ
placed site_lat site_lon lat lon = ticks.place (tick_of site_lat) (tick_of site_lon) (tick_of lat) (tick_of lon)

-- '.. and 65,535 for a "no" to question 4 on any of its four degrees'
unfoldable pub placing : Float → Float → Float → Float → ℕ
placing site_lat site_lon lat lon = cond (in_degrees site_lat site_lon && in_degrees lat lon) (placed site_lat site_lon lat lon) 65535

-- what C hands over as a tag and a value: none where the tag is 0
abbrev pub given : {A : Type 0} → ℕ → A → Option A
given tag x = cond (eqb tag 0) None (Some x)
