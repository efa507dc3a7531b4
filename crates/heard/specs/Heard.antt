-- What a claim and a position do to a row's site, generation, ids and cells (01, 'Claims', 'Cells'; questions 4 to 6). Definitions only.
use Rattle.std.specs.Prelude.{ℕ, ◌+◌, ◌/◌, ◌%◌, ◌^◌, Bool, true, false, cond, List, replicate, ◌==◌, nat_le, slice_index, slice_set, Some, None, Option, ℤ}
use Rattle.std.proofs.lemmas.List.Edits.{sets}
use Rattle.table.specs.Machine.{Outcome, refuse, accept}
use Rattle.table.specs.Watch.{Body}
use Rattle.measures.specs.Degrees.{in_degrees}
use Rattle.sites.specs.Sites.{held, same_place, placed}
use Rattle.sites.specs.declared.Site.{Site}
use Rattle.cells.specs.Cells.{empty_word, added_word, bucket_of, aircraft_bit}
use Rattle.heard.specs.declared.Heard.{Heard}
use Rattle.heard.specs.declared.Position.{Position}

-- row by row: even half, odd half, each 1,600 grid cells, then 72 far bins
unfoldable pub half : ℕ
half = 1600 + 72

unfoldable pub width : ℕ
width = 3344

unfoldable pub empty_cells : List ℕ
empty_cells = replicate width empty_word

-- a fresh row's generation is 0, all else none
abbrev pub unheard : Heard
unheard = record { site = None; generation = 0; even = None; odd = None }

-- a claim moved the row, or not
pub data Moved : Type 0 where
  moved stayed : Moved

-- CLAIMS
-- a given altitude replaces the old, none keeps it
abbrev pub given : Option ℤ → Option ℤ → Option ℤ
given (Some m) old = Some m
given None old = old

-- Same place: kept degrees and generation stay.
abbrev pub kept_site : Heard → Site → Site → Heard
kept_site h old s = record { site = Some (record { lat = old.lat; lon = old.lon; alt_m = given s.alt_m old.alt_m }); generation = h.generation; even = h.even; odd = h.odd }

-- The site is stored, both halves emptied, their ids none, generation + 1 modulo 2^32. This is a move.
abbrev pub moved_to : Heard → Option Site → Heard
moved_to h c = record { site = c; generation = (h.generation + 1) % 2 ^ 32; even = None; odd = None }

abbrev pub move : Heard → Option Site → Outcome (Body Heard) Moved
move h c = accept (record { part = moved_to h c; cells = empty_cells }) moved

abbrev pub stay : Heard → List ℕ → Outcome (Body Heard) Moved
stay h l = accept (record { part = h; cells = l }) stayed

-- Same place (distance at most 1 km, both sites claimed); otherwise, unless both are none, a move.
abbrev pub claimed_site : Heard → List ℕ → Site → Option Site → Outcome (Body Heard) Moved
claimed_site h l s (Some old) = cond (same_place old s) (stay (kept_site h old s) l) (move h (Some s))
claimed_site h l s None = move h (Some s)

abbrev pub claimed_none : Heard → List ℕ → Option Site → Outcome (Body Heard) Moved
claimed_none h l (Some old) = move h None
claimed_none h l None = stay h l

-- 4: (claim with a site) Are both degrees finite, lat −90 to 90, lon −180 to 180?
abbrev pub claimed : Heard → List ℕ → Option Site → Outcome (Body Heard) Moved
claimed h l (Some s) = cond (held s) (claimed_site h l s h.site) (refuse 4)
claimed h l None = claimed_none h l h.site

-- POSITIONS
-- an epoch's id; even ids have the even half
abbrev pub epoch_of : ℕ → ℕ
epoch_of ms = ms / 43200000

abbrev pub is_even : ℕ → Bool
is_even id = id % 2 == 0

abbrev pub held_id : Bool → Heard → Option ℕ
held_id true h = h.even
held_id false h = h.odd

abbrev pub with_id : Bool → ℕ → Heard → Heard
with_id true id h = record { site = h.site; generation = h.generation; even = Some id; odd = h.odd }
with_id false id h = record { site = h.site; generation = h.generation; even = h.even; odd = Some id }

-- 6: Is at_ms div 43,200,000 at least the id held in its half, if one is held?
abbrev pub not_older : Option ℕ → ℕ → Bool
not_older (Some was) id = nat_le was id
not_older None id = true

abbrev pub holds_id : Option ℕ → ℕ → Bool
holds_id (Some was) id = was == id
holds_id None id = false

abbrev pub start_of : Bool → ℕ
start_of even = cond even 0 half

-- A newer id, or the first, empties its half.
unfoldable pub emptied : Bool → Bool → List ℕ → List ℕ
emptied even same l = cond same l (sets l (start_of even) (replicate half empty_word))

-- one position more in cell i
unfoldable pub counted_at : List ℕ → ℕ → Position → List ℕ
counted_at l i p = slice_set l i (added_word (slice_index l i) (bucket_of p.feet) (aircraft_bit p.address))

-- placed in its half, and counted
abbrev pub counted_in : Heard → List ℕ → Site → Position → ℕ → List ℕ
counted_in h l s p id = counted_at (emptied (is_even id) (holds_id (held_id (is_even id) h) id) l) (start_of (is_even id) + placed s.lat s.lon p.lat p.lon) p

abbrev pub on_site : Heard → List ℕ → Site → Position → ℕ → Outcome (Body Heard) (Unit {0})
on_site h l s p id =
    cond (not_older (held_id (is_even id) h) id)
    (accept (record { part = with_id (is_even id) id h; cells = counted_in h l s p id }) tt)
    (refuse 6)

-- 5: Does the row claim a site?
abbrev pub on_claimed : Heard → List ℕ → Position → Option Site → Outcome (Body Heard) (Unit {0})
on_claimed h l p (Some s) = on_site h l s p (epoch_of p.at_ms)
on_claimed h l p None = refuse 5

-- 4: (position) Are both degrees finite, lat −90 to 90, lon −180 to 180?
abbrev pub positioned : Heard → List ℕ → Position → Outcome (Body Heard) (Unit {0})
positioned h l p = cond (in_degrees p.lat p.lon) (on_claimed h l p h.site) (refuse 4)

-- (question 2) each held site within degrees
abbrev pub site_fits : Option Site → Bool
site_fits (Some s) = held s
site_fits None = true
