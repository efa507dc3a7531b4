-- What a line is answered, as a value. Definitions only.
use Rattle.std.specs.Prelude.{ℕ, ◌&&◌, cond, Float, Option, Some, None, Err}
use Rattle.std.specs.Int.Count.{count_trailing_zeros}
use Rattle.cells.specs.Cells.{bucket_of, aircraft_bit}
use Rattle.floats.specs.Horizon.{horizon}
use Rattle.sites.specs.Sites.{held, same_place, placing}
use Rattle.sites.specs.declared.Site.{Site}
use Rattle.grammar.specs.declared.Line.{Line}
use Rattle.grammar.specs.declared.Line.TheVariants as line
use Rattle.table.specs.declared.Refusal.TheVariants as R
use Rattle.answers.specs.declared.Reply.{Reply}
use Rattle.answers.specs.declared.Reply.TheVariants as reply

-- same LAT1 LON1 LAT2 LON2: degrees that get a no to question 4 are refused
abbrev pub site_of : Float → Float → Site
site_of a b = record { lat = a; lon = b; alt_m = None }

unfoldable pub same_of : Site → Site → Reply
same_of a b = cond (held a && held b) (reply.Same (same_place a b)) (reply.Answered (Err R.Degrees))

-- bit ADDRESS: the number of the aircraft's bit, from the lowest, 0
unfoldable pub bit_of : ℕ → ℕ
bit_of address = count_trailing_zeros 16 (aircraft_bit address)

-- a line of the watch gets no answer here, nor does a tick (crate `rounds` has it)
abbrev pub reply_of : Line → Option Reply
reply_of (line.Place a b c d) = Some (reply.Place (placing a b c d))
reply_of (line.Same a b c d) = Some (same_of (site_of a b) (site_of c d))
reply_of (line.Horizon a b) = Some (reply.Horizon (horizon a b))
reply_of (line.Bucket feet) = Some (reply.Bucket (bucket_of feet))
reply_of (line.Bit address) = Some (reply.Bit (bit_of address))
reply_of (line.Watch c) = None
reply_of (line.Call c) = None
reply_of (line.Turn n k m) = None
reply_of line.Digest = None
reply_of (line.Change m) = None
