-- 01, Claims: 'Same place (distance at most 1 km ..)', as a number for the comparison runs.
use Rattle.std.specs.Prelude.{ℕ, ◌&&◌, cond, Float}
use Rattle.angles.specs.Place.{same_place}
use Rattle.measures.specs.Degrees.{in_degrees, tick_of}

-- 1 for yes, 0 for no; 4 for a "no" to question 4 on any of the four degrees
unfoldable pub same_answer : Float → Float → Float → Float → ℕ
same_answer lat1 lon1 lat2 lon2 =
    cond (in_degrees lat1 lon1 && in_degrees lat2 lon2)
    (cond (same_place (tick_of lat1) (tick_of lon1) (tick_of lat2) (tick_of lon2)) 1 0)
    4
