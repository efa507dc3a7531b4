-- 01, 'Ticks, plane and sphere', the fourth paragraph: the haversine, and the distances that it reaches.
use Rattle.std.specs.Prelude.{ℕ, suc, ◌*◌, ◌/◌, ◌^◌, Bool, cond, List, [], ◌∷◌, ℤ, pos, nat_abs, ◌+ℤ◌, ◌*ℤ◌}
use Rattle.std.specs.Int.Signed.{le_z}
use Rattle.trig.specs.Ticks.{scaled}
use Rattle.trig.specs.Series.{sin_h}
use Rattle.trig.specs.Angle.{sine, cosine}

-- 'A = sin(|dlat| div 2), B = sin(|dlon| div 2) in ticks': what the sines are of
abbrev pub half : ℤ → ℤ
half d = pos (nat_abs d / 2)

-- 'H = A² + (Q × B div 2^30) × B'
unfoldable pub hav : ℤ → ℤ → ℤ → ℤ
hav A B Q = A *ℤ A +ℤ scaled Q B *ℤ B

-- 'Haversine: .. Q = cos lat1 × cos lat2 div 2^30'
unfoldable pub haversine : ℤ → ℤ → ℤ → ℤ → ℤ
haversine lat1 lat2 dlat dlon = hav (sine (half dlat)) (sine (half dlon)) (scaled (cosine lat1) (cosine lat2))

-- 'sinH(D × 2^30 × 10,000 div 127,420,176)²'
unfoldable pub edge : ℕ → ℕ
edge D = sin_h (D * 2 ^ 30 * 10000 / 127420176) * sin_h (D * 2 ^ 30 * 10000 / 127420176)

-- 'Distance is at least D km when H ≥' that
unfoldable pub at_least : ℕ → ℤ → Bool
at_least D h = le_z (pos (edge D)) h

-- 'at most 1 km when H ≤ that at D = 1'
unfoldable pub at_most_one : ℤ → Bool
at_most_one h = le_z h (pos (edge 1))

-- '100, 150, 200, 250, 300, 350, 400, 500, 700'
abbrev pub edges : List ℕ
edges = 100 ∷ 150 ∷ 200 ∷ 250 ∷ 300 ∷ 350 ∷ 400 ∷ 500 ∷ 700 ∷ []

-- the number of the last of the edges that h reaches, the first of them being number k; `found` where it reaches none
abbrev pub last_reached : ℤ → List ℕ → ℕ → ℕ → ℕ
last_reached h [] k found = found
last_reached h (D ∷ Ds) k found = last_reached h Ds (suc k) (cond (at_least D h) k found)

-- 'Band: the last edge of .. reached, else 0.'
unfoldable pub band : ℤ → ℕ
band h = last_reached h edges 0 0
