-- Every excess is a distance from 0 to 800 that the format holds, and so is the one that `past_horizon` answers; sorted, they ascend.
-- Assumes nothing.
use Rattle.std.specs.Prelude.{Some, None, Option}
use mathlib.Core.Path.{◌≡◌, refl, subst}
use mathlib.Core.Bool.{Bool, true, false, ◌&&◌, cond}
use mathlib.Core.List.{List, [], ◌∷◌}
use Prim.Native.Nat.{ℕ, zero, suc, ◌/◌, ◌%◌, ◌≤◌, ◌<◌}
use native.Mathlib.Nat.{not-suc-le-zero, le_of_suc-le-suc, mod-lt, zero-lt-suc}
use native.Mathlib.Omega.{arith}
use borrow.Author.Tests.{leb-true}
use lib.Dec.{T}
use lib.Ieee.{Float, nan, inf, fin, binary64, fits, lt, sub, of_int, round}
use lib.Ieee.Fits.{sub-fits}
use lib.ListN.{length, get_or}
use Rattle.floats.specs.Horizon.{allowance, past_of}
use Rattle.rank.specs.Rank.{insert, sorted, AllGood, Ascending}
use Rattle.root.specs.Root.{plain}
use Rattle.measures.specs.Steps.{distance}
use Rattle.floats.proofs.Excess.{by_is, in_range}
use Rattle.rank.proofs.Order.{sorted_ascending}
use Rattle.rank.proofs.Counted.{sorted_length}
use Rattle.cells.specs.Cells.{low_of, occupied_word, ceiling}
use Rattle.cells.specs.Passes.{pass}
use Rattle.sites.specs.Sites.{antenna}
use Rattle.sites.specs.declared.Site.{Site}
use Rattle.view.specs.declared.Far.{Far}
use Rattle.past_horizon.specs.Horizon.{edge_of, under_ceiling, bin_past, with_excess, excesses, enough_past, middle, horizon_past, past_horizon}

-- ---- an edge is a distance
edge_of_lem : (b : ℕ) → b < 9 → (j : ℕ) → j % 9 ≡ b → T (distance (edge_of j))
unfolding edge_of distance of_int round
edge_of_lem zero h j e = rw e tt
edge_of_lem (suc zero) h j e = rw e tt
edge_of_lem (suc (suc zero)) h j e = rw e tt
edge_of_lem (suc (suc (suc zero))) h j e = rw e tt
edge_of_lem (suc (suc (suc (suc zero)))) h j e = rw e tt
edge_of_lem (suc (suc (suc (suc (suc zero))))) h j e = rw e tt
edge_of_lem (suc (suc (suc (suc (suc (suc zero)))))) h j e = rw e tt
edge_of_lem (suc (suc (suc (suc (suc (suc (suc zero))))))) h j e = rw e tt
edge_of_lem (suc (suc (suc (suc (suc (suc (suc (suc zero)))))))) h j e = rw e tt
edge_of_lem (suc (suc (suc (suc (suc (suc (suc (suc (suc b))))))))) h j e = absurd (over b h)
  where
    over : (b : ℕ) → suc (suc (suc (suc (suc (suc (suc (suc (suc b)))))))) < 9 → ⊥
    over b h = omega arith

edge_distance : (j : ℕ) → T (distance (edge_of j))
edge_distance j = edge_of_lem (j % 9) (mod-lt j (zero-lt-suc 8)) j refl

-- ---- so is an excess
pub record Held (x : Float) : Type 0 where
  pub near : T (distance x)
  pub fit : T (fits binary64 x)

past_held : (edge a b km : Float) → T (distance edge) → past_of edge a b ≡ Some km → Held km
unfolding past_of
past_held edge a b km p h =
    let k = by_is (lt (allowance a b) edge) (sub binary64 edge (allowance a b)) km h in
    record { near = in_range edge a b km p h; fit = subst (λ (x : Float). T (fits binary64 x)) k.1 (sub-fits binary64 edge (allowance a b)) }

never : (km : Float) → None ≡ Some km → ⊥
never km h = let z : ◌≡◌ {A = ℕ} 0 1 = cc in omega arith

under_held : (c : Option Float) (j : ℕ) (a km : Float) → under_ceiling c j a ≡ Some km → Held km
unfolding under_ceiling
under_held (Some b) j a km h = past_held (edge_of j) a b km (edge_distance j) h
under_held None j a km h = absurd (never km h)

bin_held : (b : Bool) (c : Option Float) (j : ℕ) (a km : Float) → cond b (under_ceiling c j a) None ≡ Some km → Held km
bin_held true c j a km h = under_held c j a km h
bin_held false c j a km h = absurd (never km h)

-- ---- so are all of them
abbrev All : List Float → Type 0
All [] = Unit
All (x ∷ l) = Held x × All l

put_held : (p : Option Float) (l : List Float) → ((km : Float) → p ≡ Some km → Held km) → All l → All (with_excess p l)
put_held (Some km) l h a = (h km refl, a)
put_held None l h a = a

excesses_held : (bins : List ℕ) (a : Float) (n : ℕ) → All (excesses bins a n)
unfolding excesses bin_past pass
excesses_held bins a zero = tt
excesses_held bins a (suc n) =
    let w = get_or bins n 0 in
    put_held (bin_past w n a) (excesses bins a n) (λ km h. bin_held (occupied_word w) (ceiling (low_of w)) n a km h) (excesses_held bins a n)

insert_held : (x : Float) (l : List Float) → Held x → All l → All (insert x l)
unfolding insert
insert_held x [] g a = (g, tt)
insert_held x (y ∷ l) g a = go (lt x y) (insert_held y l a.0 a.1) (insert_held x l g a.1)
  where
    go : (b : Bool) → All (insert y l) → All (insert x l) → All (cond b x y ∷ insert (cond b y x) l)
    go true h k = (g, h)
    go false h k = (a.0, k)

sorted_held : (l : List Float) → All l → All (sorted l)
unfolding sorted
sorted_held [] a = tt
sorted_held (x ∷ l) a = insert_held x (sorted l) a.0 (sorted_held l a.1)

at_held : (l : List Float) (j : ℕ) → j < length l → All l → Held (get_or l j nan)
at_held [] j h a = absurd (not-suc-le-zero h)
at_held (x ∷ l) zero h a = a.0
at_held (x ∷ l) (suc j) h a = at_held l j (le_of_suc-le-suc h) a.1

-- ---- and so is the one in the middle
middle_is : (a b : Bool) (x km : Float) → cond (a && b) (Some x) None ≡ Some km → (a ≡ true) × (x ≡ km)
middle_is true true x km h = (refl, cc)
middle_is true false x km h = (refl, cc)
middle_is false b x km h = (cc, cc)

below : (n m : ℕ) → n ≡ m → 3 ≤ m → m / 2 < n
below n m e h = omega arith

pub past_distance : (site : Site) (far : Far) (km : Float) → past_horizon site far ≡ Some km → T (distance km)
unfolding past_horizon horizon_past enough_past middle
past_distance site far km h =
    let l = excesses far.cells (antenna site) 72 in
    let m = middle_is _ _ (middle l) km h in
    subst (λ (x : Float). T (distance x)) m.1
    (at_held (sorted l) (length l / 2) (below (length (sorted l)) (length l) (sorted_length l) (leb-true 3 (length l) m.0)) (sorted_held l (excesses_held far.cells (antenna site) 72))).near

-- ---- sorted, they ascend
plain_of : (x : Float) → T (distance x) → T (plain x)
unfolding distance
plain_of nan h = h
plain_of (inf s) h = h
plain_of (fin true m e) h = h
plain_of (fin false m e) h = tt

all_good : (l : List Float) → All l → AllGood l
all_good [] a = tt
all_good (x ∷ l) a = ((a.0.fit, plain_of x a.0.near), all_good l a.1)

pub excesses_good : (bins : List ℕ) (a : Float) (n : ℕ) → AllGood (excesses bins a n)
excesses_good bins a n = all_good (excesses bins a n) (excesses_held bins a n)

pub excesses_ascend : (bins : List ℕ) (a : Float) (n : ℕ) → Ascending (sorted (excesses bins a n))
excesses_ascend bins a n = sorted_ascending (excesses bins a n) (excesses_good bins a n)
