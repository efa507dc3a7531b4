-- What the loop over the bins holds: the excesses so far lie at the array's end, the latest bin's first. Assumes nothing.
use Rattle.std.specs.Prelude.{Some, None, Option}
use mathlib.Core.Path.{◌≡◌, refl, sym, ap, ◌∙◌}
use mathlib.Core.Bool.{Bool, true, false, ◌&&◌, cond}
use mathlib.Core.List.{List, ◌∷◌}
use Prim.Native.Nat.{ℕ, zero, suc, ◌+◌, ◌-◌, ◌*◌, ◌/◌, ◌≤◌, ◌<◌}
use native.Mathlib.Omega.{arith}
use borrow.Author.Tests.{le-leb, lt-leb}
use lib.Bits.{bit_or}
use lib.Count.{ones}
use lib.Dec.{leb}
use lib.Ieee.{Float, nan}
use lib.ListN.{length, get_or, take, drop, set, length-set, length-drop, drop_of_length-le}
use lib.Seq.{take_all, drop-cons, drop-set-lt, get_or-set_same}
use Rattle.rank.specs.Rank.{sorted}
use Rattle.floats.specs.Horizon.{past_of}
use Rattle.cells.specs.Cells.{count_of, low_of, bits_of, occupied_word, ceiling}
use Rattle.cells.specs.Passes.{pass}
use Rattle.cells.proofs.Passes.{pass_next}
use Rattle.view.specs.declared.Far.{Far}
use Rattle.view.specs.View.{occupied_among}
use Rattle.past_horizon.specs.Horizon.{edge_of, under_ceiling, bin_past, with_excess, excesses, past_positions, past_aircraft, enough_past, middle, horizon_past}

-- ---- one bin
module _ (w j : ℕ) (a : Float) where
  pub unoccupied : occupied_word w ≡ false → None ≡ bin_past w j a
  unfolding bin_past
  unoccupied e = rw e

  pub at_height : (b : Float) → occupied_word w ≡ true → ceiling (low_of w) ≡ Some b → past_of (edge_of j) a b ≡ bin_past w j a
  unfolding bin_past under_ceiling
  at_height b e h = rw (e, h)

  pub at_no_height : occupied_word w ≡ true → ceiling (low_of w) ≡ None → None ≡ bin_past w j a
  unfolding bin_past under_ceiling
  at_no_height e h = rw (e, h)

-- ---- after i bins: sizes, and what was seen
pub record Sizes (xs : List Float) (at positions i : ℕ) : Type 0 where
  pub seen : i ≤ 72
  pub room : length xs ≡ 72
  pub few : 72 ≤ at + i
  pub most : at ≤ 72
  pub small : positions ≤ 255 * i

pub record Seen (bins : List ℕ) (a : Float) (xs : List Float) (at positions aircraft i : ℕ) : Type 0 where
  pub held : drop at xs ≡ excesses bins a i
  pub sum : positions ≡ past_positions bins a i
  pub marks : aircraft ≡ past_aircraft bins a i

pub none : (bins : List ℕ) (a : Float) (xs : List Float) (at : ℕ) → length xs ≤ at → Seen bins a xs at 0 0 0
unfolding excesses past_positions past_aircraft pass
none bins a xs at h = record { held = drop_of_length-le xs {i = at} h; sum = refl; marks = refl }

-- one more in front of those that fill an array from its end
in_front : (xs : List Float) (at : ℕ) (x : Float) → suc at ≤ length xs → drop at (set xs at x) ≡ x ∷ drop (suc at) xs
in_front xs at x h =
    drop-cons (set xs at x) at nan (omega (arith, length-set xs at x))
    ∙ ap (λ (y : Float). y ∷ drop (suc at) (set xs at x)) (get_or-set_same xs at x nan h)
    ∙ ap (λ (l : List Float). x ∷ l) (drop-set-lt (suc at) xs at x (omega arith))

module _ (bins : List ℕ) (a : Float) (xs : List Float) (at positions aircraft i : ℕ) (s : Seen bins a xs at positions aircraft i) where
  pub one_past :
      (km : Float) (c b : ℕ) → 1 ≤ at → at ≤ length xs → bin_past (get_or bins i 0) i a ≡ Some km
      → c ≡ count_of (get_or bins i 0) → b ≡ bits_of (get_or bins i 0) → Seen bins a (set xs (at - 1) km) (at - 1) (positions + c) (bit_or aircraft b) (i + 1)
  unfolding excesses past_positions past_aircraft
  one_past km c b low high e ec eb = record {
    held =
        rw (pass_next, e)
        (in_front xs (at - 1) km (omega arith) ∙ ap (λ (j : ℕ). km ∷ drop j xs) (let n : suc (at - 1) ≡ at = omega arith in n) ∙ ap (λ (l : List Float). km ∷ l) s.held);
    sum = rw (pass_next, e) (cc (s.sum, ec));
    marks = rw (pass_next, e) (cc (s.marks, eb));
  }

  pub not_past : bin_past (get_or bins i 0) i a ≡ None → Seen bins a xs at positions aircraft (i + 1)
  unfolding excesses past_positions past_aircraft
  not_past e = record { held = rw (pass_next, e) s.held; sum = rw (pass_next, e) s.sum; marks = rw (pass_next, e) s.marks }

-- ---- after all 72: n of them are past
pub record All (bins : List ℕ) (a : Float) (xs : List Float) (n positions aircraft : ℕ) : Type 0 where
  pub is : xs ≡ excesses bins a 72
  pub many : n ≡ length xs
  pub sum : positions ≡ past_positions bins a 72
  pub marks : aircraft ≡ past_aircraft bins a 72

pub all :
    (bins : List ℕ) (a : Float) (xs : List Float) (at positions aircraft i : ℕ) → Sizes xs at positions i → Seen bins a xs at positions aircraft i → i ≡ 72
    → All bins a (take (72 - at) (drop at xs)) (72 - at) positions aircraft
all bins a xs at positions aircraft i z s e =
    let whole = take_all (72 - at) (drop at xs) (omega (arith, z.room, length-drop at xs)) in
    record {
      is = whole ∙ s.held ∙ ap (excesses bins a) e;
      many = omega (arith, z.room, length-drop at xs, ap length whole);
      sum = s.sum ∙ ap (past_positions bins a) e;
      marks = s.marks ∙ ap (past_aircraft bins a) e;
    }

-- ---- a bin that is past is occupied: no more are past than are occupied
one_at_most : (occupied : Bool) (p : Option Float) (l : List Float) (k : ℕ) → length l ≤ k → length (with_excess (cond occupied p None) l) ≤ cond occupied (k + 1) k
one_at_most true (Some km) l k h = omega arith
one_at_most true None l k h = omega arith
one_at_most false p l k h = h

past_occupied : (bins : List ℕ) (a : Float) (n : ℕ) → length (excesses bins a n) ≤ occupied_among bins n
unfolding excesses occupied_among bin_past pass
past_occupied bins a zero = omega arith
past_occupied bins a (suc n) =
    let w = get_or bins n 0 in
    one_at_most (occupied_word w) (under_ceiling (ceiling (low_of w)) n a) (excesses bins a n) (occupied_among bins n) (past_occupied bins a n)

pub too_few_occupied : (far : Far) (a : Float) → occupied_among far.cells 72 < 3 → None ≡ horizon_past far a
unfolding horizon_past enough_past
too_few_occupied far a h = rw (lt-leb 3 (length (excesses far.cells a 72)) (omega (arith, past_occupied far.cells a 72)))

-- ---- the four answers
-- of three tests the second fails, or the third
second_fails : (x : Bool) (p : Option Float) → None ≡ cond (x && false) p None
second_fails true p = refl
second_fails false p = refl

third_fails : (x y : Bool) (p : Option Float) → None ≡ cond (x && (y && false)) p None
third_fails true y p = second_fails y p
third_fails false y p = refl

module _ (far : Far) (a : Float) (xs : List Float) (n positions aircraft : ℕ) (s : All far.cells a xs n positions aircraft) where
  bins_are : leb 3 (length (excesses far.cells a 72)) ≡ leb 3 n
  bins_are = ap (λ (l : List Float). leb 3 (length l)) (sym s.is) ∙ ap (leb 3) (sym s.many)

  aircraft_are : leb 3 (ones (past_aircraft far.cells a 72)) ≡ leb 3 (ones aircraft)
  aircraft_are = ap (λ (m : ℕ). leb 3 (ones m)) (sym s.marks)

  positions_are : leb far.positions (past_positions far.cells a 72 * 20) ≡ leb far.positions (positions * 20)
  positions_are = ap (λ (m : ℕ). leb far.positions (m * 20)) (sym s.sum)

  pub too_few : n < 3 → None ≡ horizon_past far a
  unfolding horizon_past enough_past
  too_few h = rw (bins_are ∙ lt-leb 3 n h)

  pub too_few_aircraft : ones aircraft < 3 → None ≡ horizon_past far a
  unfolding horizon_past enough_past
  too_few_aircraft h = rw (aircraft_are ∙ lt-leb 3 (ones aircraft) h) (second_fails (leb 3 (length (excesses far.cells a 72))) _)

  pub too_few_positions : positions * 20 < far.positions → None ≡ horizon_past far a
  unfolding horizon_past enough_past
  too_few_positions h =
      rw (positions_are ∙ lt-leb far.positions (positions * 20) h)
      (third_fails (leb 3 (length (excesses far.cells a 72))) (leb 3 (ones (past_aircraft far.cells a 72))) _)

  pub enough : (x : Float) → 3 ≤ n → 3 ≤ ones aircraft → far.positions ≤ positions * 20 → x ≡ get_or (sorted xs) (n / 2) nan → Some x ≡ horizon_past far a
  unfolding horizon_past enough_past middle
  enough x h k g e =
      rw (bins_are ∙ le-leb 3 n h, aircraft_are ∙ le-leb 3 (ones aircraft) k, positions_are ∙ le-leb far.positions (positions * 20) g)
      (ap Some (e ∙ ap (λ (m : ℕ). get_or (sorted xs) (m / 2) nan) s.many ∙ ap (λ (l : List Float). get_or (sorted l) (length l / 2) nan) s.is))
