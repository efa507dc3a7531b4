-- `middle_excess`: the loop holds Seen of Bins for whatever height the root was taken of; at the end that is the site's antenna.
-- Each return is one of the four answers.
use Rattle.std.proofs.Common.{◌≡◌, ℕ, ◌-◌, ◌≤◌, Float, List, get_or, take, drop, refl, sym, ap, ◌∙◌, subst, arith, rules}
use Rattle.root.specs.Root.{root}
use Rattle.rank.specs.Rank.{AllGood}
use Rattle.floats.specs.Horizon.{at_least_zero}
use Rattle.cells.proofs.Words.{count_small}
use Rattle.sites.specs.Sites.{antenna}
use Rattle.sites.specs.declared.Site.{Site}
use Rattle.view.specs.declared.Far.{Far}
use Rattle.past_horizon.specs.Horizon.{past_horizon}
use Rattle.past_horizon.proofs.Bins.{Sizes, Seen, none, one_past, not_past, All, all, too_few, too_few_aircraft, too_few_positions, enough}
use Rattle.past_horizon.proofs.Range.{excesses_good}
use Rattle.past_horizon.proofs.middle_excess.Goals as goal
use Rattle.past_horizon.proofs.middle_excess.Goals.{in-Some, in_default}

-- what the loop has at its end, h being the antenna's height and r its root
module _ (site : Site) (far : Far) (h r : Float) (xs : List Float) (at positions aircraft i : ℕ) (height : h ≡ antenna site) (taken : r ≡ root (at_least_zero h))
    (inv : Sizes xs at positions i × ((a : Float) → r ≡ root (at_least_zero a) → Seen far.cells a xs at positions aircraft i)) (over : 72 ≤ i) where
  ended : All far.cells (antenna site) (take (72 - at) (drop at xs)) (72 - at) positions aircraft
  ended =
      all far.cells (antenna site) xs at positions aircraft i inv.0 (inv.1 (antenna site) (taken ∙ ap (λ (x : Float). root (at_least_zero x)) height))
      (omega (arith, inv.0.seen))

-- what a turn leaves, by what each variable became
module _ {xs xs' : List Float} {at at' positions positions' i : ℕ} (e : xs' ≡ xs) (f : at' ≡ at) (g : positions' ≡ positions) where
  sizes_at : Sizes xs at positions i → Sizes xs' at' positions' i
  sizes_at s = rw (e, f, g) s

  seen_at : {bins : List ℕ} {a : Float} {aircraft aircraft' : ℕ} → aircraft' ≡ aircraft → Seen bins a xs at positions aircraft i → Seen bins a xs' at' positions' aircraft' i
  seen_at h s = rw (e, f, g, h) s

pub loop-i-init : goal.loop-i-init
loop-i-init c = (record { seen = omega arith; room = refl; few = omega arith; most = omega arith; small = omega arith }, λ a h. none _ a _ _ (omega arith))

pub overflow_add-positions : goal.overflow_add-positions
overflow_add-positions c =
    let z = c.loop-i.invariant.0 in
    record { fits = omega (arith, z.small, c.count_of-positions.ensures, count_small (get_or c.args.far.cells c.loop-i.i 0)) }

pub loop-i-preserved : goal.loop-i-preserved
loop-i-preserved c =
    let l = c.loop-i in
    let z = l.invariant.0 in
    elim c.match-bin_past.branch [
      | in-Some w ↦ (
        sizes_at w.xs-is w.at-is w.positions-is (record {
          seen = omega arith;
          room = search rules;
          few = omega (arith, z.few);
          most = omega (arith, z.most);
          small = omega (arith, z.small, w.count_of-positions.ensures, count_small (get_or c.args.far.cells l.i 0));
        }),
        λ a h. seen_at w.xs-is w.at-is w.positions-is w.aircraft-is
            (one_past c.args.far.cells a l.xs l.at l.positions l.aircraft l.i (l.invariant.1 a h) w.in-Some.km _ _
            (omega (arith, z.few)) (omega (arith, z.most, z.room)) (sym (c.bin_past.ensures a h) ∙ w.in-Some.is) w.count_of-positions.ensures w.bits_of-aircraft.ensures),
      )
      | in_default w ↦ (
        sizes_at w.xs-is w.at-is w.positions-is
            (record { seen = omega arith; room = z.room; few = omega (arith, z.few); most = z.most; small = omega (arith, z.small) }),
        λ a h. seen_at w.xs-is w.at-is w.positions-is w.aircraft-is
            (not_past _ a l.xs l.at l.positions l.aircraft l.i (l.invariant.1 a h) (sym (c.bin_past.ensures a h) ∙ w.in_default.is)),
      )
    ]

pub returns-then-n-lt3 : goal.returns-then-n-lt3
unfolding past_horizon
returns-then-n-lt3 c =
    let l = c.loop-i in
    too_few c.args.far (antenna c.args.site) (take (72 - l.at) (drop l.at l.xs)) (72 - l.at) l.positions l.aircraft
    (ended c.args.site c.args.far _ _ l.xs l.at l.positions l.aircraft l.i c.antenna_m.ensures c.root_of-antenna_root.ensures l.invariant c.loop-i-test.false)
    c.if-n-lt3.true

pub returns-then-aircraft-lt3 : goal.returns-then-aircraft-lt3
unfolding past_horizon
returns-then-aircraft-lt3 c =
    let l = c.loop-i in
    too_few_aircraft c.args.far (antenna c.args.site) (take (72 - l.at) (drop l.at l.xs)) (72 - l.at) l.positions l.aircraft
    (ended c.args.site c.args.far _ _ l.xs l.at l.positions l.aircraft l.i c.antenna_m.ensures c.root_of-antenna_root.ensures l.invariant c.loop-i-test.false)
    c.if-aircraft-lt3.true

pub returns-then-positions-far : goal.returns-then-positions-far
unfolding past_horizon
returns-then-positions-far c =
    let l = c.loop-i in
    too_few_positions c.args.far (antenna c.args.site) (take (72 - l.at) (drop l.at l.xs)) (72 - l.at) l.positions l.aircraft
    (ended c.args.site c.args.far _ _ l.xs l.at l.positions l.aircraft l.i c.antenna_m.ensures c.root_of-antenna_root.ensures l.invariant c.loop-i-test.false)
    c.if-positions-far.true

pub nth-requires : goal.nth-requires
nth-requires c =
    let l = c.loop-i in
    let e = ended c.args.site c.args.far _ _ l.xs l.at l.positions l.aircraft l.i c.antenna_m.ensures c.root_of-antenna_root.ensures l.invariant c.loop-i-test.false in
    (subst AllGood (sym e.is) (excesses_good c.args.far.cells (antenna c.args.site) 72), omega (arith, e.many, c.if-n-lt3.false))

pub returns : goal.returns
unfolding past_horizon
returns c =
    let l = c.loop-i in
    enough c.args.far (antenna c.args.site) (take (72 - l.at) (drop l.at l.xs)) (72 - l.at) l.positions l.aircraft
    (ended c.args.site c.args.far _ _ l.xs l.at l.positions l.aircraft l.i c.antenna_m.ensures c.root_of-antenna_root.ensures l.invariant c.loop-i-test.false)
    _ c.if-n-lt3.false c.if-aircraft-lt3.false c.if-positions-far.false c.nth.ensures
