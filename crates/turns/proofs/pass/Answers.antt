-- `turns::pass` meets its contract: a row passed over leaves what the rest comes to, and with no row left that is what was given.
use Rattle.std.proofs.Common.{◌≡◌, ℕ, ◌<◌, ◌≤◌, ◌-◌, ◌+◌, false, get_or, sym, ap, subst, ◌∙◌, arith}
use Rattle.rows.specs.Links.{blank}
use Rattle.turns.specs.Passes.{passed, keys_long}
use Rattle.turns.proofs.Numbers.{following_below}
use Rattle.turns.proofs.Laws.{pass_goes, pass_ends, count_less, list_stays}
use Rattle.turns.proofs.Passes.{long_goes, no_key_left}
use Rattle.turns.proofs.pass.Goals as goal

pub loop-done-preserved : goal.loop-done-preserved
loop-done-preserved g c =
    let marks = c.args.marks.now in
    let xs = g.W.Lent.rows_in c.args.rows.now in
    let n = c.args.n in
    let l = c.loop-done in
    let at = c.following_row-at in
    let given = c.give-count in
    let used = get_or marks l.at false in
    let left : 0 < c.args.k - l.done = omega (arith, c.loop-done-test.true) in
    let less : c.args.k - (l.done + 1) ≡ c.args.k - l.done - 1 = omega (arith, c.loop-done-test.true) in (
      ap (λ (m : ℕ). passed marks xs n m at.result given.result given.new.list) less ∙ pass_goes marks xs n (c.args.k - l.done) l.at l.count l.list _ _ _ left at.ensures given.ensures.0 given.ensures.1 ∙ l.invariant.0,
      subst (λ (i : ℕ). i < n) (sym at.ensures) (following_below n l.at l.invariant.1),
      omega (arith, count_less used l.count, given.ensures.0, l.invariant.2),
      list_stays used (get_or xs l.at blank).key l.count l.list _ given.ensures.1 ∙ l.invariant.3,
      λ later. l.invariant.4 (long_goes marks xs n (c.args.k - l.done) l.at _ left at.ensures given.ensures.2 (subst (λ (m : ℕ). keys_long marks xs n m at.result) less later)),
    )

pub returns : goal.returns
returns g c =
    let marks = c.args.marks.now in
    let xs = g.W.Lent.rows_in c.args.rows.now in
    let l = c.loop-done in
    let none : c.args.k - l.done ≤ 0 = omega (arith, c.loop-done-test.false) in (
      pass_ends marks xs c.args.n (c.args.k - l.done) l.at l.count l.list _ none l.invariant.0,
      l.invariant.4 (no_key_left marks xs c.args.n (c.args.k - l.done) l.at none),
    )
