-- Where the loop stops is the first number of steps that is reached (`found_steps`). What it goes over is all but the last of them.
use Rattle.std.proofs.Common.{◌≡◌, ◌<◌, ℕ, List, length, take, length-take, get_or, sym, suc, arith, below_none, below_more}
use Rattle.std.proofs.lemmas.List.{get_or-take}
use Rattle.nearest.proofs.Gathered.{below_zero, below_suc, below_plus}
use Rattle.nothing_near.proofs.Typical.{found_steps, reached_yes, reached_not}
use Rattle.nothing_near.proofs.typical_steps.Goals as goal

all_but_last : (at : List ℕ) → length at ≡ 161 → length (take 160 at) ≡ 160
all_but_last at e = simp length-take (omega arith)

same : (at : List ℕ) (k : ℕ) → length at ≡ 161 → k < length (take 160 at) → get_or (take 160 at) k 0 ≡ get_or at k 0
same at k e l = get_or-take 160 at k 0 (omega (arith, all_but_last at e))

pub slice_bounds-n-items-end : goal.slice_bounds-n-items-end
slice_bounds-n-items-end c = omega (arith, all_but_last c.args.at (omega arith))

pub offset_bounds-n-items-k : goal.offset_bounds-n-items-k
offset_bounds-n-items-k c = omega (arith, all_but_last c.args.at (omega arith))

pub loop-k-init : goal.loop-k-init
loop-k-init c = record { passed = sym (below_zero c.args.at); not_yet = below_none _ }

pub overflow_add-passed : goal.overflow_add-passed
overflow_add-passed c =
    let k = c.loop-k.k in
    omega (arith, same c.args.at k (omega arith) c.loop-k-test.true, below_suc c.args.at k, c.requires (suc k))

pub overflow_mul-passed : goal.overflow_mul-passed
overflow_mul-passed c =
    let k = c.loop-k.k in
    omega (arith, same c.args.at k (omega arith) c.loop-k-test.true, below_suc c.args.at k, c.requires (suc k))

pub overflow_cast-result : goal.overflow_cast-result
overflow_cast-result c = omega (arith, all_but_last c.args.at (omega arith))

pub returns-then-total-passed : goal.returns-then-total-passed
returns-then-total-passed c =
    let l = c.loop-k in
    let s = c.args in
    let n = same s.at l.k (omega arith) c.loop-k-test.true in
    let e = all_but_last s.at (omega arith) in (
      found_steps s.at s.total l.k (omega arith) l.invariant.not_yet
          (λ h. reached_yes s.at s.total l.passed l.k l.invariant.passed (omega (arith, c.if-total-passed.true))),
      omega arith,
    )

pub loop-k-preserved : goal.loop-k-preserved
loop-k-preserved c =
    let l = c.loop-k in
    let s = c.args in
    let n = same s.at l.k (omega arith) c.loop-k-test.true in
    record {
      passed = omega (arith, below_plus s.at l.k);
      not_yet = below_more _ _ l.invariant.not_yet (reached_not s.at s.total l.passed l.k l.invariant.passed (omega (arith, c.if-total-passed.false)));
    }

pub returns : goal.returns
returns c =
    let l = c.loop-k in
    let s = c.args in
    let n = all_but_last s.at (omega arith) in
    let e : l.k ≡ 160 = omega arith in
    (found_steps s.at s.total 160 (omega arith) (rw e at l.invariant.not_yet) (λ h. absurd (omega arith)), omega arith)
