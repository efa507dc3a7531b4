-- Each return is one way out: none, one or two of the nearest left out (`none_left_out`, `one_left_out`, `two_left_out`).
use Rattle.std.proofs.Common.{arith}
use Rattle.nothing_near.proofs.Left.{none_fit, none_left_out, first_fit, one_fit, one_left_out, second_fit, two_fit, two_left_out}
use Rattle.nothing_near.proofs.steps_from_third.Goals as goal

pub typical_steps-requires : goal.typical_steps-requires
typical_steps-requires c = let p = c.requires in none_fit _ _ _ p.0 p.1 p.2

pub returns-then-total-first : goal.returns-then-total-first
returns-then-total-first c =
    let t = c.typical_steps.ensures in
    (λ grid far kept. none_left_out _ _ _ grid far kept c.if-total-first.true _ t.0, t.1)

pub without-later-requires : goal.without-later-requires
without-later-requires c = let p = c.requires in first_fit _ _ _ p.0 p.1 p.2

pub typical_steps-requires-then-left-second : goal.typical_steps-requires-then-left-second
typical_steps-requires-then-left-second c =
    let p = c.requires in
    one_fit _ _ _ p.0 p.1 p.2 (omega arith) c.if-total-first.false _ c.without-later.ensures

pub returns-then-left-second : goal.returns-then-left-second
returns-then-left-second c =
    let t = c.typical_steps-then-left-second.ensures in
    (λ grid far kept. one_left_out _ _ _ grid far kept (omega arith) c.if-total-first.false _ c.without-later.ensures c.if-left-second.true _ t.0, t.1)

pub without-requires : goal.without-requires
without-requires c =
    let p = c.requires in
    second_fit _ _ _ p.0 p.1 p.2 (omega arith) c.if-total-first.false _ c.without-later.ensures

pub typical_steps-requires-2 : goal.typical_steps-requires-2
typical_steps-requires-2 c =
    let p = c.requires in
    two_fit _ _ _ p.0 p.1 p.2 (omega arith) c.if-total-first.false _ c.without-later.ensures c.if-left-second.false _ c.without.ensures

pub returns : goal.returns
returns c =
    let t = c.typical_steps-2.ensures in (
      λ grid far kept. two_left_out _ _ _ grid far kept (omega arith) c.if-total-first.false _ c.without-later.ensures c.if-left-second.false _ c.without.ensures _ t.0,
      t.1,
    )
