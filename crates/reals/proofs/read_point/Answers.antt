-- Each way out is a case of `point_of`: too long, no point, a bad part before it, a bad part behind it, a number.
use Rattle.std.proofs.Common.{◌+◌, sym, ap, ◌∙◌, arith, Some, None}
use Rattle.numbers.specs.Numbers.{number_on}
use Rattle.fields.proofs.Lines.{tail}
use Rattle.numbers.proofs.Values.{within}
use Rattle.reals.proofs.Decimals.{point_long, point_none, point_front, point_on}
use Rattle.reals.proofs.read_point.Goals as goal

pub returns-then-s-gt16 : goal.returns-then-s-gt16
returns-then-s-gt16 c = sym (point_long c.args.minus c.args.s.now c.if-s-gt16.true)

pub returns-in_err-p : goal.returns-in_err-p
returns-in_err-p c = c.from_residual.ensures ∙ sym (point_none c.args.minus c.args.s.now (omega arith) c.in_err-p.ensures.is)

pub read_on-requires-2 : goal.read_on-requires-2
read_on-requires-2 c = (omega arith, within 10 999999999999999 0 c.in_ok-w.w _ (sym c.in_ok-w.ensures))

pub over_tens-requires : goal.over_tens-requires
over_tens-requires c = (omega arith, within 10 999999999999999 c.in_ok-w.w c.in_ok-m.m _ (sym c.in_ok-m.ensures))

pub returns : goal.returns
returns c =
    let a = c.args in
    let p = c.in_ok-p.p in
    ap Some c.over_tens.ensures
    ∙ sym (point_on a.minus a.s.now p (omega arith) c.in_ok-p.ensures.is c.in_ok-w.w (Some c.in_ok-m.m) (sym c.in_ok-w.ensures)
    (ap (number_on 10 999999999999999 c.in_ok-w.w) (sym (tail a.s.now (p + 1))) ∙ sym c.in_ok-m.ensures))

pub returns-in_err-m : goal.returns-in_err-m
returns-in_err-m c =
    let a = c.args in
    let p = c.in_ok-p.p in
    c.from_residual-in_err-m.ensures
    ∙ sym (point_on a.minus a.s.now p (omega arith) c.in_ok-p.ensures.is c.in_ok-w.w None (sym c.in_ok-w.ensures)
    (ap (number_on 10 999999999999999 c.in_ok-w.w) (sym (tail a.s.now (p + 1))) ∙ sym c.in_err-m.ensures))

pub returns-in_err-w : goal.returns-in_err-w
returns-in_err-w c =
    let a = c.args in
    c.from_residual-in_err-w.ensures
    ∙ sym (point_front a.minus a.s.now c.in_ok-p.p (omega arith) c.in_ok-p.ensures.is (sym c.in_err-w.ensures))
