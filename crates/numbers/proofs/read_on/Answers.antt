-- A digit that would bring the number above `most` is refused.
use Rattle.std.proofs.Common.{◌≡◌, ◌<◌, ℕ, ◌+◌, ◌*◌, drop, length, sym, ap, ◌∙◌, arith}
use Rattle.std.proofs.Math.Nat.{le_of_lt}
use Rattle.std.proofs.lemmas.Bool.{eqb-true, eqb-false}
use Rattle.numbers.specs.Numbers.{value_on}
use Rattle.numbers.proofs.Values.{digits_on, value_on_lem, no_digits, not_digit, too_large, read_all}
use Rattle.numbers.proofs.read_on.Goals as goal

pub returns-then-is_empty : goal.returns-then-is_empty
returns-then-is_empty c =
    let a = c.args in
    sym (no_digits a.base a.most a.from a.s.now (eqb-true (length a.s.now) 0 (sym c.if-is_empty.ensures)))

pub returns-then-d-base : goal.returns-then-d-base
returns-then-d-base c =
    let l = c.loop-c in
    let a = c.args in
    sym (not_digit a.base a.most a.from a.s.now l.c-index (omega arith) (omega (arith, c.digit-d.ensures)) l.invariant.1)

pub returns-in_err-checked_mul : goal.returns-in_err-checked_mul
returns-in_err-checked_mul c =
    let l = c.loop-c in
    let a = c.args in
    c.from_residual.ensures
    ∙ sym (too_large a.base a.most a.from l.n a.s.now l.c-index (le_of_lt c.requires.0) (omega arith) l.invariant.2 (omega (arith, c.in_err-checked_mul.ensures)))

pub returns-in_err-m : goal.returns-in_err-m
returns-in_err-m c =
    let l = c.loop-c in
    let a = c.args in
    c.from_residual-in_err-m.ensures
    ∙ sym (too_large a.base a.most a.from l.n a.s.now l.c-index (le_of_lt c.requires.0) (omega arith) l.invariant.2 (omega (arith, c.digit-d.ensures, c.in_ok-checked_mul.ensures.1, c.in_err-m.ensures)))

pub returns-then-m-most : goal.returns-then-m-most
returns-then-m-most c =
    let l = c.loop-c in
    let a = c.args in
    sym (too_large a.base a.most a.from l.n a.s.now l.c-index (le_of_lt c.requires.0) (omega arith) l.invariant.2 (omega (arith, c.digit-d.ensures, c.in_ok-checked_mul.ensures.1, c.in_ok-m.ensures.1)))

pub loop-c-preserved : goal.loop-c-preserved
loop-c-preserved c =
    let l = c.loop-c in
    let a = c.args in
    let m : c.in_ok-m.m ≡ l.n * a.base + c.digit-d.result = c.in_ok-m.ensures.1 ∙ ap (λ (z : ℕ). z + c.digit-d.result) c.in_ok-checked_mul.ensures.1 in (
      omega arith,
      l.invariant.1 ∙ digits_on a.base a.s.now l.c-index (omega arith) (omega (arith, c.digit-d.ensures)),
      l.invariant.2 ∙ value_on_lem a.base l.n a.s.now l.c-index (omega arith)
          ∙ ap (λ (z : ℕ). value_on a.base z (drop (l.c-index + 1) a.s.now)) (ap (λ (z : ℕ). l.n * a.base + z) (sym c.digit-d.ensures) ∙ sym m),
    )

pub returns : goal.returns
returns c =
    let l = c.loop-c in
    let a = c.args in
    let some : 0 < length a.s.now = (let e = eqb-false (length a.s.now) 0 (sym c.if-is_empty.ensures) in omega arith) in
    sym (read_all a.base a.most a.from l.n a.s.now l.c-index some (omega arith) l.invariant.0 l.invariant.1 l.invariant.2)
