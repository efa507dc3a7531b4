-- What `find` answers on the rest of the text decides between the three cases of `field_at`. The sums fit, since the field ends within the text.
use Rattle.std.proofs.Common.{◌≡◌, ℕ, List, length, take, drop, ◌-◌, length-drop, length-take-le, sym, ap, ◌∙◌, arith, lt-ltb, eq-eqb, ne_eqb}
use Rattle.std.proofs.lemmas.Bool.{le-ltb}
use Rattle.fields.specs.Text.{first_of, field_at}
use Rattle.fields.proofs.Lines.{find_le, tail}
use Rattle.fields.proofs.next_field.Goals as goal

-- what find answers: the next separator of the text from there on
found : (r sep from : ℕ) (t : List ℕ) → r ≡ first_of sep (take (length t - from) (drop from t)) → r ≡ first_of sep (drop from t)
found r sep from t e = e ∙ ap (first_of sep) (tail t from)

pub returns-then-from-t : goal.returns-then-from-t
unfolding field_at
returns-then-from-t c = simp (lt-ltb _ _ c.if-from-t.true)

pub returns-then-n-eq0 : goal.returns-then-n-eq0
unfolding field_at
returns-then-n-eq0 c =
    let f = found c.find-n.result c.args.sep c.args.from c.args.t.now c.find-n.ensures in
    simp (← f, le-ltb _ _ c.if-from-t.false, eq-eqb _ 0 c.if-n-eq0.true)

pub slice_bounds-result-end : goal.slice_bounds-result-end
slice_bounds-result-end c =
    let rest = take (length c.args.t.now - c.args.from) (drop c.args.from c.args.t.now) in
    sym (length-take-le c.find-n.result rest (omega (arith, c.find-n.ensures, find_le c.args.sep rest)))

pub overflow_add-result : goal.overflow_add-result
overflow_add-result c =
    let f = found c.find-n.result c.args.sep c.args.from c.args.t.now c.find-n.ensures in
    omega (arith, f, find_le c.args.sep (drop c.args.from c.args.t.now), length-drop c.args.from c.args.t.now)

pub overflow_add-result-2 : goal.overflow_add-result-2
overflow_add-result-2 c =
    let f = found c.find-n.result c.args.sep c.args.from c.args.t.now c.find-n.ensures in
    omega (arith, f, find_le c.args.sep (drop c.args.from c.args.t.now), length-drop c.args.from c.args.t.now)

pub returns : goal.returns
unfolding field_at
returns c =
    let f = found c.find-n.result c.args.sep c.args.from c.args.t.now c.find-n.ensures in
    simp (tail c.args.t.now c.args.from, ← f, le-ltb _ _ c.if-from-t.false, ne_eqb _ 0 c.if-n-eq0.false)
