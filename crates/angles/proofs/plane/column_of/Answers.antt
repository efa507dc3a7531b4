-- `column_of`: each width is half of the one before.
use Rattle.std.proofs.Common.{◌≡◌, ℕ, zero, suc, ◌+◌, ◌-◌, ◌*◌, ◌^◌, ◌<◌, ◌≤◌, [], ◌∷◌, get_or, refl, arith}
use Rattle.angles.proofs.plane.column_of.Goals as goal

width : (i : ℕ) → i < 4 → let n = get_or {A = ℕ} (16 ∷ 8 ∷ 4 ∷ 2 ∷ []) i 0 in (n ≤ 16) × (2 ^ (5 - i) ≡ 2 * n) × (2 ^ (5 - (i + 1)) ≡ n)
width zero l = (omega arith, refl, refl)
width (suc zero) l = (omega arith, refl, refl)
width (suc (suc zero)) l = (omega arith, refl, refl)
width (suc (suc (suc zero))) l = (omega arith, refl, refl)
width (suc (suc (suc (suc i)))) l = absurd (omega arith)

pub take_off-edge-requires : goal.take_off-edge-requires
take_off-edge-requires c =
    let l = c.loop-n in
    let w = width l.n-index c.loop-n-test.true in
    (w.0, omega (arith, w.1, l.invariant))

pub loop-n-preserved : goal.loop-n-preserved
loop-n-preserved c =
    let l = c.loop-n in
    let w = width l.n-index c.loop-n-test.true in
    (omega arith, omega (arith, l.invariant, c.take_off-edge.ensures), omega (arith, w.2, c.take_off-edge.ensures))
