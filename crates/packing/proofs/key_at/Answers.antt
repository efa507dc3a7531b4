-- One word's bytes more at each step, and all 32 at the end (`key_step`, `key_all`).
use Rattle.std.proofs.Common.{◌≡◌, ◌*◌, ℕ, take, subst, ◌∙◌, arith}
use Rattle.packing.specs.Words.{key_of}
use Rattle.packing.proofs.Keys.{key_step, key_all}
use Rattle.packing.proofs.key_at.Goals as goal

pub loop-i-preserved : goal.loop-i-preserved
loop-i-preserved c =
    key_step c.loop-i.i c.args.words.now c.loop-i.key c.copy_from_slice.new.self (c.copy_from_slice.ensures.after ∙ c.to_le_bytes.ensures) c.loop-i-test.true c.loop-i.invariant.0 c.loop-i.invariant.1

pub returns : goal.returns
returns c =
    let e : c.loop-i.i ≡ 4 = omega arith in
    key_all c.args.words.now c.loop-i.key c.loop-i.invariant.0 (subst (λ (n : ℕ). take (8 * n) c.loop-i.key ≡ take (8 * n) (key_of c.args.words.now)) e c.loop-i.invariant.1)
