-- A turn writes one byte of the key more.
use Rattle.std.proofs.Common.{length-set, refl, arith}
use Rattle.keys.specs.Keys.{key_bytes}
use Rattle.keys.proofs.Keys.{key_on, key_whole}
use Rattle.keys.proofs.key_bytes.Goals as goal

pub loop-i-init : goal.loop-i-init
unfolding key_bytes
loop-i-init c = (refl, refl)

pub loop-i-preserved : goal.loop-i-preserved
loop-i-preserved c =
    let l = c.loop-i in (
      (simp length-set l.invariant.0),
      key_on c.args.s.now l.byte-items l.i c.key_byte.result (omega arith) l.invariant.1 c.key_byte.ensures,
    )

pub returns : goal.returns
returns c = let l = c.loop-i in key_whole c.args.s.now l.byte-items l.i l.invariant.0 (omega arith) l.invariant.1
