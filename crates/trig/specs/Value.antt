-- The integer that a `Num` of the code holds as its sign and its size.
use Rattle.std.specs.Prelude.{ℕ, Bool, true, false, ℤ, pos, neg_ℤ}
use Rattle.trig.specs.declared.num.Num.{Num}

-- the number of a sign (true: minus) and a size
unfoldable pub signed : Bool → ℕ → ℤ
signed false n = pos n
signed true n = neg_ℤ (pos n)

abbrev pub value : Num → ℤ
value n = signed n.minus n.size
