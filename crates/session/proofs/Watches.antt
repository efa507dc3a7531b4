-- A watch that is opened has at most 64 rows, and lies within what is lent.
use Rattle.std.proofs.Common.{◌≡◌, ℕ, ◌≤◌, List, length, arith}
use Rattle.lending.specs.declared.Size.{Size}
use Rattle.lending.specs.Lendings.{Within, Room}
use Rattle.session.specs.Watches.{sized_of}

pub sized_within : (c : ℕ) (z : Size) (xs ys xs' ys' : List ℕ) → z ≡ sized_of c → c ≤ 64 → Room xs ys → length xs' ≡ length xs → length ys' ≡ length ys → Within z xs' ys'
sized_within c z xs ys xs' ys' f few room lx ly = rw f (omega (arith, few, room.0, lx), omega (arith, few, room.1, ly))
