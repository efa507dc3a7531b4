-- The ends of the chains: how they are lent, and what the steps on links come to on them. Definitions only; `rows/proofs/Chains` shows these to be the steps of crate `table`.
use Rattle.std.specs.Prelude.{ℕ, cond, List, eqb, get_or}
use Rattle.table.specs.Rows as T
use Rattle.table.specs.Rows.{NONE, zero_key}
use Rattle.scans.specs.declared.Key.{Key}
use Rattle.scans.specs.declared.Ends.{Ends}

abbrev pub no_key : Key
no_key = record { bytes = zero_key }

abbrev pub ends_of : Ends → T.Ends
ends_of e = record { head = e.head; tail = e.tail; free = e.free }

-- three row numbers or none: first and last used, first free
abbrev pub ends_is : List ℕ → T.Ends
ends_is ws = record { head = get_or ws 0 0; tail = get_or ws 1 0; free = get_or ws 2 0 }

abbrev pub out_ends : Ends → ℕ → ℕ → Ends
out_ends e p n = record { head = cond (eqb p NONE) n e.head; tail = cond (eqb n NONE) p e.tail; free = e.free }

abbrev pub linked_ends : Ends → ℕ → Ends
linked_ends e i = record { head = cond (eqb e.tail NONE) i e.head; tail = i; free = e.free }

abbrev pub with_free : Ends → ℕ → Ends
with_free e n = record { head = e.head; tail = e.tail; free = n }

abbrev pub fresh_ends : Ends
fresh_ends = record { head = NONE; tail = NONE; free = 0 }
