-- What a source has left to give and what a sink holds, where the reader and the writer say so, and whether an error came. Definitions only.
use Rattle.std.specs.Prelude.{ℕ, Bool, List, is_err, ⊤}
use Rattle.std.specs.declared.option.Option.{Option}
use Rattle.std.specs.declared.result.Result.{Result}
use Rattle.std.specs.declared.io.Error.{Error}
use Rattle.lines.specs.declared.streams.Stream.{Stream}

-- the reader, or the writer
abbrev pub inner_of : {T : Type 0} → Stream T → T
inner_of s = s.inner

-- the bytes that the reader has left
abbrev pub left_in : {R : Type 0} → (R → Option (List ℕ)) → Stream R → Option (List ℕ)
left_in remaining s = remaining s.inner

-- the bytes that the writer holds
abbrev pub held_by : {W : Type 0} → (W → Option (List ℕ)) → Stream W → Option (List ℕ)
held_by contents s = contents s.inner

-- an error came
abbrev pub source_failed : {R : Type 0} → Stream R → Bool
source_failed s = is_err s.said

abbrev pub sink_failed : {W : Type 0} → Stream W → Bool
sink_failed s = is_err s.said

-- what is said at the end: the error that came, if one did
abbrev pub ended : {T : Type 0} → Stream T → Result ⊤ Error
ended s = s.said
