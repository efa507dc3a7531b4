-- What a line is answered, as text (README, 'A list of calls'). Definitions only.
use Rattle.std.specs.Prelude.{ℕ, zero, suc, ◌+◌, Bool, cond, List, [], length, get_or, eqb, leb, Option, Some, None, Result, Ok, Err}
use Rattle.std.specs.Float.{binary64}
use Rattle.std.specs.Float.Ieee.{to_bits}
use Rattle.fields.specs.Text.{spell, part_of, shown_of}
use Rattle.print.specs.Print.{digits, decimal_text, bits_text, put_in}
use Rattle.near_field.specs.declared.Judgment.{Judgment}
use Rattle.near_field.specs.declared.Judgment.TheVariants as judgment
use Rattle.near_field.specs.declared.Evidence.{Evidence}
use Rattle.near_field.specs.declared.Evidence.TheVariants as evidence
use Rattle.verdicts.specs.declared.CheckState.{CheckState}
use Rattle.verdicts.specs.declared.CheckState.TheVariants as state
use Rattle.table.specs.Refusals.{number_of}
use Rattle.table.specs.declared.Refusal.{Refusal}
use Rattle.moves.specs.Answers.{Answer}
use Rattle.moves.specs.declared.Word.{Word}
use Rattle.moves.specs.declared.Word.TheVariants as word
use Rattle.answers.specs.Words.{◌then◌, name_text}
use Rattle.answers.specs.declared.Reply.{Reply}
use Rattle.readers.specs.declared.Fault.{Fault}
use Rattle.readers.specs.declared.Fault.TheVariants as fault
use Rattle.answers.specs.declared.Reply.TheVariants as reply

-- ---- `error LINE: what is wrong`

-- a word of the line, as far as it can be shown
abbrev pub shown_text : List ℕ → List ℕ
shown_text w = part_of w 0 (shown_of w)

-- a space (32) or a comma that separates nothing
abbrev pub stray_text : ℕ → List ℕ
stray_text sep = cond (eqb sep 32) (spell "stray space") (spell "stray comma")

abbrev pub fault_text : Fault → List ℕ → List ℕ
fault_text (fault.Missing n) line = name_text n then spell " missing"
fault_text (fault.NotNumber n) line = name_text n then spell " is not a number"
fault_text fault.NotKey line = spell "KEY is not 1 to 64 hex digits"
fault_text (fault.Extra n) line = spell "unexpected field after " then name_text n
fault_text (fault.Stray sep) line = stray_text sep
fault_text fault.StrayReturn line = spell "stray carriage return"
fault_text fault.TooLong line = spell "line is longer than 1024 bytes"
fault_text (fault.Unknown end) line = spell "unknown call '" then shown_text (part_of line 0 end) then spell "'"
fault_text fault.TooManyRows line = spell "C is above 64, the most rows that are served"
fault_text fault.TooManyCells line = spell "N is above 214016, the most cells that are served"
fault_text fault.NoSuchRow line = spell "I is past the rows"
fault_text fault.NoSuchCell line = spell "I is past the cells"

-- ---- the answers of calls

-- KEY is 64 hex digits: two for each of the 32 bytes, in their order
unfoldable pub bytes_text : List ℕ → ℕ → List ℕ
bytes_text key zero = []
bytes_text key (suc n) = bytes_text key n then digits 16 2 (get_or key n 0)

abbrev pub key_text : List ℕ → List ℕ
key_text key = bytes_text key 32

abbrev pub evidence_text : Evidence → List ℕ
evidence_text evidence.Horizon = spell " horizon"
evidence_text evidence.NearField = spell " nearfield"
evidence_text evidence.NothingNear = spell " nothingnear"

-- `ok unjudged`, `ok fits`, `ok wrong OFF horizon|nearfield|nothingnear` (judging)
abbrev pub judgment_text : Judgment → List ℕ
judgment_text judgment.Unjudged = spell "ok unjudged\n"
judgment_text judgment.Fits = spell "ok fits\n"
judgment_text (judgment.Wrong off by) = spell "ok wrong " then decimal_text off then evidence_text by then spell "\n"

-- `ok unjudged|fits`, `ok wrong OFF` (check)
abbrev pub state_text : CheckState → List ℕ
state_text state.Unjudged = spell "ok unjudged\n"
state_text state.Fits = spell "ok fits\n"
state_text (state.Wrong off) = spell "ok wrong " then decimal_text off then spell "\n"

-- `ok GENERATION PUSHED|-`
abbrev pub claim_text : ℕ → Option (List ℕ) → List ℕ
claim_text g (Some key) = spell "ok " then decimal_text g then spell " " then key_text key then spell "\n"
claim_text g None = spell "ok " then decimal_text g then spell " -" then spell "\n"

-- `ok KEY`, `ok`
abbrev pub word_text : Word → List ℕ
word_text (word.Generation g pushed) = claim_text g pushed
word_text (word.Judged j) = judgment_text j
word_text (word.Says s) = state_text s
word_text (word.Freed key) = spell "ok " then key_text key then spell "\n"
word_text word.Done = spell "ok\n"

-- `no N`
abbrev pub no_text : Refusal → List ℕ
no_text r = spell "no " then decimal_text (number_of r) then spell "\n"

abbrev pub call_text : Answer → List ℕ
call_text (Ok w) = word_text w
call_text (Err r) = no_text r

-- ---- the answer to a line

-- `same 1` where both are one place, `same 0` where not
abbrev pub bit_of : Bool → ℕ
bit_of b = cond b 1 0

abbrev pub wrong_text : Fault → ℕ → List ℕ → List ℕ
wrong_text f number line = spell "error " then decimal_text number then spell ": " then fault_text f line then spell "\n"

abbrev pub reply_text : Reply → List ℕ
reply_text (reply.Answered a) = call_text a
reply_text (reply.Place p) = spell "place " then decimal_text p then spell "\n"
reply_text (reply.Same b) = spell "same " then decimal_text (bit_of b) then spell "\n"
reply_text (reply.Horizon km) = spell "horizon " then bits_text (to_bits binary64 km) then spell "\n"
reply_text (reply.Bucket b) = spell "bucket " then decimal_text b then spell "\n"
reply_text (reply.Bit k) = spell "bit " then decimal_text k then spell "\n"
reply_text (reply.Digest d) = spell "digest " then bits_text d then spell "\n"

-- what a line comes to: something to say, nothing, or what is wrong
abbrev pub Replied : Type 0
Replied = Result (Option Reply) Fault

abbrev pub replied_text : Replied → ℕ → List ℕ → List ℕ
replied_text (Ok (Some r)) number line = reply_text r
replied_text (Ok None) number line = []
replied_text (Err f) number line = wrong_text f number line

-- of what a line comes to, its number and its bytes
unfoldable pub text_of : Replied → ℕ → List ℕ → List ℕ
text_of r number line = replied_text r number line

-- ---- the buffer

-- an answer is put where 128 bytes are free, which is more than any answer has; else nothing is put
unfoldable pub answered_in : List ℕ → ℕ → List ℕ → List ℕ
answered_in out n s = cond (leb (n + 128) (length out)) (put_in out n s) out

unfoldable pub answered_end : List ℕ → ℕ → List ℕ → ℕ
answered_end out n s = cond (leb (n + 128) (length out)) (n + length s) n
