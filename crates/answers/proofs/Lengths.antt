-- No answer has more than 128 bytes.
use mathlib.Core.Path.{◌≡◌, refl}
use mathlib.Core.Bool.{Bool, true, false, ◌&&◌, cond}
use mathlib.Core.List.{List, [], ◌∷◌}
use Prim.Native.Nat.{ℕ, zero, suc, ◌+◌, ◌-◌, ◌*◌, ◌≤◌, min}
use native.Mathlib.Omega.{arith}
use lib.Dec.{eqb, leb, ltb}
use lib.Ieee.{binary64, to_bits}
use Rattle.std.specs.Prelude.{Option, Some, None, Ok, Err}
use Rattle.table.specs.Refusals.{number_of}
use Rattle.moves.specs.Answers.{Answer}
use lib.ListN.{length, get_or, take, drop, length-append, length-take}
use Rattle.fields.specs.Text.{spell, part_of, shown_of, printable}
use Rattle.print.specs.Print.{digits, without_zeros, decimal_text, bits_text}
use Rattle.print.proofs.Printing.{digits_length}
use Rattle.near_field.specs.declared.Judgment.{Judgment}
use Rattle.near_field.specs.declared.Judgment.TheVariants as judgment
use Rattle.near_field.specs.declared.Evidence.{Evidence}
use Rattle.near_field.specs.declared.Evidence.TheVariants as evidence
use Rattle.verdicts.specs.declared.CheckState.{CheckState}
use Rattle.verdicts.specs.declared.CheckState.TheVariants as state
use Rattle.moves.specs.declared.Word.TheVariants as word
use Rattle.answers.specs.Words.{◌then◌, name_text}
use Rattle.answers.specs.Answers.{shown_text, stray_text, fault_text, bytes_text, key_text, evidence_text, judgment_text, state_text, claim_text, call_text, wrong_text, bit_of, reply_text, Replied, text_of}
use Rattle.answers.specs.declared.Reply.{Reply}
use Rattle.readers.specs.declared.Name.{Name}
use Rattle.readers.specs.declared.Fault.{Fault}
use Rattle.readers.specs.declared.Fault.TheVariants as fault
use Rattle.answers.specs.declared.Reply.TheVariants as reply

-- ---- the parts
one_of_two : (b : Bool) (s t : List ℕ) (n : ℕ) → length s ≤ n → length t ≤ n → length (cond b s t) ≤ n
one_of_two true s t n h i = h
one_of_two false s t n h i = i

fewer_digits : (s : List ℕ) → length (without_zeros s) ≤ length s
unfolding without_zeros
fewer_digits [] = omega arith
fewer_digits (c ∷ s) = one_of_two (eqb c 48 && ltb 0 (length s)) (without_zeros s) (c ∷ s) (suc (length s)) (omega (arith, fewer_digits s)) (omega arith)

pub decimal_length : (n : ℕ) → length (decimal_text n) ≤ 20
unfolding decimal_text
decimal_length n = omega (arith, fewer_digits (digits 10 20 n), digits_length 10 20 n)

bits_length : (n : ℕ) → length (bits_text n) ≡ 16
unfolding bits_text
bits_length n = digits_length 16 16 n

pub bytes_length : (key : List ℕ) (n : ℕ) → length (bytes_text key n) ≡ 2 * n
unfolding bytes_text
bytes_length key zero = refl
bytes_length key (suc n) = omega (arith, length-append (bytes_text key n) (digits 16 2 (get_or key n 0)), bytes_length key n, digits_length 16 2 (get_or key n 0))

shown_length : (w : List ℕ) → length (shown_text w) ≤ 32
unfolding part_of shown_of
shown_length w =
    let m = min 32 (printable w) in
    one_of_two (leb 0 m && leb m (length w)) (take (m - 0) (drop 0 w)) [] 32 (omega (arith, length-take (m - 0) w)) (omega arith)

name_length : (n : Name) → length (name_text n) ≤ 8
name_length n = grind arith

-- a text, a part and a text
module _ (a : List ℕ) where
  two : (b : List ℕ) (m n : ℕ) → length a ≤ m → length b ≤ n → length (a then b) ≤ m + n
  two b m n h i = omega (arith, length-append a b)

stray_length : (sep : ℕ) → length (stray_text sep) ≤ 64
stray_length sep = one_of_two (eqb sep 32) (spell "stray space") (spell "stray comma") 64 (omega arith) (omega arith)

fault_length : (f : Fault) (line : List ℕ) → length (fault_text f line) ≤ 64
fault_length (fault.Missing n) line = omega (arith, two (name_text n) (spell " missing") 8 8 (name_length n) (omega arith))
fault_length (fault.NotNumber n) line = omega (arith, two (name_text n) (spell " is not a number") 8 16 (name_length n) (omega arith))
fault_length fault.NotKey line = omega arith
fault_length (fault.Extra n) line = omega (arith, two (spell "unexpected field after ") (name_text n) 23 8 (omega arith) (name_length n))
fault_length (fault.Stray sep) line = stray_length sep
fault_length fault.StrayReturn line = omega arith
fault_length fault.TooLong line = omega arith
fault_length (fault.Unknown end) line =
    omega (arith, two (spell "unknown call '") (shown_text (part_of line 0 end) then spell "'") 14 33 (omega arith) (two (shown_text (part_of line 0 end)) (spell "'") 32 1 (shown_length (part_of line 0 end)) (omega arith)))
fault_length fault.TooManyRows line = omega arith
fault_length fault.TooManyCells line = omega arith
fault_length fault.NoSuchRow line = omega arith
fault_length fault.NoSuchCell line = omega arith

-- ---- the answers
counted_length : (head : List ℕ) (n : ℕ) (tail : List ℕ) → length head ≤ 9 → length tail ≤ 80 → length (head then decimal_text n then tail) ≤ 128
counted_length head n tail h i = omega (arith, two head (decimal_text n then tail) 9 100 h (two (decimal_text n) tail 20 80 (decimal_length n) i))

hexed_length : (head : List ℕ) (n : ℕ) → length head ≤ 9 → length (head then bits_text n then spell "\n") ≤ 128
hexed_length head n h = omega (arith, two head (bits_text n then spell "\n") 9 17 h (two (bits_text n) (spell "\n") 16 1 (omega (arith, bits_length n)) (omega arith)))

evidence_length : (by : Evidence) → length (evidence_text by then spell "\n") ≤ 80
evidence_length evidence.Horizon = omega arith
evidence_length evidence.NearField = omega arith
evidence_length evidence.NothingNear = omega arith

judgment_length : (j : Judgment) → length (judgment_text j) ≤ 128
judgment_length judgment.Unjudged = omega arith
judgment_length judgment.Fits = omega arith
judgment_length (judgment.Wrong off by) = counted_length (spell "ok wrong ") off (evidence_text by then spell "\n") (omega arith) (evidence_length by)

state_length : (s : CheckState) → length (state_text s) ≤ 128
state_length state.Unjudged = omega arith
state_length state.Fits = omega arith
state_length (state.Wrong off) = counted_length (spell "ok wrong ") off (spell "\n") (omega arith) (omega arith)

key_length : (key : List ℕ) → length (key_text key then spell "\n") ≤ 65
key_length key = two (key_text key) (spell "\n") 64 1 (omega (arith, bytes_length key 32)) (omega arith)

claim_length : (g : ℕ) (pushed : Option (List ℕ)) → length (claim_text g pushed) ≤ 128
claim_length g (Some key) = counted_length (spell "ok ") g (spell " " then key_text key then spell "\n") (omega arith) (omega (arith, key_length key))
claim_length g None = counted_length (spell "ok ") g (spell " -" then spell "\n") (omega arith) (omega arith)

call_length : (a : Answer) → length (call_text a) ≤ 128
call_length (Ok (word.Generation g pushed)) = claim_length g pushed
call_length (Ok (word.Judged j)) = judgment_length j
call_length (Ok (word.Says s)) = state_length s
call_length (Ok (word.Freed key)) = omega (arith, key_length key)
call_length (Ok word.Done) = omega arith
call_length (Err r) = counted_length (spell "no ") (number_of r) (spell "\n") (omega arith) (omega arith)

wrong_length : (f : Fault) (number : ℕ) (line : List ℕ) → length (wrong_text f number line) ≤ 128
wrong_length f number line =
    counted_length (spell "error ") number (spell ": " then fault_text f line then spell "\n") (omega arith)
    (omega (arith, two (fault_text f line) (spell "\n") 64 1 (fault_length f line) (omega arith)))

reply_length : (r : Reply) → length (reply_text r) ≤ 128
reply_length (reply.Answered a) = call_length a
reply_length (reply.Place p) = counted_length (spell "place ") p (spell "\n") (omega arith) (omega arith)
reply_length (reply.Same b) = counted_length (spell "same ") (bit_of b) (spell "\n") (omega arith) (omega arith)
reply_length (reply.Horizon km) = hexed_length (spell "horizon ") (to_bits binary64 km) (omega arith)
reply_length (reply.Bucket b) = counted_length (spell "bucket ") b (spell "\n") (omega arith) (omega arith)
reply_length (reply.Bit k) = counted_length (spell "bit ") k (spell "\n") (omega arith) (omega arith)
reply_length (reply.Digest d) = hexed_length (spell "digest ") d (omega arith)

pub text_length : (r : Replied) (number : ℕ) (line : List ℕ) → length (text_of r number line) ≤ 128
unfolding text_of
text_length (Ok (Some r)) number line = reply_length r
text_length (Ok None) number line = omega arith
text_length (Err f) number line = wrong_length f number line
