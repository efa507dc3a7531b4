-- What a line of the list says. Definitions only.
use Rattle.std.specs.Prelude.{ℕ, zero, suc, ◌+◌, ◌-◌, ◌^◌, cond, ◌&&◌, List, length, ◌==◌, nat_lt, Some, None, Option, Ok, Err, Result, ℤ, ⊤, unwrap_or}
use Rattle.std.specs.Option.{option_and}
use Rattle.fields.specs.Text.{spell, first_of, part_of, same_bytes}
use Rattle.numbers.specs.Numbers.{whole_of, signed_of}
use Rattle.probes.specs.Judged.{without_degrees}
use Rattle.vectors.specs.declared.read.Unread.{Unread}
use Rattle.vectors.specs.declared.read.Setting.{Setting}
use Rattle.vectors.specs.declared.read.Row.{Row}

-- words are separated by single spaces (32)
abbrev pub first_word : List ℕ → List ℕ
first_word t = part_of t 0 (first_of 32 t)

abbrev pub rest_words : List ℕ → List ℕ
rest_words t = part_of t (first_of 32 t + 1) (length t)

-- word k, empty where there is no such word
unfoldable pub word_of : ℕ → List ℕ → List ℕ
word_of zero t = first_word t
word_of (suc k) t = word_of k (rest_words t)

-- what cannot be read, and what is read on from what was
abbrev pub Said : Type 0 → Type 0
Said A = Result A Unread

abbrev pub unread : {A : Type 0} → Said A
unread = Err (record {})

abbrev pub and_then : {A B : Type 0} → Said A → (A → Said B) → Said B
and_then (Ok x) f = f x
and_then (Err e) f = Err e

-- a word that was read as a number, or `-` (45) for none
abbrev pub number_read : {A : Type 0} → Option A → Said (Option A)
number_read (Some n) = Ok (Some n)
number_read None = unread

unfoldable pub noted : {A : Type 0} → List ℕ → Option A → Said (Option A)
noted s read = cond (same_bytes s (spell "-")) (Ok None) (number_read read)

abbrev pub whole_in : List ℕ → Said (Option ℕ)
whole_in s = noted s (whole_of (2 ^ 64 - 1) s)

abbrev pub metres_in : List ℕ → Said (Option ℤ)
metres_in s = noted s (signed_of s)

-- where a number is needed, none is 0
abbrev pub number_in : List ℕ → Said ℕ
number_in s = and_then (whole_in s) (λ n. Ok (unwrap_or n 0))

-- a line has no more words than it should
abbrev pub ended : List ℕ → Said ⊤
ended s = cond (length s == 0) (Ok tt) unread

-- cell I WORD, and no more: one of 3,344 cells, and 32 bits
abbrev pub cell_of : List ℕ → Said Setting
cell_of t =
    and_then (number_in (word_of 1 t)) (λ at.
    and_then (number_in (word_of 2 t)) (λ w.
    and_then (ended (word_of 3 t)) (λ end. cond (nat_lt at 3344 && nat_lt w 4294967296) (Ok (record { at = at; word = w })) unread)))

-- judging EVEN ODD SITE ALT NOW_MS AIRCRAFT ANSWER, and no more
abbrev pub row_of : List ℕ → Said Row
row_of t =
    and_then (whole_in (word_of 1 t)) (λ even.
    and_then (whole_in (word_of 2 t)) (λ odd.
    and_then (whole_in (word_of 3 t)) (λ site.
    and_then (metres_in (word_of 4 t)) (λ alt.
    and_then (number_in (word_of 5 t)) (λ now.
    and_then (number_in (word_of 6 t)) (λ aircraft.
    and_then (number_in (word_of 7 t)) (λ answer.
    and_then (ended (word_of 8 t)) (λ end.
    Ok (record { even = even; odd = odd; site = option_and site (Some (without_degrees alt)); now_ms = now; aircraft = aircraft; answer = answer })))))))))
