-- Whole and signed numbers as a list of calls writes them. Definitions only.
use Rattle.std.specs.Prelude.{ℕ, ◌+◌, ◌-◌, ◌*◌, ◌^◌, Bool, true, ◌&&◌, cond, List, [], ◌∷◌, length, get_or, drop, eqb, leb, ltb, pos, neg_ℤ, Some, None, Option, ℤ}

-- the value of a digit in ASCII: `0` to `9` from 48 on, `A` to `F` from 65, `a` to `f` from 97; 16, a digit in no base here, for any other byte
unfoldable pub digit_of : ℕ → ℕ
digit_of c =
    cond (ltb c 48) 16
    (cond (ltb c 58) (c - 48)
    (cond (ltb c 65) 16
    (cond (ltb c 71) (c - 55)
    (cond (ltb c 97) 16
    (cond (ltb c 103) (c - 87) 16)))))

-- every byte is a digit of the base
unfoldable pub all_digits : ℕ → List ℕ → Bool
unfolding digit_of
all_digits base [] = true
all_digits base (c ∷ s) = ltb (digit_of c) base && all_digits base s

-- the number that the digits n and then s write, the highest first
unfoldable pub value_on : ℕ → ℕ → List ℕ → ℕ
unfolding digit_of
value_on base n [] = n
value_on base n (c ∷ s) = value_on base (n * base + digit_of c) s

-- that number, where s is one digit or more and nothing else, and the number is at most `most`
unfoldable pub number_on : ℕ → ℕ → ℕ → List ℕ → Option ℕ
unfolding all_digits value_on
number_on base most n s =
    cond (ltb 0 (length s) && (all_digits base s && leb (value_on base n s) most)) (Some (value_on base n s)) None

-- a decimal number up to `most`
unfoldable pub whole_of : ℕ → List ℕ → Option ℕ
unfolding number_on
whole_of most s = number_on 10 most 0 s

-- a minus sign (45) in front, and what is left without it
unfoldable pub is_minus : List ℕ → Bool
is_minus s = eqb (get_or s 0 0) 45

unfoldable pub unsigned_of : List ℕ → List ℕ
unfolding is_minus
unsigned_of s = cond (is_minus s) (drop 1 s) s

-- a decimal i32
abbrev pub minus_of : Option ℕ → Option ℤ
minus_of (Some n) = Some (neg_ℤ (pos n))
minus_of None = None

abbrev pub plus_of : Option ℕ → Option ℤ
plus_of (Some n) = Some (pos n)
plus_of None = None

unfoldable pub signed_of : List ℕ → Option ℤ
unfolding is_minus unsigned_of whole_of
signed_of s = cond (is_minus s) (minus_of (whole_of (2 ^ 31) (unsigned_of s))) (plus_of (whole_of (2 ^ 31 - 1) (unsigned_of s)))
