-- Keys as a list of calls writes them. Definitions only.
use Rattle.std.specs.Prelude.{ℕ, zero, suc, ◌+◌, ◌-◌, ◌*◌, ◌%◌, Bool, ◌&&◌, cond, List, [], ◌∷◌, ◌++◌, length, get_or, leb, ltb, Some, None, Option}
use Rattle.numbers.specs.Numbers.{digit_of, all_digits}

-- KEY: 64 hex digits, or fewer, then zeros are put in front
unfoldable pub is_key : List ℕ → Bool
unfolding all_digits
is_key s = ltb 0 (length s) && (leb (length s) 64 && all_digits 16 s)

-- the value of digit k of the 64
unfoldable pub hex_at : List ℕ → ℕ → ℕ
unfolding digit_of
hex_at s k = cond (ltb k (64 - length s)) 0 (digit_of (get_or s (k - (64 - length s)) 0) % 16)

-- a byte is two digits, and the first n bytes are those of the first 2n
unfoldable pub key_byte : List ℕ → ℕ → ℕ
unfolding hex_at
key_byte s i = 16 * hex_at s (2 * i) + hex_at s (2 * i + 1)

unfoldable pub key_bytes : List ℕ → ℕ → List ℕ
unfolding key_byte
key_bytes s zero = []
key_bytes s (suc n) = key_bytes s n ++ (key_byte s n ∷ [])

unfoldable pub key_of : List ℕ → Option (List ℕ)
unfolding is_key key_bytes
key_of s = cond (is_key s) (Some (key_bytes s 32)) None
