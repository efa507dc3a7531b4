-- The code's two passes: along the used chain, marking its rows, and over the rows that a tick names. Definitions only; proofs/Passes shows them to come to `turn_on`.
use Rattle.std.specs.Prelude.{◌≡◌, ℕ, zero, suc, ◌*◌, Bool, true, false, cond, List, [], ◌∷◌, get_or, set, length}
use Rattle.std.proofs.lemmas.List.Edits.{sets}
use Rattle.table.specs.Machine.{Key}
use Rattle.rows.specs.declared.Row.{Row}
use Rattle.rows.specs.Links.{blank}
use Rattle.turns.specs.Turn.{gave, Tick, following}

-- the rows of a chain marked, one after the other
abbrev pub mark_all : List ℕ → List Bool → List Bool
mark_all [] marks = marks
mark_all (i ∷ l) marks = mark_all l (set marks i true)

-- how many keys there are with the key of a row that is used or not, and the list with it, after the first n keys
abbrev pub count_after : Bool → ℕ → ℕ
count_after used n = cond used (suc n) n

abbrev pub list_after : Bool → Key → ℕ → List ℕ → List ℕ
list_after used key n list = cond used (sets list (32 * n) key) list

-- k rows from number `at` on, the keys of the marked ones written after the first n keys of the list
unfoldable pub passed : List Bool → List Row → ℕ → ℕ → ℕ → ℕ → List ℕ → Tick
passed marks rows C zero at n list = record { answer = gave n at; list = list }
passed marks rows C (suc k) at n list =
    let used = get_or marks at false in
    passed marks rows C k (following C at) (count_after used n) (list_after used (get_or rows at blank).key n list)

-- the key of each marked row among k from number `at` on has 32 bytes
abbrev pub keys_long : List Bool → List Row → ℕ → ℕ → ℕ → Type 0
keys_long marks rows C zero at = Unit {0}
keys_long marks rows C (suc k) at = (get_or marks at false ≡ true → length (get_or rows at blank).key ≡ 32) × keys_long marks rows C k (following C at)
