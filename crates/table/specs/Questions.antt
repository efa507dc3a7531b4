-- Questions 1, 2 and 3 of a lent watch (01, 'Seven calls, seven questions'), each as 01 says it. Definitions only.
use Rattle.std.specs.Prelude.{ℕ, zero, suc, ◌*◌, Bool, true, false, not, cond, ◌&&◌, ◌||◌, List, [], ◌∷◌, leb, ltb, eqb, length, Option, None, Some}
use Rattle.table.specs.Machine.{Key, same}
use Rattle.table.specs.Rows.{NONE, Row, Watch, Form, row_at}

-- the most rows
unfoldable pub most : ℕ
most = 4096

-- 1: Is C from 1 to 4,096 with exactly `width` × C cells?
unfoldable pub question1 : {P : Type 0} → Form P → Watch P → Bool
question1 F w = leb 1 (length w.rows) && (leb (length w.rows) most && eqb (length w.cells) (F.width * length w.rows))

-- is number i in the list?
abbrev pub among : ℕ → List ℕ → Bool
among i [] = false
among i (j ∷ l) = eqb i j || among i l

-- number i is in exactly one of two lists
abbrev pub in_one : List ℕ → List ℕ → ℕ → Bool
in_one l m i = cond (among i l) (not (among i m)) (among i m)

-- each number below n is in exactly one of two lists
abbrev pub each_in_one : List ℕ → List ℕ → ℕ → Bool
each_in_one l m zero = true
each_in_one l m (suc n) = in_one l m n && each_in_one l m n

-- the last of a list; p where it is empty
abbrev pub last_of : ℕ → List ℕ → ℕ
last_of p [] = p
last_of p (i ∷ l) = last_of i l

abbrev pub onto : ℕ → Option (List ℕ) → Option (List ℕ)
onto i None = None
onto i (Some l) = Some (i ∷ l)

-- every row's part, the free rows' too
abbrev pub all_sound : {P : Type 0} → (P → Bool) → List (Row P) → Bool
all_sound sound [] = true
all_sound sound (r ∷ rows) = sound r.part && all_sound sound rows

-- u is the unmade part
module _ {P : Type 0} (u : P) where
  -- A chain: the row numbers from `at` along the links after, up to none. None where it leaves the rows, or goes on after f rows
  -- (f is C: it would come back on itself).
  abbrev pub chain : List (Row P) → ℕ → ℕ → Option (List ℕ)
  chain rows zero at = cond (eqb at NONE) (Some []) None
  chain rows (suc f) at = cond (eqb at NONE) (Some []) (cond (ltb at (length rows)) (onto at (chain rows f (row_at u rows at).next)) None)

  -- the links before: each row's is the row before it, the first one's is p
  abbrev pub back_links : List (Row P) → ℕ → List ℕ → Bool
  back_links rows p [] = true
  back_links rows p (i ∷ l) = eqb (row_at u rows i).prev p && back_links rows i l

  -- each row in exactly one of the used chain and the free chain, the used chain's back links and last row matching
  abbrev pub chains_match : Watch P → Option (List ℕ) → Option (List ℕ) → Bool
  chains_match w None free = false
  chains_match w (Some used) None = false
  chains_match w (Some used) (Some free) = each_in_one used free (length w.rows) && (back_links w.rows NONE used && eqb (last_of NONE used) w.ends.tail)

  -- 3: the first row of the used chain with the key, oldest first
  abbrev pub find_row : List (Row P) → ℕ → Key → ℕ → Option ℕ
  find_row rows zero k at = None
  find_row rows (suc f) k at = cond (eqb at NONE) None (cond (same k (row_at u rows at).key) (Some at) (find_row rows f k (row_at u rows at).next))

-- 2: Is each row in exactly one of the used chain and the free chain, the used chain's back links and last row matching, each held
-- site within degrees, and each held distance a step of 5 from 5 to 800? (The last two are the form's `sound`.)
unfoldable pub question2 : {P : Type 0} → Form P → Watch P → Bool
question2 F w =
    chains_match F.unmade w
    (chain F.unmade w.rows (length w.rows) w.ends.head)
    (chain F.unmade w.rows (length w.rows) w.ends.free)
    && all_sound F.sound w.rows
