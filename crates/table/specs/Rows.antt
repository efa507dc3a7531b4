-- A watch's rows, links and ends (01, 'Seven calls, seven questions'), and the steps on links that the order of use is made of
-- (01, 'The order of use'; the names are the Rust's). Definitions only. What a row holds beside key and links is a parameter.
use Rattle.std.specs.Prelude.{ℕ, Bool, cond, List, eqb, get_or, set, replicate}
use Rattle.table.specs.Machine.{Key}

-- no row: the largest number of 32 bits
unfoldable pub NONE : ℕ
NONE = 4294967295

-- A row: 32-byte key, what it holds, two links (before, after; the free chain uses the second).
pub record Row (P : Type 0) : Type 0 where
  pub key : Key
  pub part : P
  pub prev : ℕ
  pub next : ℕ

-- Three row numbers or none: first and last used, first free.
pub record Ends : Type 0 where
  pub head : ℕ
  pub tail : ℕ
  pub free : ℕ

-- A watch is C row records, their cells row by row, and the ends.
pub record Watch (P : Type 0) : Type 0 where
  pub rows : List (Row P)
  pub cells : List ℕ
  pub ends : Ends

-- What a row holds, for one kind of watch: the part of an unmade row, what question 2 asks of one row's part, how many cells a
-- row has, and a row's empty cells.
pub record Form (P : Type 0) : Type 0 where
  pub unmade : P
  pub sound : P → Bool
  pub width : ℕ
  pub blank : List ℕ

-- rows and ends: what the steps on links change
pub record Chain (P : Type 0) : Type 0 where
  pub rows : List (Row P)
  pub ends : Ends

abbrev pub chain_of : {P : Type 0} → Watch P → Chain P
chain_of w = record { rows = w.rows; ends = w.ends }

abbrev pub with_chain : {P : Type 0} → Watch P → Chain P → Watch P
with_chain w c = record { rows = c.rows; cells = w.cells; ends = c.ends }

unfoldable pub zero_key : Key
zero_key = replicate 32 0

-- A fresh row: its key is zeros, its part unmade, all else but the free chain's link none.
abbrev pub unmade_row : {P : Type 0} → P → ℕ → Row P
unmade_row u n = record { key = zero_key; part = u; prev = NONE; next = n }

-- a row with other links
abbrev pub relinked : {P : Type 0} → Row P → ℕ → ℕ → Row P
relinked r p n = record { key = r.key; part = r.part; prev = p; next = n }

-- u is the unmade part
module _ {P : Type 0} (u : P) where
  -- row number i
  abbrev pub row_at : List (Row P) → ℕ → Row P
  row_at rows i = get_or rows i (unmade_row u NONE)

  abbrev pub set_next : List (Row P) → ℕ → ℕ → List (Row P)
  set_next rows i n = set rows i (relinked (row_at rows i) (row_at rows i).prev n)

  abbrev pub set_prev : List (Row P) → ℕ → ℕ → List (Row P)
  set_prev rows i p = set rows i (relinked (row_at rows i) p (row_at rows i).next)

  abbrev pub set_links : List (Row P) → ℕ → ℕ → ℕ → List (Row P)
  set_links rows i p n = set rows i (relinked (row_at rows i) p n)

  -- `unlink`: row i leaves the used chain
  unfoldable pub unlink : Chain P → ℕ → Chain P
  unlink c i =
      let p = (row_at c.rows i).prev in
      let n = (row_at c.rows i).next in
      let rows₁ = cond (eqb p NONE) c.rows (set_next c.rows p n) in
      record {
        rows = cond (eqb n NONE) rows₁ (set_prev rows₁ n p);
        ends = record {
          head = cond (eqb p NONE) n c.ends.head;
          tail = cond (eqb n NONE) p c.ends.tail;
          free = c.ends.free;
        };
      }

  -- `link_last`: row i becomes the last of the used chain, the most recently used
  unfoldable pub link_last : Chain P → ℕ → Chain P
  link_last c i =
      let t = c.ends.tail in
      let rows₁ = set_links c.rows i t NONE in
      record {
        rows = cond (eqb t NONE) rows₁ (set_next rows₁ t i);
        ends = record { head = cond (eqb t NONE) i c.ends.head; tail = i; free = c.ends.free };
      }

  -- `release`: row i leaves the used chain, becomes as fresh and heads the free chain
  unfoldable pub release : Chain P → ℕ → Chain P
  release c i =
      let d = unlink c i in
      record {
        rows = set d.rows i (unmade_row u d.ends.free);
        ends = record { head = d.ends.head; tail = d.ends.tail; free = i };
      }

  -- `take_free`: the first free row leaves the free chain (its number is the old first)
  unfoldable pub take_free : Chain P → Chain P
  take_free c = record { rows = c.rows; ends = record { head = c.ends.head; tail = c.ends.tail; free = (row_at c.rows c.ends.free).next } }
