-- The calls on a watch (01, 'Seven calls, seven questions' and 'The order of use'), for any lent watch. Definitions only.
use Rattle.std.specs.Prelude.{ℕ, zero, suc, ◌*◌, cond, List, [], ◌∷◌, ◌++◌, eqb, length, set, take, drop, Option, None, Some}
use Rattle.std.proofs.lemmas.List.Edits.{sets}
use Rattle.table.specs.Machine.{Key, Kind, enters, uses, looks, leaves, Outcome, refuse, accept, Machine, Call, refused, said, Step}
use Rattle.table.specs.Rows.{NONE, Row, Watch, Form, chain_of, with_chain, unmade_row, row_at, unlink, link_last, release, take_free}
use Rattle.table.specs.Questions.{question1, question2, find_row}

-- a row's part and its cells
pub record Body (P : Type 0) : Type 0 where
  pub part : P
  pub cells : List ℕ

-- a fresh row's part and cells
abbrev pub fresh_body : {P : Type 0} → Form P → Body P
fresh_body F = record { part = F.unmade; cells = F.blank }

module _ {P : Type 0} (F : Form P) where
  -- row i's part and cells
  abbrev pub body_at : Watch P → ℕ → Body P
  body_at w i = record { part = (row_at F.unmade w.rows i).part; cells = take F.width (drop (F.width * i) w.cells) }

  -- row i gets a key, a part and cells, and keeps its links
  unfoldable pub put_body : Watch P → ℕ → Key → Body P → Watch P
  put_body w i k s = record {
    rows = set w.rows i (record { key = k; part = s.part; prev = (row_at F.unmade w.rows i).prev; next = (row_at F.unmade w.rows i).next });
    cells = sets w.cells (F.width * i) s.cells;
    ends = w.ends;
  }

  -- row i becomes most recently used
  abbrev pub touch : Watch P → ℕ → Watch P
  touch w i = with_chain w (link_last F.unmade (unlink F.unmade (chain_of w) i) i)

  -- row i and its cells become as fresh, and it heads the free chain
  unfoldable pub free_row : Watch P → ℕ → Watch P
  free_row w i =
      let c = release F.unmade (chain_of w) i in
      record { rows = c.rows; cells = sets w.cells (F.width * i) F.blank; ends = c.ends }

  -- with C held, the least recently used is freed first
  abbrev pub make_room : Watch P → Watch P
  make_room w = cond (eqb w.ends.free NONE) (free_row w w.ends.head) w

  -- whose key the answer carries
  abbrev pub pushed_out : Watch P → Option Key
  pushed_out w = cond (eqb w.ends.free NONE) (Some (row_at F.unmade w.rows w.ends.head).key) None

  -- the first free row is taken for the key; it becomes most recently used
  unfoldable pub take_row : Watch P → Key → Body P → Watch P
  take_row w k s =
      let i = w.ends.free in
      let v = with_chain w (take_free F.unmade (chain_of w)) in
      let x = put_body v i k s in
      with_chain x (link_last F.unmade (chain_of x) i)

-- FRESH
-- free rows in ascending number: n rows from number i of C, each followed by the next, the last by none
abbrev pub fresh_rows : {P : Type 0} → P → ℕ → ℕ → ℕ → List (Row P)
fresh_rows u C i zero = []
fresh_rows u C i (suc n) = unmade_row u (cond (eqb (suc i) C) NONE (suc i)) ∷ fresh_rows u C (suc i) n

-- n times the same cells
abbrev pub repeated : ℕ → List ℕ → List ℕ
repeated zero l = []
repeated (suc n) l = l ++ repeated n l

-- a fresh watch of C rows
unfoldable pub fresh_watch : {P : Type 0} → Form P → ℕ → Watch P
fresh_watch F C = record {
  rows = fresh_rows F.unmade C 0 C;
  cells = repeated C F.blank;
  ends = record { head = NONE; tail = NONE; free = cond (eqb C 0) NONE 0 };
}

-- fresh asks question 1 alone
abbrev pub fresh_step : {P Out : Type 0} → Form P → Out → Watch P → Step (Watch P) Out
fresh_step F o w = cond (question1 F w) (record { next = fresh_watch F (length w.rows); answer = said None o }) (record { next = w; answer = refused 1 })

-- THE CALLS WITH A KEY. What a row holds, and what a call does to its part and cells (its own questions are asked there).
pub record Rowed (Act Out : Type 0) : Type 1 where
  pub Part : Type 0
  pub form : Form Part
  pub act : Key → Body Part → Act → Outcome (Body Part) Out

abbrev pub rowed_machine : {Act Out : Type 0} → Rowed Act Out → Machine Act Out
rowed_machine R = record { State = Body R.Part; fresh = fresh_body R.form; act = R.act }

-- a refusal changes nothing
abbrev pub refusal : {P Out : Type 0} → Watch P → ℕ → Step (Watch P) Out
refusal w n = record { next = w; answer = refused n }

module _ {Act Out : Type 0} (kind : Act → Kind) (R : Rowed Act Out) where
  -- an accepted call's row: claim and position mark it, judging and check never mark, take-out frees it
  abbrev pub kept_row : Kind → Watch R.Part → ℕ → Key → Body R.Part → Watch R.Part
  kept_row enters w i k s = touch R.form (put_body R.form w i k s) i
  kept_row uses w i k s = touch R.form (put_body R.form w i k s) i
  kept_row looks w i k s = put_body R.form w i k s
  kept_row leaves w i k s = free_row R.form w i

  -- a call on row i, whose key is k
  abbrev pub on_row : Watch R.Part → ℕ → Key → Kind → Outcome (Body R.Part) Out → Step (Watch R.Part) Out
  on_row w i k κ (refuse n) = refusal w n
  on_row w i k κ (accept s o) = record { next = kept_row κ w i k s; answer = said None o }

  -- a claim on a key not held
  abbrev pub on_new : Watch R.Part → Key → Outcome (Body R.Part) Out → Step (Watch R.Part) Out
  on_new w k (refuse n) = refusal w n
  on_new w k (accept s o) = record { next = take_row R.form (make_room R.form w) k s; answer = said (pushed_out R.form w) o }

  -- 3: Is the key in the used chain? (asked by all but claim)
  abbrev pub on_none : Watch R.Part → Key → Kind → Outcome (Body R.Part) Out → Step (Watch R.Part) Out
  on_none w k enters r = on_new w k r
  on_none w k uses r = refusal w 3
  on_none w k looks r = refusal w 3
  on_none w k leaves r = refusal w 3

  abbrev pub located : Watch R.Part → Key → Act → Option ℕ → Step (Watch R.Part) Out
  located w k a None = on_none w k (kind a) (R.act k (fresh_body R.form) a)
  located w k a (Some i) = on_row w i k (kind a) (R.act k (body_at R.form w i) a)

  -- questions in order: 1, 2, 3, then the call's own
  abbrev pub watch_step : Watch R.Part → Call Act → Step (Watch R.Part) Out
  watch_step w c =
      cond (question1 R.form w)
      (cond (question2 R.form w)
      (located w c.key c.act (find_row R.form.unmade w.rows (length w.rows) c.key w.ends.head))
      (refusal w 2))
      (refusal w 1)

-- DROP-OLDEST: is any row in the used chain? No: 3. It frees the least recently used and answers its key (said by `freed`).
abbrev pub drop_step : {P Out : Type 0} → Form P → (Key → Out) → Watch P → Step (Watch P) Out
drop_step F freed w =
    cond (question1 F w)
    (cond (question2 F w)
    (cond (eqb w.ends.head NONE)
    (refusal w 3)
    (record { next = free_row F w w.ends.head; answer = said None (freed (row_at F.unmade w.rows w.ends.head).key) }))
    (refusal w 2))
    (refusal w 1)
