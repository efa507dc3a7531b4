-- The steps on the program's rows, read as the definitions' steps. Facts on lists alone.
--     row_is_lem       the row at a link, read                     unlink_is, link_is, release_is      on chains, of at most NONE rows
--     free_is_lem, touch_is, put_is, take_is, room_is              on watches
use mathlib.Core.Path.{◌≡◌, refl, sym, ◌∙◌, ap}
use Prim.Native.Nat.{ℕ, zero, suc, ◌≤◌, ◌*◌}
use native.Mathlib.Omega.{arith}
use mathlib.Core.Bool.{cond}
use mathlib.Core.List.{List, [], ◌∷◌, map}
use lib.Dec.{eqb}
use lib.ListN.{length, get_or, set, length-set}
use lib.Seq.{sets}
use Rattle.table.specs.Machine as M
use Rattle.table.specs.Rows as W
use Rattle.table.specs.Rows.{NONE, Watch, Chain, row_at, set_next, set_prev, set_links, unlink, link_last, release, take_free}
use Rattle.table.specs.Watch.{Body, put_body, touch, free_row, make_room, take_row}
use Rattle.table.proofs.Tests.{by_bool}
use Rattle.table.proofs.Linked.{none_next, none_prev}
use Rattle.table.proofs.Safe.{map_set}
use Rattle.receiver.specs.declared.Part.{Part}
use Rattle.heard.specs.Heard.{width, empty_cells}
use Rattle.receiver.specs.Calls.{unmade_part}
use Rattle.rows.specs.declared.Row.{Row}
use Rattle.rows.specs.Read.{form, row_is, watch_of}
use Rattle.rows.specs.Links.{blank, unmade, with_next, with_prev, with_links, nexted, preved, before, after, unlinked_rows, unlinked_ends, linked_rows, released_rows, released_ends, touched_rows, touched_ends, room_rows, room_ends, taken_rows, taken_ends, made_row}
use Rattle.scans.specs.declared.Ends.{Ends}
use Rattle.scans.specs.declared.Key.{Key}
use Rattle.scans.specs.Ends.{ends_of, linked_ends, with_free}

abbrev pub chain_is : List Row → Ends → Chain Part
chain_is xs e = record { rows = map row_is xs; ends = ends_of e }

pub rows_long_lem : (xs : List Row) → length (map row_is xs) ≡ length xs
rows_long_lem [] = refl
rows_long_lem (x ∷ xs) = ap suc (rows_long_lem xs)

pub row_is_lem : (xs : List Row) (i : ℕ) → row_at unmade_part (map row_is xs) i ≡ row_is (get_or xs i blank)
row_is_lem [] i = refl
row_is_lem (x ∷ xs) zero = refl
row_is_lem (x ∷ xs) (suc i) = row_is_lem xs i

nexted_is : (xs : List Row) (i n : ℕ) → map row_is (nexted xs i n) ≡ set_next unmade_part (map row_is xs) i n
nexted_is xs i n = map_set row_is xs i (with_next (get_or xs i blank) n) ∙ rw (row_is_lem xs i)

preved_is : (xs : List Row) (i p : ℕ) → map row_is (preved xs i p) ≡ set_prev unmade_part (map row_is xs) i p
preved_is xs i p = map_set row_is xs i (with_prev (get_or xs i blank) p) ∙ rw (row_is_lem xs i)

links_is : (xs : List Row) (i p n : ℕ) → map row_is (set xs i (with_links (get_or xs i blank) p n)) ≡ set_links unmade_part (map row_is xs) i p n
links_is xs i p n = map_set row_is xs i (with_links (get_or xs i blank) p n) ∙ rw (row_is_lem xs i)

chain_eq : {r s : List (W.Row Part)} {e : W.Ends} → r ≡ s → ◌≡◌ {A = Chain Part} (record { rows = r; ends = e }) (record { rows = s; ends = e })
chain_eq {e = e} p = ap {B = Chain Part} (λ r. record { rows = r; ends = e }) p

out_rows : (xs : List Row) (p n : ℕ) → length xs ≤ NONE → map row_is (preved (nexted xs p n) n p)
    ≡ cond (eqb n NONE) (cond (eqb p NONE) (map row_is xs) (set_next unmade_part (map row_is xs) p n)) (set_prev unmade_part (cond (eqb p NONE) (map row_is xs) (set_next unmade_part (map row_is xs) p n)) n p)
out_rows xs p n s =
    let l : length (map row_is xs) ≤ NONE = omega (arith, rows_long_lem xs) in
    rw (none_next unmade_part (map row_is xs) p n l)
    (preved_is (nexted xs p n) n p ∙ ap (λ (r : List (W.Row Part)). set_prev unmade_part r n p) (nexted_is xs p n)
    ∙ sym (none_prev unmade_part (set_next unmade_part (map row_is xs) p n) n p (rw length-set l)))

pub unlink_is : (xs : List Row) (e : Ends) (i : ℕ) → length xs ≤ NONE → chain_is (unlinked_rows xs i) (unlinked_ends xs e i) ≡ unlink unmade_part (chain_is xs e) i
unfolding unlink
unlink_is xs e i s = rw (row_is_lem xs i) (chain_eq (out_rows xs (before xs i) (after xs i) s))

pub link_is : (xs : List Row) (e : Ends) (i : ℕ) → length xs ≤ NONE → chain_is (linked_rows xs e i) (linked_ends e i) ≡ link_last unmade_part (chain_is xs e) i
unfolding link_last
link_is xs e i s =
    let ys = set xs i (with_links (get_or xs i blank) e.tail NONE) in
    let l : length (set_links unmade_part (map row_is xs) i e.tail NONE) ≤ NONE = rw length-set (omega (arith, rows_long_lem xs)) in
    chain_eq (nexted_is ys e.tail i ∙ ap (λ (r : List (W.Row Part)). set_next unmade_part r e.tail i) (links_is xs i e.tail NONE)
    ∙ sym (none_next unmade_part (set_links unmade_part (map row_is xs) i e.tail NONE) e.tail i l))

pub unlinked_long : (xs : List Row) (i : ℕ) → length (unlinked_rows xs i) ≡ length xs
unlinked_long xs i = rw (length-set, length-set)

pub release_is : (xs : List Row) (e : Ends) (i : ℕ) → length xs ≤ NONE → chain_is (released_rows xs e i) (released_ends xs e i) ≡ release unmade_part (chain_is xs e) i
unfolding release
release_is xs e i s = rw (sym (unlink_is xs e i s)) (chain_eq (map_set row_is (unlinked_rows xs i) i (unmade e.free)))

-- ON WATCHES
pub free_is_lem : (xs : List Row) (ys : List ℕ) (e : Ends) (i : ℕ) → length xs ≤ NONE
    → watch_of (released_rows xs e i) (sets ys (width * i) empty_cells) (released_ends xs e i) ≡ free_row form (watch_of xs ys e) i
unfolding free_row
free_is_lem xs ys e i s = ap (λ (c : Chain Part). record { rows = c.rows; cells = sets ys (width * i) empty_cells; ends = c.ends }) (release_is xs e i s)

pub touch_is : (xs : List Row) (ys : List ℕ) (e : Ends) (i : ℕ) → length xs ≤ NONE → watch_of (touched_rows xs e i) ys (touched_ends xs e i) ≡ touch form (watch_of xs ys e) i
touch_is xs ys e i s =
    ap (λ (c : Chain Part). record { rows = c.rows; cells = ys; ends = c.ends })
    (link_is (unlinked_rows xs i) (unlinked_ends xs e i) i (omega (arith, unlinked_long xs i)) ∙ ap (λ (c : Chain Part). link_last unmade_part c i) (unlink_is xs e i s))

pub put_is : (xs : List Row) (ys : List ℕ) (e : Ends) (i : ℕ) (r : Row) (k : M.Key) (b : Body Part)
    → r.key ≡ k → (row_is r).part ≡ b.part → r.prev ≡ before xs i → r.next ≡ after xs i → watch_of (set xs i r) (sets ys (width * i) b.cells) e ≡ put_body form (watch_of xs ys e) i k b
unfolding put_body
put_is xs ys e i r k b ek ep e₁ e₂ =
    rw (row_is_lem xs i) (ap {B = Watch Part} (λ z. record { rows = z; cells = sets ys (width * i) b.cells; ends = ends_of e })
    (map_set row_is xs i r ∙ ap (λ (x : W.Row Part). set (map row_is xs) i x) same_row))
  where
    same_row : row_is r ≡ record { key = k; part = b.part; prev = before xs i; next = after xs i }
    same_row = rw (sym ek, sym ep, sym e₁, sym e₂)

pub take_is : (xs : List Row) (ys cs : List ℕ) (e : Ends) (k : Key) (s : Part) → length xs ≤ NONE
    → watch_of (taken_rows xs e k s) (sets ys (width * e.free) cs) (taken_ends xs e) ≡ take_row form (watch_of xs ys e) k.bytes (record { part = s; cells = cs })
unfolding take_row take_free
take_is xs ys cs e k s l =
    let i = e.free in
    let r = made_row (get_or xs i blank) k s in
    let b : Body Part = record { part = s; cells = cs } in
    let f = with_free e (after xs i) in
    rw (row_is_lem xs i, sym (put_is xs ys f i r k.bytes b refl refl refl refl))
    (ap (λ (c : Chain Part). record { rows = c.rows; cells = sets ys (width * i) cs; ends = c.ends }) (link_is (set xs i r) f i (omega (arith, length-set xs i r))))

pub room_is : (xs : List Row) (ys : List ℕ) (e : Ends) → length xs ≤ NONE
    → watch_of (room_rows xs e) (cond (eqb e.free NONE) (sets ys (width * e.head) empty_cells) ys) (room_ends xs e) ≡ make_room form (watch_of xs ys e)
room_is xs ys e l = by_bool (eqb e.free NONE) (λ p. rw p (free_is_lem xs ys e e.head l)) (λ p. rw p)
