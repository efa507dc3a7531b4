-- The lines that write a watch: what lies behind its rows and cells stays, and a watch of a new size stays within what is lent.
use Rattle.std.proofs.Common.{◌≡◌, ℕ, zero, suc, ◌+◌, ◌<◌, ◌≤◌, Bool, true, false, cond, leb, List, [], ◌∷◌, ◌++◌, length, take, drop, ◌-◌, length-take, length-drop, set, replicate, sym, refl, ap, ◌∙◌, add-one, arith, leb-true, Result, Ok, Err}
use Rattle.table.specs.Machine as M
use Rattle.cells.specs.Cells.{empty_word}
use Rattle.rows.specs.declared.Row.{Row}
use Rattle.rows.specs.Links.{blank}
use Rattle.lending.specs.declared.Size.{Size}
use Rattle.grammar.specs.declared.Change.{Change}
use Rattle.grammar.specs.declared.Change.TheVariants as change
use Rattle.lending.specs.Lendings.{Within, Room, RowsBecome, no_ends, lendable, Lent, Lends, RowSet, CellSet, AppliedBy, Applied}
use Rattle.receiver.specs.declared.Part.{Part}
use Rattle.readers.specs.declared.Fault.{Fault}
use Rattle.readers.specs.declared.Fault.TheVariants as fault

-- UNMADE ROWS: the first i are made
abbrev pub Unmade : ℕ → List Row → List Row → Type 0
Unmade i xs ys = ys ≡ replicate i blank ++ drop i xs

one_more_lem : (i : ℕ) (xs : List Row) → i < length xs → set (replicate i blank ++ drop i xs) i blank ≡ replicate (suc i) blank ++ drop (suc i) xs
one_more_lem i [] h = absurd (omega arith)
one_more_lem zero (x ∷ xs) h = refl
one_more_lem (suc i) (x ∷ xs) h = ap (λ (l : List Row). blank ∷ l) (one_more_lem i xs (omega arith))

pub unmade_go : (n i : ℕ) (xs ys zs : List Row) (x : Row) → n ≡ length xs → i < n → x ≡ blank → zs ≡ set ys i x → Unmade i xs ys → Unmade (i + 1) xs zs
unmade_go n i xs ys zs x e f g k h = rw (add-one i) (k ∙ ap (set ys i) g ∙ ap (λ (l : List Row). set l i blank) h ∙ one_more_lem i xs (omega arith))

-- EMPTY CELLS
pub emptied_first : (ys zs : List ℕ) (n : ℕ) → n ≤ length ys → zs ≡ replicate (length (take (n - 0) (drop 0 ys))) empty_word → take 0 ys ++ (zs ++ drop (n - 0) (drop 0 ys)) ≡ replicate n empty_word ++ drop n ys
emptied_first ys zs n h e =
    let z : n - 0 ≡ n = omega arith in
    let k : length (take (n - 0) (drop 0 ys)) ≡ n = simp (length-take, length-drop) (omega arith) in
    rw (e, k, z)

-- LEND
module _ (c n : ℕ) where
  lent_size_few : (z : Size) → ◌≡◌ {A = Result Size Fault} (Ok z) (lendable c n) → (z.rows ≤ 64) × (z.cells ≤ 214016)
  unfolding lendable
  lent_size_few z h = by (leb c 64) (leb n 214016) refl refl h where
    by : (s t : Bool) → leb c 64 ≡ s → leb n 214016 ≡ t → ◌≡◌ {A = Result Size Fault} (Ok z) (cond s (cond t (Ok (record { rows = c; cells = n })) (Err fault.TooManyCells)) (Err fault.TooManyRows)) → (z.rows ≤ 64) × (z.cells ≤ 214016)
    by true true e f k = let same : z ≡ record { rows = c; cells = n } = cc in rw same (leb-true c 64 e, leb-true n 214016 f)
    by true false e f k = cc
    by false t e f k = cc

  module _ (o : Result Size Fault) (e : o ≡ lendable c n) (z : Size) (f : o ≡ Ok z) where
    -- the watch that is lent lies within what is lent
    pub lendable_within : (xs ys xs' ys' : List ℕ) → Room xs ys → length xs' ≡ length xs → length ys' ≡ length ys → Within z xs' ys'
    lendable_within xs ys xs' ys' room lx ly =
        let k = lent_size_few z (sym f ∙ e) in (omega (arith, k.0, room.0), omega (arith, k.1, room.1))

    pub lends_is : (y : Size) (xs ys ws xs' ys' ws' : List ℕ) → RowsBecome z.rows (replicate z.rows blank) xs xs' → ys' ≡ replicate z.cells empty_word ++ drop z.cells ys → ws' ≡ no_ends → Lends c n y xs ys ws z xs' ys' ws' (Ok tt)
    unfolding Lends Lent
    lends_is y xs ys ws xs' ys' ws' h i j = let k : ◌≡◌ {A = Result Size Fault} (lendable c n) (Ok z) = sym e ∙ f in rw k ((refl, (h, i, j)), refl, refl)

  pub lends_not : (o : Result Size Fault) (f : Fault) (z : Size) (xs ys ws : List ℕ) → o ≡ lendable c n → o ≡ Err f → Lends c n z xs ys ws z xs ys ws (Err f)
  unfolding Lends Lent
  lends_not o f z xs ys ws e g = let k : ◌≡◌ {A = Result Size Fault} (lendable c n) (Err f) = sym e ∙ g in rw k ((refl, (refl, refl, refl)), refl, refl)

-- ONE OF THE FOUR LINES
module _ (m : Change) (key : M.Key) (z : Size) (xs ys ws xs' ys' ws' : List ℕ) where
  applied_is : (a : Change) (z' : Size) (r : Result (Unit {0}) Fault) → m ≡ a → AppliedBy a key z xs ys ws z' xs' ys' ws' r → Applied m key z xs ys ws z' xs' ys' ws' r
  unfolding Applied
  applied_is a z' r e h = rw e h

  pub applied_lend : (c n : ℕ) (z' : Size) (r : Result (Unit {0}) Fault) → m ≡ change.Lend c n → Lends c n z xs ys ws z' xs' ys' ws' r → Applied m key z xs ys ws z' xs' ys' ws' r
  applied_lend c n z' r e h = applied_is (change.Lend c n) z' r e h

pub applied_row : (m : Change) (z : Size) (xs ys ws xs' key : List ℕ) (i a b : ℕ) (p : Part) (x : Row) (r : Result (Unit {0}) Fault) → m ≡ change.Row i p a b → x ≡ record { key = key; part = p; prev = a; next = b } → RowSet z i x xs xs' r → Applied m key z xs ys ws z xs' ys ws r
applied_row m z xs ys ws xs' key i a b p x r e f h = applied_is m key z xs ys ws xs' ys ws (change.Row i p a b) z r e (rw f at h, refl, refl, refl)

pub applied_cell : (m : Change) (key : M.Key) (z : Size) (xs ys ws ys' : List ℕ) (i w : ℕ) (r : Result (Unit {0}) Fault) → m ≡ change.Cell i w → CellSet z i w ys ys' r → Applied m key z xs ys ws z xs ys' ws r
applied_cell m key z xs ys ws ys' i w r e h = applied_is m key z xs ys ws xs ys' ws (change.Cell i w) z r e (refl, h, refl, refl)

pub applied_ends : (m : Change) (key : M.Key) (z : Size) (xs ys ws ws' : List ℕ) (a b c : ℕ) → m ≡ change.Ends a b c → ws' ≡ a ∷ b ∷ c ∷ [] → Applied m key z xs ys ws z xs ys ws' (Ok tt)
applied_ends m key z xs ys ws ws' a b c e h = applied_is m key z xs ys ws xs ys ws' (change.Ends a b c) z (Ok tt) e (refl, refl, h, refl, refl)
