-- The rows of a slice of words, by their places: one row's words are all that its row is read from, and a store of them changes that row alone.
use mathlib.Core.Path.{◌≡◌, refl, sym, ap, ◌∙◌, subst}
use mathlib.Core.Logic.{◌≢◌}
use Prim.Native.Nat.{ℕ, zero, suc, ◌+◌, ◌-◌, ◌*◌, ◌/◌, ◌%◌, ◌≤◌, ◌<◌}
use native.Mathlib.Omega.{arith}
use native.Mathlib.Nat.{div-add-mod', mul-le-mul_right}
use mathlib.Core.Bool.{Bool, true, false, cond}
use mathlib.Core.List.{List, [], ◌∷◌, ◌++◌}
use borrow.Author.Tests.{eq-eqb, ne_eqb, le-leb, leb-true, leb-false, lt-ltb, le-ltb, eqb-true, eqb-false}
use lib.Dec.{eqb, leb, ltb}
use lib.ListN.{length, get_or, set, take, drop, length-append, length-take, length-drop}
use lib.Seq.{take_at, drop_at, take-append-le, drop-append-le, take-take, drop-drop, take-nil}
use mir.Syntax.{w32, w64}
use mir.Val.{Fits}
use Rattle.table.proofs.Tests.{by_bool}
use Rattle.rows.specs.declared.Row.{Row}
use Rattle.rows.specs.Links.{blank}
use Rattle.flat.specs.Words.{words_of_row, opened_of, closed_of}
use Rattle.flat.specs.Ranges.{RowIn}
use Rattle.flat.specs.Table.{rows_from, rows_of}
use Rattle.flat.proofs.Closing.{row_words_lem}
use Rattle.flat.proofs.Returns.{opened_closed}

pub wide_is : 25 ≡ words_of_row
unfolding words_of_row
wide_is = refl

pub starts_at : (i : ℕ) → 25 * i ≡ words_of_row * i
starts_at i = ap (λ (n : ℕ). n * i) wide_is

pub start_fits : (a i : ℕ) → a ≡ words_of_row * i → Fits w32 i → Fits w64 (a * 8)
unfolding words_of_row
start_fits a i e h = record { fits = omega (arith, h.fits) }

pub ends_at : (i : ℕ) → 25 * i + 25 ≡ words_of_row * i + words_of_row
ends_at i = ap (λ (n : ℕ). n * i + n) wide_is

some : 0 < words_of_row
some = omega (arith, wide_is)

-- THE FIRST n ROWS
rows_long_lem : (n : ℕ) (ws : List ℕ) → length (rows_from n ws) ≡ n
unfolding rows_from
rows_long_lem zero ws = refl
rows_long_lem (suc n) ws = ap suc (rows_long_lem n (drop words_of_row ws))

next : (i : ℕ) → words_of_row * suc i ≡ words_of_row + words_of_row * i
next i = omega arith

none : words_of_row * 0 ≡ 0
none = omega arith

row_at : (n i : ℕ) (ws : List ℕ) → i < n → get_or (rows_from n ws) i blank ≡ opened_of (take words_of_row (drop (words_of_row * i) ws))
unfolding rows_from
row_at zero i ws h = absurd (omega arith)
row_at (suc n) zero ws h = sym (ap (λ (m : ℕ). opened_of (take words_of_row (drop m ws))) none)
row_at (suc n) (suc i) ws h =
    row_at n i (drop words_of_row ws) (omega arith)
    ∙ ap (λ (l : List ℕ). opened_of (take words_of_row l)) (drop-drop (words_of_row * i) words_of_row ws ∙ ap (λ (m : ℕ). drop m ws) (sym (next i)))

-- ws with ys for row i's words
abbrev with_row : List ℕ → ℕ → List ℕ → List ℕ
with_row ws i ys = take (words_of_row * i) ws ++ (ys ++ drop words_of_row (drop (words_of_row * i) ws))

first_row : (ws ys : List ℕ) → with_row ws 0 ys ≡ ys ++ drop words_of_row ws
first_row ws ys = ap (λ (m : ℕ). take m ws ++ (ys ++ drop words_of_row (drop m ws))) none

drop_take : (m n k : ℕ) (l : List ℕ) → k ≡ m + n → drop m (take k l) ≡ take n (drop m l)
drop_take zero n k l e = let f : k ≡ n = omega arith in ap (λ (j : ℕ). take j l) f
drop_take (suc m) n zero l e = absurd (omega arith)
drop_take (suc m) n (suc k) [] e = sym (take-nil n)
drop_take (suc m) n (suc k) (x ∷ l) e = drop_take m n k l (omega arith)

module _ (ws ys : List ℕ) (i : ℕ) where
  later : with_row ws (suc i) ys ≡ take (words_of_row + words_of_row * i) ws ++ (ys ++ drop words_of_row (drop (words_of_row + words_of_row * i) ws))
  later = ap (λ (m : ℕ). take m ws ++ (ys ++ drop words_of_row (drop m ws))) (next i)

  later_take : words_of_row ≤ length ws → take words_of_row (with_row ws (suc i) ys) ≡ take words_of_row ws
  later_take h = ap (take words_of_row) later ∙ take-append-le words_of_row (take (words_of_row + words_of_row * i) ws) (ys ++ drop words_of_row (drop (words_of_row + words_of_row * i) ws)) (omega (arith, length-take (words_of_row + words_of_row * i) ws)) ∙ take-take words_of_row (words_of_row + words_of_row * i) ws (omega arith)

  later_drop : words_of_row ≤ length ws → drop words_of_row (with_row ws (suc i) ys) ≡ with_row (drop words_of_row ws) i ys
  later_drop h =
      ap (drop words_of_row) later
      ∙ drop-append-le words_of_row (take (words_of_row + words_of_row * i) ws) (ys ++ drop words_of_row (drop (words_of_row + words_of_row * i) ws)) (omega (arith, length-take (words_of_row + words_of_row * i) ws))
      ∙ ap (λ (l : List ℕ). l ++ (ys ++ drop words_of_row (drop (words_of_row + words_of_row * i) ws))) (drop_take words_of_row (words_of_row * i) (words_of_row + words_of_row * i) ws refl)
      ∙ ap (λ (l : List ℕ). take (words_of_row * i) (drop words_of_row ws) ++ (ys ++ drop words_of_row l)) (sym (drop-drop (words_of_row * i) words_of_row ws))

row_put : (n i : ℕ) (ws ys : List ℕ) → i < n → words_of_row * n ≤ length ws → length ys ≡ words_of_row → rows_from n (with_row ws i ys) ≡ set (rows_from n ws) i (opened_of ys)
unfolding rows_from
row_put zero i ws ys h m e = absurd (omega arith)
row_put (suc n) zero ws ys h m e =
    let f = first_row ws ys in
    ap (λ (l : List ℕ). opened_of (take words_of_row l) ∷ rows_from n (drop words_of_row l)) f
    ∙ ap (λ (l : List ℕ). opened_of l ∷ rows_from n (drop words_of_row (ys ++ drop words_of_row ws))) (take_at ys (drop words_of_row ws) words_of_row e)
    ∙ ap (λ (l : List ℕ). opened_of ys ∷ rows_from n l) (drop_at ys (drop words_of_row ws) words_of_row e)
row_put (suc n) (suc i) ws ys h m e =
    let w : words_of_row ≤ length ws = omega (arith, next n) in
    ap (λ (l : List ℕ). opened_of l ∷ rows_from n (drop words_of_row (with_row ws (suc i) ys))) (later_take ws ys i w)
    ∙ ap (λ (l : List ℕ). opened_of (take words_of_row ws) ∷ rows_from n l) (later_drop ws ys i w)
    ∙ ap (λ (l : List Row). opened_of (take words_of_row ws) ∷ l) (row_put n i (drop words_of_row ws) ys (omega arith) (omega (arith, next n, length-drop words_of_row ws)) e)

-- ALL ROWS
pub count_whole : (ws : List ℕ) (w : ℕ) → w ≡ words_of_row → length ws % w ≡ 0 → length ws / w ≡ length (rows_of ws)
unfolding rows_of
count_whole ws w e h =
    let z : length ws % words_of_row ≡ 0 = ap (λ (n : ℕ). length ws % n) (sym e) ∙ h in
    ap (λ (n : ℕ). length ws / n) e ∙ sym (ap (λ (b : Bool). length (cond b (rows_from (length ws / words_of_row) ws) [])) (eq-eqb (length ws % words_of_row) 0 z) ∙ rows_long_lem (length ws / words_of_row) ws)

pub count_torn : (ws : List ℕ) (w : ℕ) → w ≡ words_of_row → length ws % w ≢ 0 → 0 ≡ length (rows_of ws)
unfolding rows_of
count_torn ws w e h =
    sym (ap (λ (b : Bool). length (cond b (rows_from (length ws / words_of_row) ws) [])) (ne_eqb (length ws % words_of_row) 0 (λ z. h (ap (λ (n : ℕ). length ws % n) e ∙ z))))

-- the chunks of 25 and what is left over
pub counted : (ws : List ℕ) (n m : ℕ) (t : Bool) → n ≡ length ws / 25 → m ≡ length ws % 25 → t ≡ eqb m 0 → t ≡ true → n ≡ length (rows_of ws)
counted ws n m t en em e h = en ∙ count_whole ws 25 wide_is (sym em ∙ eqb-true m 0 (sym e ∙ h))

pub left_over : (ws : List ℕ) (m : ℕ) (t : Bool) → m ≡ length ws % 25 → t ≡ eqb m 0 → t ≡ false → 0 ≡ length (rows_of ws)
left_over ws m t em e h = count_torn ws 25 wide_is (λ z. eqb-false m 0 (sym e ∙ h) (em ∙ z))

-- a number that is no row's, by where its row would end
pub outside_whole : (ws : List ℕ) (w i z : ℕ) → w ≡ words_of_row → length ws % w ≡ 0 → z ≡ words_of_row * i + words_of_row → ltb (length ws) z ≡ leb (length (rows_of ws)) i
outside_whole ws w i z e h ez =
    by_bool (leb m i)
    (λ t. lt-ltb (length ws) z (let g : m ≤ i = leb-true m i t in omega (arith, g, c, end)) ∙ sym t)
    (λ t. le-ltb (length ws) z (let g : i < m = leb-false m i t in omega (arith, g, c, end)) ∙ sym t)
  where
    m : ℕ
    m = length (rows_of ws)

    c : m ≡ length ws / 25
    c = sym (count_whole ws w e h) ∙ ap (λ (n : ℕ). length ws / n) (e ∙ sym wide_is)

    end : z ≡ 25 * i + 25
    end = ez ∙ sym (ends_at i)

pub outside_torn : (ws : List ℕ) (w i : ℕ) → w ≡ words_of_row → length ws % w ≢ 0 → true ≡ leb (length (rows_of ws)) i
outside_torn ws w i e h = sym (le-leb 0 i (omega arith)) ∙ ap (λ (n : ℕ). leb n i) (count_torn ws w e h)

-- a slice with a row is a whole number of rows
pub record Has (ws : List ℕ) (i : ℕ) : Type 0 where
  pub all : rows_of ws ≡ rows_from (length ws / words_of_row) ws
  pub even : length ws % words_of_row ≡ 0
  pub within : i < length ws / words_of_row

pub has : (ws : List ℕ) (i : ℕ) → i < length (rows_of ws) → Has ws i
unfolding rows_of
has ws i h = by (eqb (length ws % words_of_row) 0) refl h
  where
    by : (b : Bool) → eqb (length ws % words_of_row) 0 ≡ b → i < length (cond b (rows_from (length ws / words_of_row) ws) []) → Has ws i
    by true e g = record { all = ap (λ (b : Bool). cond b (rows_from (length ws / words_of_row) ws) []) e; even = eqb-true (length ws % words_of_row) 0 e; within = subst (λ (n : ℕ). i < n) (rows_long_lem (length ws / words_of_row) ws) g }
    by false e g = absurd (omega arith)

room_for : (ws : List ℕ) (n i : ℕ) → length ws ≡ n * words_of_row → i < n → words_of_row * i + words_of_row ≤ length ws
room_for ws n i e h = omega (arith, e, mul-le-mul_right words_of_row h)

pub whole : (ws : List ℕ) (i : ℕ) → Has ws i → length ws ≡ length ws / words_of_row * words_of_row
whole ws i h = sym (div-add-mod' (length ws) words_of_row) ∙ omega (arith, h.even)

-- a number that is a row's, by the test
module _ (ws : List ℕ) (i : ℕ) (t : Bool) (e : t ≡ leb (length (rows_of ws)) i) where
  pub is_in_lem : t ≡ false → i < length (rows_of ws)
  is_in_lem f = leb-false (length (rows_of ws)) i (sym e ∙ f)

-- A ROW as its words open
pub row_opens : (ws : List ℕ) (i : ℕ) → i < length (rows_of ws) → get_or (rows_of ws) i blank ≡ opened_of (take words_of_row (drop (words_of_row * i) ws))
row_opens ws i inside = let h = has ws i inside in ap (λ (l : List Row). get_or l i blank) h.all ∙ row_at (length ws / words_of_row) i ws h.within

pub got : (ws l : List ℕ) (i : ℕ) (t : Bool) (r : Row) → t ≡ leb (length (rows_of ws)) i → t ≡ false → l ≡ take words_of_row (drop (words_of_row * i) ws) → r ≡ opened_of l → r ≡ get_or (rows_of ws) i blank
got ws l i t r e f el er = er ∙ ap opened_of el ∙ sym (row_opens ws i (leb-false (length (rows_of ws)) i (sym e ∙ f)))

-- ONE ROW'S WORDS, from the a-th on
module _ (ws : List ℕ) (i a : ℕ) (inside : i < length (rows_of ws)) (ea : a ≡ words_of_row * i) where
  room : a + 25 ≤ length ws
  room = let h = has ws i inside in omega (arith, ea, wide_is, room_for ws (length ws / words_of_row) i (whole ws i h) h.within)

  pub start_in : a ≤ length ws
  start_in = omega (arith, room)

  pub rest_long : 25 ≤ length (drop a ws)
  rest_long = omega (arith, room, length-drop a ws)

  pub words_are : take 25 (drop a ws) ≡ take words_of_row (drop (words_of_row * i) ws)
  words_are = ap (λ (n : ℕ). take n (drop a ws)) wide_is ∙ ap (λ (n : ℕ). take words_of_row (drop n ws)) ea

  -- other words in their place
  module _ (ys : List ℕ) (long : length ys ≡ 25) where
    abbrev after : List ℕ
    after = take a ws ++ (ys ++ drop 25 (drop a ws))

    pub put_long : length after ≡ length ws
    put_long =
        length-append (take a ws) (ys ++ drop 25 (drop a ws))
        ∙ omega (arith, room, length-take a ws, length-append ys (drop 25 (drop a ws)), length-drop 25 (drop a ws), length-drop a ws, long)

    pub stored : rows_of after ≡ set (rows_of ws) i (opened_of ys)
    unfolding rows_of
    stored =
        let h = has ws i inside in
        let n = length ws / words_of_row in
        let same : after ≡ with_row ws i ys = ap (λ (m : ℕ). take a ws ++ (ys ++ drop m (drop a ws))) wide_is ∙ ap (λ (m : ℕ). take m ws ++ (ys ++ drop words_of_row (drop m ws))) ea in
        let even : eqb (length after % words_of_row) 0 ≡ true = ap (λ (m : ℕ). eqb (m % words_of_row) 0) put_long ∙ eq-eqb (length ws % words_of_row) 0 h.even in
        ap (λ (b : Bool). cond b (rows_from (length after / words_of_row) after) []) even
        ∙ ap (λ (m : ℕ). rows_from (m / words_of_row) after) put_long
        ∙ ap (rows_from n) same
        ∙ row_put n i ws ys h.within (omega (arith, whole ws i h)) (long ∙ wide_is)
        ∙ ap (λ (rs : List Row). set rs i (opened_of ys)) (sym h.all)

  pub puts : (ys : List ℕ) (r : Row) → ys ≡ closed_of r → RowIn r → rows_of (take a ws ++ (ys ++ drop 25 (drop a ws))) ≡ set (rows_of ws) i r
  puts ys r g k = stored ys (ap length g ∙ row_words_lem r) ∙ ap (set (rows_of ws) i) (ap opened_of g ∙ opened_closed r k)

-- the same, from the a-th to before the z-th
module _ (ws : List ℕ) (i a z : ℕ) (inside : i < length (rows_of ws)) (ea : a ≡ words_of_row * i) (ez : z ≡ words_of_row * i + words_of_row) where
  between : z - a ≡ words_of_row
  between = omega (arith, ea, ez)

  pub end_in : z ≤ length ws
  end_in = let h = has ws i inside in omega (arith, ez, room_for ws (length ws / words_of_row) i (whole ws i h) h.within)

  -- they are a row's 25
  pub part_is : length (take (z - a) (drop a ws)) ≡ 25
  part_is = omega (arith, length-take (z - a) (drop a ws), length-drop a ws, end_in, ea, ez, wide_is)

  pub part_words : take (z - a) (drop a ws) ≡ take words_of_row (drop (words_of_row * i) ws)
  part_words = ap (λ (n : ℕ). take n (drop a ws)) between ∙ ap (λ (n : ℕ). take words_of_row (drop n ws)) ea
