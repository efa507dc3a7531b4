-- A law for each way out: empty, too few sectors, found, too few bits. The callees' answers are those at the cell's own east and north (`marks_at`, `bits_at`, `cells_at`).
use Rattle.std.proofs.Common.{◌≡◌, ℕ, List, sym, ap, ◌∙◌}
use Rattle.std.specs.Prelude.{Bool, leb}
use Rattle.std.specs.Int.Count.{ones}
use Rattle.cells.specs.Passes.{how_many}
use Rattle.plane.specs.Plane.{east_of, north_of}
use Rattle.around.specs.Marks.{near, marks_of, bits_in, sectors_in}
use Rattle.near_field.proofs.Found.{f_empty, f_sectors, f_bits, f_found}
use Rattle.near_field.proofs.near.Counted.found_cells.Goals as goal

marks_at :
    {s x y : ℕ} {ms : List Bool} (g : List ℕ) (i : ℕ) → s ≡ sectors_in ms → ms ≡ marks_of g x y 1600 → x ≡ east_of i → y ≡ north_of i
    → s ≡ sectors_in (marks_of g (east_of i) (north_of i) 1600)
marks_at g i p q r t = cc

bits_at :
    {b : Bool} {x y : ℕ} (g : List ℕ) (i : ℕ) → b ≡ leb 8 (ones (bits_in (near g x y) g 1600)) → x ≡ east_of i → y ≡ north_of i
    → b ≡ leb 8 (ones (bits_in (near g (east_of i) (north_of i)) g 1600))
bits_at {b} {x} {y} g i p q r =
    p ∙ ap (λ (z : ℕ). leb 8 (ones (bits_in (near g z y) g 1600))) q ∙ ap (λ (z : ℕ). leb 8 (ones (bits_in (near g (east_of i) z) g 1600))) r

cells_at :
    {n x y : ℕ} (g : List ℕ) (i : ℕ) → n ≡ how_many (near g x y) 1600 → x ≡ east_of i → y ≡ north_of i → n ≡ how_many (near g (east_of i) (north_of i)) 1600
cells_at {n} {x} {y} g i p q r = p ∙ ap (λ (z : ℕ). how_many (near g z y) 1600) q ∙ ap (λ (z : ℕ). how_many (near g (east_of i) z) 1600) r

pub returns-then-not-occupied : goal.returns-then-not-occupied
returns-then-not-occupied c = f_empty c.args.self.grid.now c.args.at.i (sym c.occupied.ensures ∙ c.if-not-occupied.true)

pub returns-then-sectors-lt7 : goal.returns-then-sectors-lt7
returns-then-sectors-lt7 c =
    let g = c.args.self.grid.now in
    f_sectors g c.args.at.i _ (marks_at g c.args.at.i c.sectors.ensures.0 (c.marks_around.ensures g c.args.self.counted) c.centre-centre.ensures.0 c.centre-centre.ensures.1) c.if-sectors-lt7.true

pub returns-then-enough_bits : goal.returns-then-enough_bits
returns-then-enough_bits c =
    let g = c.args.self.grid.now in
    let i = c.args.at.i in
    let x = c.centre-centre.ensures.0 in
    let y = c.centre-centre.ensures.1 in
    f_found g i _ _ _ (sym c.occupied.ensures ∙ c.if-not-occupied.false)
    (marks_at g i c.sectors.ensures.0 (c.marks_around.ensures g c.args.self.counted) x y) c.if-sectors-lt7.false
    (bits_at g i c.enough_bits.ensures x y) c.if-enough_bits.true
    (cells_at g i (c.cells_around.ensures g c.args.self.counted) x y)

pub returns : goal.returns
returns c =
    let g = c.args.self.grid.now in
    f_bits g c.args.at.i _ (bits_at g c.args.at.i c.enough_bits.ensures c.centre-centre.ensures.0 c.centre-centre.ensures.1) c.if-enough_bits.false
