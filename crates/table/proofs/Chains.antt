-- A chain as question 2 asks for it is a list of rows along the links after that ends in none. Two such lists that begin in one row are one
-- list; so none has a row twice, and two that end in different rows have no row in common.
use Rattle.std.specs.Prelude.{Option, None, Some}
use mathlib.Core.Path.{◌≡◌, refl, sym, ap, ap₂, ◌∙◌, subst}
use mathlib.Core.Logic.{◌≢◌}
use Prim.Native.Nat.{ℕ, zero, suc, ◌≤◌}
use native.Mathlib.Omega.{arith}
use mathlib.Core.Bool.{true}
use mathlib.Core.List.{List, [], ◌∷◌, ◌++◌}
use lib.Dec.{eqb, ltb}
use lib.ListN.{length, length-append}
use Rattle.table.specs.Rows.{NONE, Row, row_at}
use Rattle.table.specs.Questions.{last_of, chain, onto, back_links}
use Rattle.table.proofs.Tests.{by_bool, and_1, and_2, eqb_yes, eqb_no, eqb_true, eqb_false, ltb_yes, ltb_true}
use Rattle.table.proofs.Numbers.{first, Apart, Distinct, AllApart, last_append, below_none}
use Rattle.table.proofs.Linked.{Linked, Freed}
use Rattle.table.proofs.Counts.{Below}

module _ {P : Type 0} (u : P) (rows : List (Row P)) (small : length rows ≤ NONE) where
  pub linked_freed : (p : ℕ) (l : List ℕ) → Linked u rows p l NONE → Freed u rows l
  linked_freed p [] h = tt
  linked_freed p (i ∷ l) h = (h.0, h.2, linked_freed i l h.3)

  pub freed_below : (l : List ℕ) → Freed u rows l → Below (length rows) l
  freed_below [] h = tt
  freed_below (i ∷ l) h = (h.0, freed_below l h.2)

  -- two lists along the next links that begin with one row are one list
  freed_one : (l m : List ℕ) → Freed u rows l → Freed u rows m → first l NONE ≡ first m NONE → l ≡ m
  freed_one [] [] h k e = refl
  freed_one [] (j ∷ m) h k e = absurd (below_none k.0 small (sym e))
  freed_one (i ∷ l) [] h k e = absurd (below_none h.0 small e)
  freed_one (i ∷ l) (j ∷ m) h k e =
      let n : first l NONE ≡ first m NONE = sym h.1 ∙ ap (λ (x : ℕ). (row_at u rows x).next) e ∙ k.1 in
      ap₂ {C = List ℕ} (λ x y. x ∷ y) e (freed_one l m h.2 k.2 n)

  -- row i stands in the list, or it is apart from it
  data Stands (i : ℕ) (l : List ℕ) : Type 0 where
    stands : (a b : List ℕ) → l ≡ a ++ i ∷ b → Freed u rows (i ∷ b) → Stands i l
    away : Apart i l → Stands i l

  look : (i : ℕ) (l : List ℕ) → Freed u rows l → Stands i l
  look i [] h = away tt
  look i (j ∷ l) h =
      by_bool (eqb i j)
      (λ p. stands [] l (ap (λ (x : ℕ). x ∷ l) (sym (eqb_true i j p))) (subst (λ (x : ℕ). Freed u rows (x ∷ l)) (sym (eqb_true i j p)) h))
      (λ p. go (eqb_false i j p) (look i l h.2))
    where
      go : i ≢ j → Stands i l → Stands i (j ∷ l)
      go n (stands a b e k) = stands (j ∷ a) b (ap {B = List ℕ} (λ x. j ∷ x) e) k
      go n (away a) = away (n, a)

  -- a list along the next links that ends has no row twice
  pub freed_distinct : (l : List ℕ) → Freed u rows l → Distinct l
  freed_distinct [] h = tt
  freed_distinct (i ∷ l) h = (go (look i l h.2), freed_distinct l h.2)
    where
      go : Stands i l → Apart i l
      go (stands a b e k) =
          let q : b ≡ l = freed_one b l k.2 h.2 (sym k.1 ∙ h.1) in
          absurd (omega (arith, ap length q, ap length e, length-append a (i ∷ b)))
      go (away a) = a

  -- two lists that end in different rows have no row in common
  pub freed_apart : (p : ℕ) (l : List ℕ) (j : ℕ) (m : List ℕ) → Freed u rows l → Freed u rows (j ∷ m) → last_of p l ≢ last_of j m → AllApart l (j ∷ m)
  freed_apart p [] j m h k n = tt
  freed_apart p (i ∷ l) j m h k n = (go (look i (j ∷ m) k), freed_apart i l j m h.2 k n)
    where
      go : Stands i (j ∷ m) → Apart i (j ∷ m)
      go (stands a b e q) =
          let x : b ≡ l = freed_one b l q.2 h.2 (sym q.1 ∙ h.1) in
          absurd (n (sym (ap (λ (y : List ℕ). last_of NONE y) e ∙ last_append NONE a i b ∙ ap (λ (y : List ℕ). last_of i y) x)))
      go (away a) = a

  -- THE CHAIN IS SUCH A LIST
  Is : ℕ → List ℕ → Type 0
  Is at l = Freed u rows l × (at ≡ first l NONE)

  empty_is : (at : ℕ) (l : List ℕ) → eqb at NONE ≡ true → Some [] ≡ Some l → Is at l
  unfolding Is
  empty_is at l p e = let q : [] ≡ l = cc in subst (λ (x : List ℕ). Freed u rows x × (at ≡ first x NONE)) q (tt, eqb_true at NONE p)

  pub chain_finds : (f at : ℕ) (l : List ℕ) → chain u rows f at ≡ Some l → Freed u rows l × (at ≡ first l NONE)
  unfolding Is
  chain_finds zero at l e =
      by_bool (eqb at NONE) (λ p. empty_is at l p (rw p at e)) (λ p. let z : ◌≡◌ {A = Option (List ℕ)} None (Some l) = rw p at e in let n : ◌≡◌ {A = ℕ} 0 1 = cc in absurd (omega arith))
  chain_finds (suc f) at l e =
      by_bool (eqb at NONE) (λ p. empty_is at l p (rw p at e))
      (λ p. by_bool (ltb at (length rows))
      (λ q. more q (chain u rows f (row_at u rows at).next) (λ m k. chain_finds f (row_at u rows at).next m k) (rw (p, q) at e))
      (λ q. let z : ◌≡◌ {A = Option (List ℕ)} None (Some l) = rw (p, q) at e in let n : ◌≡◌ {A = ℕ} 0 1 = cc in absurd (omega arith)))
    where
      more : ltb at (length rows) ≡ true → (o : Option (List ℕ)) → ((m : List ℕ) → o ≡ Some m → Freed u rows m × ((row_at u rows at).next ≡ first m NONE)) → onto at o ≡ Some l → Freed u rows l × (at ≡ first l NONE)
      more q None h k = let n : ◌≡◌ {A = ℕ} 0 1 = cc in absurd (omega arith)
      more q (Some m) h k =
          let g = h m refl in
          let x : ◌≡◌ {A = List ℕ} (at ∷ m) l = cc in
          subst (λ (y : List ℕ). Freed u rows y × (at ≡ first y NONE)) x ((ltb_true at (length rows) q, g.1, g.0), refl)

  pub chain_is_lem : (l : List ℕ) (f : ℕ) → length l ≤ f → Freed u rows l → chain u rows f (first l NONE) ≡ Some l
  chain_is_lem [] zero n h = rw (eqb_yes NONE NONE refl)
  chain_is_lem [] (suc f) n h = rw (eqb_yes NONE NONE refl)
  chain_is_lem (i ∷ l) zero n h = absurd (omega arith)
  chain_is_lem (i ∷ l) (suc f) n h = rw (eqb_no i NONE (below_none h.0 small), ltb_yes i (length rows) h.0, h.1, chain_is_lem l f (omega arith) h.2)

  -- with its back links it is a used chain
  pub back_links_lem : (p : ℕ) (l : List ℕ) → Linked u rows p l NONE → back_links u rows p l ≡ true
  back_links_lem p [] h = refl
  back_links_lem p (i ∷ l) h = rw (eqb_yes (row_at u rows i).prev p h.1) (back_links_lem i l h.3)

  pub links_back : (p : ℕ) (l : List ℕ) → Freed u rows l → back_links u rows p l ≡ true → Linked u rows p l NONE
  links_back p [] h e = tt
  links_back p (i ∷ l) h e =
      let b = eqb (row_at u rows i).prev p in
      (h.0, eqb_true (row_at u rows i).prev p (and_1 b (back_links u rows i l) e), h.1, links_back i l h.2 (and_2 b (back_links u rows i l) e))
