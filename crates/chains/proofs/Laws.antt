-- The scan of a chain by what is seen of each row, and questions 1 to 3 by two scans. Facts on lists of rows alone.
use mathlib.Core.Path.{◌≡◌, refl, sym, ap, ◌∙◌, subst}
use Prim.Native.Nat.{ℕ, ◌-◌, ◌<◌}
use mathlib.Core.Bool.{Bool, true, false, cond, ◌&&◌}
use mathlib.Core.List.{List}
use lib.Dec.{eqb}
use lib.ListN.{length, get_or}
use Rattle.table.specs.Machine.{same}
use Rattle.scans.specs.declared.Key.{Key}
use Rattle.rows.specs.declared.Row.{Row}
use Rattle.scans.specs.declared.Ends.{Ends}
use Rattle.scans.specs.declared.Cursor.{Cursor}
use Rattle.std.specs.Prelude.{Result, Err}
use Rattle.table.specs.declared.Refusal.{Refusal}
use Rattle.table.specs.declared.Refusal.TheVariants as R
use Rattle.rows.specs.Links.{blank}
use Rattle.rows.specs.Read.{fits, Looked}
use Rattle.rows.specs.Search.{sizes_of, step_of, scanned}
use Rattle.scans.specs.Scan.{back_fits, first_found, more_of, start_of, look_of}
use Rattle.rows.proofs.Looks.{looks, looks_not}
use Rattle.rows.proofs.Scans.{goes_on_lem, stops}
use Rattle.glances.specs.declared.Glance.{Glance}
use Rattle.glances.specs.Glances.{glance_of}

key_stays : (s : Cursor) (row : Row) → (step_of s row).key ≡ s.key
key_stays s row = by (eqb s.left 0)
  where
    by : (b : Bool) → (cond b s (record { at = row.next; prev = s.at; left = s.left - 1; back = s.back; fits = back_fits s.back row.prev s.prev; sound = s.sound && fits row.part; found = first_found s.found s.at (same s.key row.key); key = s.key })).key ≡ s.key
    by true = refl
    by false = refl

module _ (ys : List Row) (s c : Cursor) (n : ℕ) (key : List ℕ) (t : Bool) (long : n ≡ length ys) (test : t ≡ more_of c n) where
  more_is : (b : Bool) → t ≡ b → more_of c (length ys) ≡ b
  more_is b h = ap (more_of c) (sym long) ∙ sym test ∙ h

  pub scan_within : t ≡ true → c.at < length ys
  scan_within h = (goes_on_lem ys c (more_is true h)).within

  module _ (h : t ≡ true) (k : c.key ≡ key) (g : Glance) (d : Cursor) (r : g ≡ glance_of key (get_or ys c.at blank)) (e : (row : Row) → g ≡ glance_of c.key row → d ≡ step_of c row) where
    next_is : d ≡ step_of c (get_or ys c.at blank)
    next_is = e (get_or ys c.at blank) (r ∙ ap (λ x. glance_of x (get_or ys c.at blank)) (sym k))

    pub scan_goes : scanned ys c ≡ scanned ys s → scanned ys d ≡ scanned ys s
    scan_goes q = ap (scanned ys) next_is ∙ sym (goes_on_lem ys c (more_is true h)).same ∙ q

    pub scan_key : d.key ≡ key
    scan_key = ap (λ (x : Cursor). x.key) next_is ∙ key_stays c (get_or ys c.at blank) ∙ k

    pub scan_less : d.left < c.left
    scan_less = subst (λ (x : Cursor). x.left < c.left) (sym next_is) (goes_on_lem ys c (more_is true h)).less

  pub scan_ends : t ≡ false → scanned ys c ≡ scanned ys s → c ≡ scanned ys s
  scan_ends h q = sym (stops ys c (more_is false h)) ∙ q

-- QUESTIONS 1 TO 3, of n rows
module _ (xs : List Row) (m n : ℕ) (e : Ends) (k : Key) (t : Bool) (r : Result ℕ Refusal) (long : n ≡ length xs) (test : t ≡ sizes_of n m) where
  fit : t ≡ sizes_of (length xs) m
  fit = test ∙ ap (λ (j : ℕ). sizes_of j m) long

  pub look_not : t ≡ false → r ≡ Err R.Sizes → Looked xs m e k r
  look_not h d = looks_not xs m e k t r fit h d

  pub look_fits :
      (s z a b : Cursor) → t ≡ true → s ≡ start_of n e.head true k → a ≡ scanned xs s → z ≡ start_of n e.free false k → b ≡ scanned xs z
      → r ≡ look_of n e.tail a b → Looked xs m e k r
  look_fits s z a b h s-is a-is z-is b-is d =
      looks xs m e k t a b r fit h
      (a-is ∙ ap (scanned xs) (s-is ∙ ap (λ (j : ℕ). start_of j e.head true k) long)) (b-is ∙ ap (scanned xs) (z-is ∙ ap (λ (j : ℕ). start_of j e.free false k) long))
      (d ∙ ap (λ (j : ℕ). look_of j e.tail a b) long)
