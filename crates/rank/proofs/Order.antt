-- `insert` keeps a list ascending, and has x and what the list had. Assumes nothing.
use mathlib.Core.Path.{◌≡◌, refl, sym, ap, ◌∙◌, subst}
use mathlib.Core.Bool.{Bool, true, false, not, cond}
use mathlib.Core.List.{List, [], ◌∷◌}
use Prim.Native.Nat.{ℕ, ◌+◌, ◌≤◌}
use native.Mathlib.Nat.{le_trans, le_of_lt}
use native.Mathlib.Omega.{arith}
use lib.Dec.{T, ltb→lt, nltb→le}
use lib.Ieee.{Float, lt}
use Rattle.root.specs.Root.{units_of}
use Rattle.root.proofs.Units.{lt_units}
use Rattle.rank.specs.Rank.{insert, sorted, Good, AllGood, AtMost, Ascending, count}

yes_less : (x y : Float) → Good x → Good y → lt x y ≡ true → units_of x ≤ units_of y
yes_less x y g h e = le_of_lt (ltb→lt (units_of x) (units_of y) (subst T (sym (sym (lt_units x y g.0 g.1 h.0 h.1) ∙ e)) tt))

pub no_less : (x y : Float) → Good x → Good y → lt x y ≡ false → units_of y ≤ units_of x
no_less x y g h e = nltb→le (units_of x) (units_of y) (subst (λ (b : Bool). T (not b)) (sym (sym (lt_units x y g.0 g.1 h.0 h.1) ∙ e)) tt)

pub weaker : (x y : Float) (l : List Float) → units_of x ≤ units_of y → AtMost y l → AtMost x l
weaker x y [] h a = tt
weaker x y (z ∷ l) h a = (le_trans h a.0, weaker x y l h a.1)

pub insert_good : (x : Float) (l : List Float) → Good x → AllGood l → AllGood (insert x l)
unfolding insert
insert_good x [] g a = (g, tt)
insert_good x (y ∷ l) g a = go (lt x y) (insert_good y l a.0 a.1) (insert_good x l g a.1)
  where
    go : (b : Bool) → AllGood (insert y l) → AllGood (insert x l) → AllGood (cond b x y ∷ insert (cond b y x) l)
    go true h k = (g, h)
    go false h k = (a.0, k)

insert_at_most : (z x : Float) (l : List Float) → units_of z ≤ units_of x → AtMost z l → AtMost z (insert x l)
unfolding insert
insert_at_most z x [] h a = (h, tt)
insert_at_most z x (y ∷ l) h a = go (lt x y) (insert_at_most z y l a.0 a.1) (insert_at_most z x l h a.1)
  where
    go : (b : Bool) → AtMost z (insert y l) → AtMost z (insert x l) → AtMost z (cond b x y ∷ insert (cond b y x) l)
    go true u v = (h, u)
    go false u v = (a.0, v)

pub insert_ascending : (x : Float) (l : List Float) → Good x → AllGood l → Ascending l → Ascending (insert x l)
unfolding insert
insert_ascending x [] g a s = (tt, tt)
insert_ascending x (y ∷ l) g a s = go (lt x y) refl (insert_ascending y l a.0 a.1 s.1) (insert_ascending x l g a.1 s.1)
  where
    go : (b : Bool) → lt x y ≡ b → Ascending (insert y l) → Ascending (insert x l) → Ascending (cond b x y ∷ insert (cond b y x) l)
    go true e u v = let h = yes_less x y g a.0 e in (insert_at_most x y l h (weaker x y l h s.0), u)
    go false e u v = (insert_at_most y x l (no_less x y g a.0 e) s.0, v)

pub insert_count : (p : Float → Bool) (x : Float) (l : List Float) → count p (insert x l) ≡ cond (p x) 1 0 + count p l
unfolding insert
insert_count p x [] = refl
insert_count p x (y ∷ l) = go (lt x y) (insert_count p y l) (insert_count p x l)
  where
    swap : (a b c : ℕ) → a + (b + c) ≡ b + (a + c)
    swap a b c = omega arith

    go : (b : Bool) → count p (insert y l) ≡ cond (p y) 1 0 + count p l → count p (insert x l) ≡ cond (p x) 1 0 + count p l → cond (p (cond b x y)) 1 0 + count p (insert (cond b y x) l) ≡ cond (p x) 1 0 + (cond (p y) 1 0 + count p l)
    go true u v = ap (λ (n : ℕ). cond (p x) 1 0 + n) u
    go false u v = ap (λ (n : ℕ). cond (p y) 1 0 + n) v ∙ swap (cond (p y) 1 0) (cond (p x) 1 0) (count p l)

-- ---- so for a whole list

pub sorted_good : (l : List Float) → AllGood l → AllGood (sorted l)
unfolding sorted
sorted_good [] a = tt
sorted_good (x ∷ l) a = insert_good x (sorted l) a.0 (sorted_good l a.1)

pub sorted_ascending : (l : List Float) → AllGood l → Ascending (sorted l)
unfolding sorted
sorted_ascending [] a = tt
sorted_ascending (x ∷ l) a = insert_ascending x (sorted l) a.0 (sorted_good l a.1) (sorted_ascending l a.1)

pub sorted_count : (p : Float → Bool) (l : List Float) → count p (sorted l) ≡ count p l
unfolding sorted
sorted_count p [] = refl
sorted_count p (x ∷ l) = insert_count p x (sorted l) ∙ ap (λ (n : ℕ). cond (p x) 1 0 + n) (sorted_count p l)
