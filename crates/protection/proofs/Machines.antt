-- Two machines that a function takes one to the other answer alike.
use Rattle.std.specs.Prelude.{Option, None, Some}
use mathlib.Core.Path.{◌≡◌, refl, ap₂}
use mathlib.Core.List.{List, [], ◌∷◌}
use Rattle.table.specs.Machine.{Key, Kind, enters, uses, looks, leaves, Outcome, refuse, accept, Machine, Answer, Step}
use Rattle.protection.proofs.Alone.{settle, blank_call, alone, answers_alone}

abbrev pub on_state : {S S' O : Type 0} → (S → S') → Outcome S O → Outcome S' O
on_state f (refuse n) = refuse n
on_state f (accept s o) = accept (f s) o

abbrev on_option : {S S' : Type 0} → (S → S') → Option S → Option S'
on_option f None = None
on_option f (Some s) = Some (f s)

abbrev Alike : {S S' O : Type 0} → (S → S') → Step (Option S') O → Step (Option S) O → Type 0
Alike f x y = (x.answer ≡ y.answer) × (x.next ≡ on_option f y.next)

module _ {Act Out : Type 0} (kind : Act → Kind) (M N : Machine Act Out) (f : M.State → N.State)
    (fresh : N.fresh ≡ f M.fresh) (acts : (k : Key) (s : M.State) (a : Act) → N.act k (f s) a ≡ on_state f (M.act k s a)) where
  settle_alike : (κ : Kind) (m : Option M.State) (r : Outcome M.State Out) → Alike f (settle kind N κ (on_option f m) (on_state f r)) (settle kind M κ m r)
  settle_alike κ m (refuse n) = (refl, refl)
  settle_alike enters m (accept s o) = (refl, refl)
  settle_alike uses m (accept s o) = (refl, refl)
  settle_alike looks m (accept s o) = (refl, refl)
  settle_alike leaves m (accept s o) = (refl, refl)

  blank_alike : (κ : Kind) (r : Outcome M.State Out) → Alike f (blank_call kind N κ (on_state f r)) (blank_call kind M κ r)
  blank_alike enters r = settle_alike enters None r
  blank_alike uses r = (refl, refl)
  blank_alike looks r = (refl, refl)
  blank_alike leaves r = (refl, refl)

  alone_alike : (k : Key) (m : Option M.State) (a : Act) → Alike f (alone kind N k (on_option f m) a) (alone kind M k m a)
  alone_alike k None a = rw (fresh, acts k M.fresh a) (blank_alike (kind a) (M.act k M.fresh a))
  alone_alike k (Some s) a = rw (acts k s a) (settle_alike (kind a) (Some s) (M.act k s a))

  answers_from : (k : Key) (m : Option M.State) (l : List Act) → answers_alone kind N k (on_option f m) l ≡ answers_alone kind M k m l
  answers_from k m [] = refl
  answers_from k m (a ∷ l) =
      let p = alone_alike k m a in
      ap₂ {C = List (Answer Out)} (λ x r. x ∷ r) p.0 (rw p.1 (answers_from k (alone kind M k m a).next l))

  pub answers_alike : (k : Key) (l : List Act) → answers_alone kind N k None l ≡ answers_alone kind M k None l
  answers_alike k l = answers_from k None l
