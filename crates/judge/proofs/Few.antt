-- Words of which few are occupied: what the passes over them give. Assumes nothing.
use Rattle.std.specs.Prelude.{None, Option}
use mathlib.Core.Path.{◌≡◌, refl, ap, ◌∙◌}
use mathlib.Core.Bool.{Bool, true, false, ◌&&◌, cond}
use mathlib.Core.List.{List, [], ◌∷◌, ◌++◌}
use Prim.Native.Nat.{ℕ, ◌+◌, ◌<◌}
use native.Mathlib.Omega.{arith}
use lib.Ieee.{Float}
use lib.ListN.{get_or}
use Rattle.cells.specs.Cells.{empty_word, low_of, occupied_word, ceiling}
use Rattle.cells.specs.Passes.{pass}
use Rattle.cells.proofs.Passes.{pass_next, pass_skip, pass_all}
use Rattle.cells.proofs.Words.{empty_count, empty_low}
use Rattle.view.specs.declared.Far.{Far}
use Rattle.sites.specs.Sites.{antenna}
use Rattle.sites.specs.declared.Site.{Site}
use Rattle.past_horizon.specs.Horizon.{under_ceiling, bin_past, with_excess, excesses, enough_past, horizon_past, past_horizon}
use Rattle.nearest.specs.Nothing.{Place}

-- ---- passes in which all numbers but one, or two, change nothing
pub pass_one :
    {S : Type 0} (f : ℕ → S → S) (s : S) (k n : ℕ) → k < n → ((i : ℕ) → i < n → (i ≡ k → ⊥) → (x : S) → f i x ≡ x) → pass f s n ≡ f k s
pass_one f s k n l h =
    pass_skip f s (k + 1) n (omega arith) (λ i p q x. h i q (λ e. omega arith) x)
    ∙ pass_next f s k
    ∙ ap (f k) (pass_all f s k (λ i q x. h i (omega arith) (λ e. omega arith) x))

pub pass_two :
    {S : Type 0} (f : ℕ → S → S) (s : S) (k m n : ℕ) → k < m → m < n → ((i : ℕ) → i < n → (i ≡ k → ⊥) → (i ≡ m → ⊥) → (x : S) → f i x ≡ x)
    → pass f s n ≡ f m (f k s)
pass_two f s k m n l l2 h =
    pass_skip f s (m + 1) n (omega arith) (λ i p q x. h i q (λ e. omega arith) (λ e. omega arith) x)
    ∙ pass_next f s m
    ∙ ap (f m) (pass_one f s k m l (λ i q d x. h i (omega arith) d (λ e. omega arith) x))

-- ---- an empty word
pub empty_free : (w : ℕ) → w ≡ empty_word → occupied_word w ≡ false
empty_free w e = rw (e, empty_count)

pub skip_place : (w : ℕ) (p : Place) → w ≡ empty_word → (x : List Place) → cond (occupied_word w) (x ++ (p ∷ [])) x ≡ x
skip_place w p e x = rw (empty_free w e)

pub skip_count : (w : ℕ) (b : Bool) → w ≡ empty_word → (x : ℕ) → cond (occupied_word w && b) (x + 1) x ≡ x
skip_count w b e x = rw (empty_free w e)

-- ---- bins without altitude: none is past the horizon
no_choice : (b : Bool) → ◌≡◌ {A = Option Float} (cond b None None) None
no_choice true = refl
no_choice false = refl

not_past : (w j : ℕ) (a : Float) → low_of w ≡ 255 → bin_past w j a ≡ None
unfolding bin_past under_ceiling ceiling
not_past w j a e = rw e (no_choice (occupied_word w))

pub none_past : (site : Site) (far : Far) → ((j : ℕ) → j < 72 → low_of (get_or far.cells j 0) ≡ 255) → None ≡ past_horizon site far
unfolding past_horizon horizon_past enough_past excesses
none_past site far h =
    rw (pass_all (λ (j : ℕ). with_excess (bin_past (get_or far.cells j 0) j (antenna site))) [] 72 (λ j l x. rw (not_past (get_or far.cells j 0) j (antenna site) (h j l))))

pub low_free : (w : ℕ) → w ≡ empty_word → low_of w ≡ 255
low_free w e = ap low_of e ∙ empty_low
