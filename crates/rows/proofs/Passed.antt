-- A look that is no refusal, but for 3: questions 1 and 2 were passed. For the calls that go on where no row has the key.
use Rattle.std.specs.Prelude.{Option, Result, Ok, Err}
use mathlib.Core.Path.{◌≡◌, sym}
use Prim.Native.Nat.{ℕ}
use native.Mathlib.Omega.{arith}
use mathlib.Core.Bool.{true}
use Rattle.table.specs.Machine as M
use Rattle.table.specs.Rows.{Watch}
use Rattle.table.specs.Questions.{question1, question2}
use Rattle.table.specs.declared.Refusal.{Refusal}
use Rattle.table.proofs.Tests.{by_bool}
use Rattle.receiver.specs.declared.Part.{Part}
use Rattle.rows.specs.Read.{form, looked_in}
use Rattle.scans.specs.Scan.{claimable}

pub no_ok : {X A : Type 0} {i : A} {r : Refusal} → ◌≡◌ {A = Result A Refusal} (Ok i) (Err r) → X
no_ok e = let z : ◌≡◌ {A = ℕ} 0 1 = cc in absurd (omega arith)

pub one_ok : {A : Type 0} {i j : A} → ◌≡◌ {A = Result A Refusal} (Ok i) (Ok j) → i ≡ j
one_ok e = cc

pub one_err : {A : Type 0} {r s : Refusal} → ◌≡◌ {A = Result A Refusal} (Err r) (Err s) → r ≡ s
one_err e = cc

pub record Passed (w : Watch Part) : Type 0 where
  pub one : question1 form w ≡ true
  pub two : question2 form w ≡ true

pub passed : (w : Watch Part) (k : M.Key) (o : Option ℕ) → claimable (looked_in w k) ≡ Ok o → Passed w
passed w k o e =
    by_bool (question1 form w)
    (λ p. by_bool (question2 form w) (λ q. record { one = p; two = q }) (λ q. no_ok (sym (rw (p, q) at e))))
    (λ p. no_ok (sym (rw p at e)))
