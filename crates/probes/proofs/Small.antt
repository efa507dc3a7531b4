-- A judging's number is small, since every distance that is said is at most 800.
use Rattle.std.proofs.Common.{◌≡◌, ℕ, ◌+◌, ◌*◌, ◌≤◌, List, Option, refl, arith}
use Rattle.sites.specs.declared.Site.{Site}
use Rattle.near_field.specs.declared.Judgment.{Judgment}
use Rattle.near_field.specs.declared.Judgment.TheVariants.{Unjudged, Fits, Wrong}
use Rattle.near_field.specs.declared.Evidence.{Evidence}
use Rattle.near_field.specs.declared.Evidence.TheVariants.{Horizon, NearField, NothingNear}
use Rattle.judge.specs.Judging.{judge_of, Step}
use Rattle.judge.proofs.Distances.{judge_distance}
use Rattle.probes.specs.Judged.{evidence_number, judgment_number}

pub evidence_small : (e : Evidence) → evidence_number e ≤ 3
evidence_small Horizon = omega arith
evidence_small NearField = omega arith
evidence_small NothingNear = omega arith

wrong_small : (off : ℕ) (by : Evidence) → Step off → 4 * off + evidence_number by ≤ 3203
wrong_small off by s = omega (arith, evidence_small by, s.is, s.most)

number_small : (j : Judgment) → ((off : ℕ) (by : Evidence) → j ≡ Wrong off by → Step off) → judgment_number j ≤ 3203
number_small Unjudged h = omega arith
number_small Fits h = omega arith
number_small (Wrong off by) h = wrong_small off by (h off by refl)

pub judged_small : (site : Option Site) (even odd : Option ℕ) (cells : List ℕ) (now aircraft : ℕ) (j : Judgment) → j ≡ judge_of site even odd cells now aircraft → judgment_number j ≤ 3203
judged_small site even odd cells now aircraft j e =
    rw e (number_small (judge_of site even odd cells now aircraft) (λ off by h. judge_distance site even odd cells now aircraft off by h))
