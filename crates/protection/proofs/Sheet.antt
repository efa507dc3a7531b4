-- Worked examples: P6, P7, P9, two runs more, Item 3 of 02, and that demand 3 is not empty. The site is at 0, 0 degrees.
use Rattle.std.specs.Prelude.{Some, None}
use mathlib.Core.Path.{◌≡◌, refl, sym, ap, ◌∙◌, subst}
use Prim.Native.Nat.{ℕ, ◌+◌, ◌^◌, ◌≤◌, ◌<◌}
use native.Mathlib.Omega.{arith}
use mathlib.Core.Bool.{true, false}
use mathlib.Core.List.{List, [], ◌∷◌}
use lib.Dec.{lit<, lit≤}
use lib.Ieee.{Float, fin}
use lib.IntN.{pos}
use Rattle.table.specs.Machine.{Key, Call, Answer, refused, said, Event, history}
use Rattle.table.specs.Watch.{rowed_machine}
use Rattle.table.proofs.Order.{table_step}
use Rattle.table.proofs.Tests.{ltb_yes}
use Rattle.measures.specs.Degrees.{within}
use Rattle.near_field.specs.declared.Judgment.{Judgment}
use Rattle.near_field.specs.declared.Judgment.TheVariants.{Unjudged, Fits, Wrong}
use Rattle.near_field.specs.declared.Evidence.TheVariants.{Horizon}
use Rattle.judge.specs.Judging.{judge_of}
use Rattle.verdicts.specs.declared.CheckState.TheVariants as Says
use Rattle.receiver.specs.Calls.{Act, claim, position, judging, check, take_out, Out, generation_is, judgment_is, freed, done, kind, siting}
use Rattle.verdicts.specs.Verdict.{wrongly, otherwise, says_verdict, too_soon}
use Rattle.protection.specs.Marks.{calls_of, answers_to, Protected}
use Rattle.protection.specs.Run.{held, says_of}
use Rattle.protection.specs.Card.{card_answers}
use Rattle.protection.specs.Promise.{marks_key, told, Safe}
use Rattle.protection.proofs.Counters.{verdict_of}
use Rattle.protection.proofs.Promised.{told_is_table, promise}

-- a Wrong by d, and another
abbrev pub W : ℕ → Judgment
W d = Wrong d Horizon

abbrev pub O : Judgment
O = Fits

-- P6: W W O W W: not held; W W W O O W: held. (A run is written newest first.)
pub p6_not : held (W 5 ∷ W 5 ∷ O ∷ W 5 ∷ W 5 ∷ []) ≡ false
p6_not = refl

pub p6_held : held (W 5 ∷ O ∷ O ∷ W 5 ∷ W 5 ∷ W 5 ∷ []) ≡ true
p6_held = refl

-- the same of a row's counters
pub p6_row : says_verdict (verdict_of (W 30 ∷ O ∷ O ∷ W 5 ∷ W 5 ∷ W 5 ∷ [])) ≡ Says.Wrong 30
unfolding wrongly otherwise
p6_row = refl

-- W W W O O O W W: not wrong. W W W O O W O O: wrong, with the distance of the fourth W.
pub let_go : says_of (W 5) (W 5 ∷ O ∷ O ∷ O ∷ W 5 ∷ W 5 ∷ W 5 ∷ []) ≡ Says.Unjudged
let_go = refl

pub fourth : says_of O (O ∷ W 40 ∷ O ∷ O ∷ W 15 ∷ W 10 ∷ W 5 ∷ []) ≡ Says.Wrong 40
fourth = refl

-- three receivers' keys
abbrev pub a : Key
a = 1 ∷ []

abbrev pub b : Key
b = 2 ∷ []

abbrev pub c : Key
c = 3 ∷ []

abbrev pub by : Key → Act → Call Act
by k x = record { key = k; act = x }

-- the answers of a list
abbrev pub answers_of : List (Event Act Out) → List (Answer Out)
answers_of [] = []
answers_of (e ∷ l) = e.answer ∷ answers_of l

-- a claim of the site at 0, 0 degrees, and a position there
abbrev pub zero° : Float
zero° = fin false 0 (pos 0)

abbrev pub site : Act
site = claim (Some (record { lat = zero°; lon = zero°; alt_m = None }))

abbrev pub at : ℕ → Act
at ms = position (record { lat = zero°; lon = zero°; feet = None; address = 0; at_ms = ms })

-- P7: at_ms 0, then 86,400,000, then 43,199,999: the last gets 6. (43,200,000 does not: the other half has no id.)
pub p7 : card_answers a None (site ∷ at 0 ∷ at 86400000 ∷ at 43199999 ∷ at 43200000 ∷ []) ≡ (said None (generation_is 1) ∷ said None done ∷ said None done ∷ refused 6 ∷ said None done ∷ [])
unfolding within
p7 = refl

-- Item 3 of 02, on a card: 3 before it is filled; then no judging is too soon. After one at 5, the next gets 9 up to 1,800,004, and is accepted at 1,800,005; a clock gone
-- back gets 9, a move does not change that. What got 9 was not kept. Filled again after a take-out, no judging is too soon.
abbrev unjudged : Answer Out
unjudged = said None (judgment_is Unjudged)

pub item3 : card_answers a None (judging 5 0 ∷ claim None ∷ judging 5 0 ∷ judging 1800004 0 ∷ judging 1800005 0 ∷ judging 4 0 ∷ site ∷ judging 3600004 0 ∷ judging 3600005 0 ∷ take_out ∷ claim None ∷ judging 0 0 ∷ [])
    ≡ (refused 3 ∷ said None (generation_is 0) ∷ unjudged ∷ refused 9 ∷ unjudged ∷ refused 9 ∷ said None (generation_is 1) ∷ refused 9 ∷ unjudged ∷ said None (freed a) ∷ said None (generation_is 0) ∷ unjudged ∷ [])
unfolding within judge_of
item3 = refl

-- A kept number near 2^64 makes every judging too soon: the sum does not wrap.
pub item3_top : (ms now : ℕ) → 2 ^ 64 ≤ ms + 1800000 → now < 2 ^ 64 → too_soon (Some ms) now ≡ true
item3_top ms now h k = ltb_yes now (ms + 1800000) (omega arith)

-- P9: C = 2: claim a (with a site), claim b, position a, claim c pushes out b.
abbrev pub p9_calls : List (Call Act)
p9_calls = by a site ∷ by b site ∷ by a (at 0) ∷ by c site ∷ by b check ∷ by a check ∷ []

abbrev pub p9_answers : List (Answer Out)
p9_answers = said None (generation_is 1) ∷ said None (generation_is 1) ∷ said None done ∷ said (Some b) (generation_is 1) ∷ refused 3 ∷ refused 7 ∷ []

-- on the table, which computes, and so on the watch of rows and links
p9_table : told 2 p9_calls ≡ history (table_step kind (rowed_machine siting) 2) [] p9_calls
p9_table = told_is_table 2 (lit≤ tt) (lit≤ tt) p9_calls

on_table : answers_of (history (table_step kind (rowed_machine siting) 2) [] p9_calls) ≡ p9_answers
unfolding within
on_table = refl

pub p9 : answers_of (told 2 p9_calls) ≡ p9_answers
p9 = ap answers_of p9_table ∙ on_table

-- a is protected there: at no point were two others marked since its latest mark
safe_table : Protected marks_key 2 a None (history (table_step kind (rowed_machine siting) 2) [] p9_calls)
unfolding within
safe_table = (tt, (lit< tt, (lit< tt, (lit< tt, (lit< tt, (lit< tt, lit< tt))))))

pub p9_safe : Safe 2 a p9_calls
p9_safe = subst (λ (h : List (Event Act Out)). Protected marks_key 2 a None h) (sym p9_table) safe_table

-- so its answers are its card's
pub p9_a : answers_to a (told 2 p9_calls) ≡ card_answers a None (calls_of a p9_calls)
p9_a = promise.answers 2 (lit≤ tt) (lit≤ tt) a p9_calls p9_safe

-- b is not: two others were marked since, and its check gets 3 where its card says 7
b_table : answers_to b (history (table_step kind (rowed_machine siting) 2) [] p9_calls) ≡ (said None (generation_is 1) ∷ refused 3 ∷ [])
unfolding within
b_table = refl

pub p9_b : answers_to b (told 2 p9_calls) ≡ (said None (generation_is 1) ∷ refused 3 ∷ [])
p9_b = ap (λ (h : List (Event Act Out)). answers_to b h) p9_table ∙ b_table

pub p9_b_card : card_answers b None (calls_of b p9_calls) ≡ (said None (generation_is 1) ∷ refused 7 ∷ [])
unfolding within
p9_b_card = refl
