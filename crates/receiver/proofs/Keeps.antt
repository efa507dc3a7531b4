-- The calls leave a row that passes question 2 (`lawful`): a site that is stored was within degrees, a distance that is held was said by a judging, so it is a
-- step of 5 from 5 to 800, and a row keeps its 3,344 cells.
use Rattle.std.specs.Prelude.{Some, None, Option}
use mathlib.Core.Path.{◌≡◌, refl, ◌∙◌, subst}
use Prim.Native.Nat.{ℕ, ◌+◌, ◌%◌}
use native.Mathlib.Omega.{arith}
use mathlib.Core.Bool.{Bool, true, false, cond, ◌||◌}
use mathlib.Core.List.{List}
use lib.Dec.{leb}
use lib.ListN.{length, get_or, replicate, length-set, length-replicate}
use lib.Seq.{length-sets}
use Rattle.table.specs.Machine.{Key, Outcome, refuse, accept}
use Rattle.table.specs.Watch.{Body}
use Rattle.table.proofs.Tests.{by_bool, and_1, and_2, and_both, eqb_yes, leb_yes}
use Rattle.table.proofs.Rep.{Fine}
use Rattle.table.proofs.Refine.{Lawful}
use Rattle.measures.specs.Degrees.{in_degrees}
use Rattle.sites.specs.Sites.{held, same_place, placed}
use Rattle.sites.specs.declared.Site.{Site}
use Rattle.cells.specs.Cells.{empty_word, added_word, bucket_of, aircraft_bit}
use Rattle.near_field.specs.declared.Judgment.{Judgment}
use Rattle.near_field.specs.declared.Judgment.TheVariants.{Unjudged, Fits, Wrong}
use Rattle.judge.proofs.Distances.{judge_distance}
use Rattle.verdicts.specs.declared.Verdict.{Verdict}
use Rattle.heard.specs.declared.Heard.{Heard}
use Rattle.heard.specs.declared.Position.{Position}
use Rattle.receiver.specs.declared.Part.{Part}
use Rattle.verdicts.specs.Verdict.{up, is_held, wrongly, otherwise, judged_once, goes_on, judged_next, step_of5, by_fits, verdict_fits, too_soon}
use Rattle.heard.specs.Heard.{half, width, empty_cells, Moved, moved, stayed, claimed_site, claimed_none, claimed, epoch_of, is_even, held_id, with_id, not_older, holds_id, start_of, emptied, counted_at, counted_in, on_claimed, positioned, site_fits}
use Rattle.receiver.specs.Calls.{Act, claim, position, judging, check, take_out, Out, ended_by, claim_done, position_done, judging_of, judging_done, check_done, row_act, siting}

-- DISTANCES
abbrev judgment_fits : Judgment → Bool
judgment_fits (Wrong d e) = step_of5 d
judgment_fits Fits = true
judgment_fits Unjudged = true

judging_fits : (h : Heard) (l : List ℕ) (now aircraft : ℕ) → judgment_fits (judging_of h l now aircraft) ≡ true
judging_fits h l now aircraft = go (judging_of h l now aircraft) refl
  where
    go : (j : Judgment) → judging_of h l now aircraft ≡ j → judgment_fits j ≡ true
    go (Wrong d e) q = let s = judge_distance h.site h.even h.odd l now aircraft d e q in rw (eqb_yes (d % 5) 0 (omega (arith, s.is)), leb_yes 5 d (omega (arith, s.is, s.some)), leb_yes d 800 (omega (arith, s.is, s.most)))
    go Fits q = refl
    go Unjudged q = refl

ended_fits : (m : Moved) (v : Option Verdict) → verdict_fits v ≡ true → verdict_fits (ended_by m v) ≡ true
ended_fits stayed v h = h
ended_fits moved None h = h
ended_fits moved (Some v) h = h

goes_fits : (v : Option Verdict) → verdict_fits v ≡ true → by_fits (goes_on v).wrong_by ≡ true
goes_fits None h = refl
goes_fits (Some v) h = by_bool v.moved (λ p. rw p) (λ p. rw p h)

cond_fits : (b : Bool) (x y : Option ℕ) → by_fits x ≡ true → by_fits y ≡ true → by_fits (cond b x y) ≡ true
cond_fits true x y p q = p
cond_fits false x y p q = q

once_fits : (v : Verdict) (j : Judgment) → by_fits v.wrong_by ≡ true → judgment_fits j ≡ true → by_fits (judged_once v j).wrong_by ≡ true
unfolding wrongly otherwise
once_fits v (Wrong d e) h k = cond_fits (leb 3 (up v.wrong_run) || is_held v.wrong_by) (Some d) None k refl
once_fits v Fits h k = cond_fits (leb 3 (up v.other_run)) None v.wrong_by refl h
once_fits v Unjudged h k = cond_fits (leb 3 (up v.other_run)) None v.wrong_by refl h

-- SITES AND CELLS
pub empty_wide : length empty_cells ≡ width
unfolding empty_cells
empty_wide = length-replicate width empty_word

-- what a claim or a position leaves
abbrev Good : Body Heard → Type 0
Good b = (site_fits b.part.site ≡ true) × (length b.cells ≡ width)

was_accepted : {A S : Type 0} (G : S → Type 0) {x r : S} {a b : A} → ◌≡◌ {A = Outcome S A} (accept x a) (accept r b) → G x → G r
was_accepted G {x} {r} e h = let q : x ≡ r = cc in subst G q h

was_refused : {A S : Type 0} (G : S → Type 0) {r : S} {n : ℕ} {b : A} → ◌≡◌ {A = Outcome S A} (refuse n) (accept r b) → G r
was_refused G e = let z : ◌≡◌ {A = ℕ} 0 1 = cc in absurd (omega arith)

module _ (h : Heard) (l : List ℕ) (n : length l ≡ width) (r : Body Heard) where
  site_good : (s : Site) (old : Option Site) (m : Moved) → held s ≡ true → site_fits old ≡ true → claimed_site h l s old ≡ accept r m → Good r
  site_good s None m i j e = was_accepted Good e (i, empty_wide)
  site_good s (Some old) m i j e =
      by_bool (same_place old s)
      (λ p. was_accepted Good (rw p at e) (j, n))
      (λ p. was_accepted Good (rw p at e) (i, empty_wide))

  none_good : (old : Option Site) (m : Moved) → site_fits h.site ≡ true → claimed_none h l old ≡ accept r m → Good r
  none_good None m k e = was_accepted Good e (k, n)
  none_good (Some old) m k e = was_accepted Good e (refl, empty_wide)

  claim_good : (c : Option Site) (m : Moved) → site_fits h.site ≡ true → claimed h l c ≡ accept r m → Good r
  claim_good None m k e = none_good h.site m k e
  claim_good (Some s) m k e =
      by_bool (held s) (λ p. site_good s h.site m p k (rw p at e)) (λ p. was_refused Good (rw p at e))

  with_id_lem : (b : Bool) (id : ℕ) → (with_id b id h).site ≡ h.site
  with_id_lem true id = refl
  with_id_lem false id = refl

  emptied_wide : (b c : Bool) → length (emptied b c l) ≡ width
  unfolding emptied
  emptied_wide b true = n
  emptied_wide b false = length-sets l (start_of b) (replicate half empty_word) ∙ n

  counted_wide : (s : Site) (p : Position) (id : ℕ) → length (counted_in h l s p id) ≡ width
  unfolding counted_at
  counted_wide s p id =
      let k = emptied (is_even id) (holds_id (held_id (is_even id) h) id) l in
      let i = start_of (is_even id) + placed s.lat s.lon p.lat p.lon in
      length-set k i (added_word (get_or k i 0) (bucket_of p.feet) (aircraft_bit p.address)) ∙ emptied_wide (is_even id) (holds_id (held_id (is_even id) h) id)

  claimed_good : (p : Position) (c : Option Site) (m : Unit {0}) → site_fits h.site ≡ true → on_claimed h l p c ≡ accept r m → Good r
  claimed_good p None m k e = was_refused Good e
  claimed_good p (Some s) m k e =
      let id = epoch_of p.at_ms in
      by_bool (not_older (held_id (is_even id) h) id)
      (λ q. was_accepted Good (rw q at e) (rw (with_id_lem (is_even id) id) k, counted_wide s p id))
      (λ q. was_refused Good (rw q at e))

  position_good : (p : Position) (m : Unit {0}) → site_fits h.site ≡ true → positioned h l p ≡ accept r m → Good r
  position_good p m k e =
      by_bool (in_degrees p.lat p.lon) (λ q. claimed_good p h.site m k (rw q at e)) (λ q. was_refused Good (rw q at e))

-- A ROW
abbrev Sound : Body Part → Type 0
Sound s = Fine siting.form s

sound : (h : Heard) (v : Option Verdict) (k : Option ℕ) (l : List ℕ) → site_fits h.site ≡ true → verdict_fits v ≡ true → length l ≡ width → Sound (record { part = record { heard = h; verdict = v; judged_ms = k }; cells = l })
sound h v k l p q n = record { sound_part = and_both (site_fits h.site) (verdict_fits v) p q; wide = n }

module _ (s : Body Part) (fine : Sound s) where
  site_fits_lem : site_fits s.part.heard.site ≡ true
  site_fits_lem = and_1 (site_fits s.part.heard.site) (verdict_fits s.part.verdict) fine.sound_part

  verdict_fits_lem : verdict_fits s.part.verdict ≡ true
  verdict_fits_lem = and_2 (site_fits s.part.heard.site) (verdict_fits s.part.verdict) fine.sound_part

  claim_keeps : (c : Option Site) (r : Outcome (Body Heard) Moved) → claimed s.part.heard s.cells c ≡ r → (s' : Body Part) (o : Out) → claim_done s.part r ≡ accept s' o → Sound s'
  claim_keeps c (refuse n) q s' o e = was_refused Sound e
  claim_keeps c (accept b m) q s' o e =
      let g = claim_good s.part.heard s.cells fine.wide b c m site_fits_lem q in
      was_accepted Sound e (sound b.part (ended_by m s.part.verdict) s.part.judged_ms b.cells g.0 (ended_fits m s.part.verdict verdict_fits_lem) g.1)

  position_keeps : (p : Position) (r : Outcome (Body Heard) (Unit {0})) → positioned s.part.heard s.cells p ≡ r → (s' : Body Part) (o : Out) → position_done s.part r ≡ accept s' o → Sound s'
  position_keeps p (refuse n) q s' o e = was_refused Sound e
  position_keeps p (accept b m) q s' o e =
      let g = position_good s.part.heard s.cells fine.wide b p m site_fits_lem q in
      was_accepted Sound e (sound b.part s.part.verdict s.part.judged_ms b.cells g.0 verdict_fits_lem g.1)

  judging_keeps : (now : ℕ) (j : Judgment) → judgment_fits j ≡ true → (s' : Body Part) (o : Out) → judging_done s now j ≡ accept s' o → Sound s'
  judging_keeps now j f s' o e =
      by_bool (too_soon s.part.judged_ms now)
      (λ p. was_refused Sound (rw p at e))
      (λ p. was_accepted Sound (rw p at e) (sound s.part.heard (judged_next s.part.verdict j) (Some now) s.cells site_fits_lem (once_fits (goes_on s.part.verdict) j (goes_fits s.part.verdict verdict_fits_lem) f) fine.wide))

  check_keeps : (v : Option Verdict) (s' : Body Part) (o : Out) → check_done s v ≡ accept s' o → Sound s'
  check_keeps None s' o e = was_refused Sound e
  check_keeps (Some v) s' o e = was_accepted Sound e fine

act_keeps : (k : Key) (s : Body Part) (a : Act) (s' : Body Part) (o : Out) → row_act k s a ≡ accept s' o → Sound s → Sound s'
act_keeps k s (claim c) s' o e f = claim_keeps s f c (claimed s.part.heard s.cells c) refl s' o e
act_keeps k s (position p) s' o e f = position_keeps s f p (positioned s.part.heard s.cells p) refl s' o e
act_keeps k s (judging now aircraft) s' o e f = judging_keeps s f now (judging_of s.part.heard s.cells now aircraft) (judging_fits s.part.heard s.cells now aircraft) s' o e
act_keeps k s check s' o e f = check_keeps s f s.part.verdict s' o e
act_keeps k s take_out s' o e f = was_accepted Sound e f

pub lawful : Lawful siting
lawful = record { form_laws = record { unmade_sound = refl; blank_wide = empty_wide }; keeps = act_keeps }
