-- The ways out of the functions that take a line or read on. Each law takes what the callees answered and gives the definition's value.
use Prim.Native.Nat.{ℕ, ◌≤◌, ◌<◌, ◌+◌, ◌-◌}
use mathlib.Core.Path.{◌≡◌, refl, ap, ◌∙◌}
use mathlib.Core.Bool.{true, false}
use mathlib.Core.List.{List, ◌++◌}
use native.Mathlib.Omega.{arith}
use lib.ListN.{length, take, drop, length-take, length-drop}
use lib.Seq.{length-take-le, take_at, drop_at, take-append-le}
use borrow.Author.Tests.{eq-eqb, ne_eqb}
use borrow.Rule.Slice.PartMut.{put_mid, post_of}
use Rattle.std.proofs.Common.{le_refl}
use Rattle.std.proofs.lemmas.List.{drop-take, drop_all}
use Rattle.std.proofs.lemmas.Slice.{take-put_mid_below}
use Rattle.std.specs.Prelude.{Some, None, Option}
use Rattle.std.specs.Io.KnownBytes.{Consumes}
use Rattle.fields.specs.Text.{first_of, first_in, moved_to}
use Rattle.fields.proofs.Lines.{find_le, first_some, first_none, moved_length}
use Rattle.lines.specs.Lines.{Within, waiting, line_of, kept_of, kept_count, taken_by, taken_of, ReadOn}
use Rattle.lines.specs.declared.Input.{Input}
use Rattle.lines.specs.declared.Step.{Step}
use Rattle.lines.specs.declared.Line.{Line}
use Rattle.lines.specs.declared.Line.TheVariants.{Nothing}

-- ---- the bytes that wait
module _ (s : Input) (buf : List ℕ) where
  pub end_le : first_of 10 (waiting s buf) ≤ s.have - s.at
  end_le = omega (arith, find_le 10 (waiting s buf), length-take (s.have - s.at) (drop s.at buf))

  pub taken_none : Within s buf → None ≡ first_in 10 (waiting s buf) → record { input = s; line = Nothing } ≡ taken_of s buf
  unfolding taken_of
  taken_none w e = rw (eq-eqb (first_of 10 (waiting s buf)) (s.have - s.at) all) refl where
    all : first_of 10 (waiting s buf) ≡ s.have - s.at
    all = omega (arith, first_none 10 (waiting s buf) e, end_le, w.0, w.1, length-take (s.have - s.at) (drop s.at buf), length-drop s.at buf)

  pub taken_line : {n : ℕ} {l : Line} → Some n ≡ first_in 10 (waiting s buf) → l ≡ line_of s.long s.at (s.at + n)
      → record { input = record { at = s.at + n + 1; have = s.have; long = false; more = true }; line = l } ≡ taken_of s buf
  unfolding taken_of
  taken_line {n} {l} e q = line ∙ ap (taken_by s) f.0 where
    f : (n ≡ first_of 10 (waiting s buf)) × (n < length (waiting s buf))
    f = first_some 10 (waiting s buf) n e

    line : record { input = record { at = s.at + n + 1; have = s.have; long = false; more = true }; line = l } ≡ taken_by s n
    line = rw (ne_eqb n (s.have - s.at) (λ h. omega (arith, h, f.1, length-take (s.have - s.at) (drop s.at buf))), q)

-- ---- the buffer after reading on: the bytes that are kept were moved to its front, and ys was read behind them
module _ (k : Input) (buf ys : List ℕ) (room : ℕ) (ordered : k.at ≤ k.have) (within : k.have ≤ length buf) where
  abbrev after : List ℕ
  after = put_mid (k.have - k.at) room (moved_to buf k.at (k.have - k.at)) ys

  moved_front : take (k.have - k.at) (moved_to buf k.at (k.have - k.at)) ≡ waiting k buf
  unfolding moved_to
  moved_front =
      let n = k.have - k.at in
      take_at (take n (drop k.at buf)) (drop n buf) n (length-take-le n (drop k.at buf) (omega (arith, length-drop k.at buf)))

  fits : k.have - k.at ≤ length (moved_to buf k.at (k.have - k.at))
  fits = omega (arith, moved_length buf k.at (k.have - k.at))

  front_is : take (k.have - k.at) after ≡ waiting k buf
  front_is =
      let n = k.have - k.at in take-put_mid_below n room (moved_to buf k.at n) ys n (le_refl n) fits ∙ moved_front

  behind_is : (came : ℕ) → came ≤ length ys → drop (k.have - k.at) (take (k.have - k.at + came) after) ≡ take came ys
  behind_is came h =
      let n = k.have - k.at in
      let mid = moved_to buf k.at n in
      let rest = post_of n room mid in
      drop-take n came after ∙ ap (take came) (drop_at (take n mid) (ys ++ rest) n (length-take-le n mid fits)) ∙ take-append-le came ys rest h

module _ (s : Input) {k : Input} {left : ℕ} {mid : List ℕ} (buf ys : List ℕ) (room : ℕ) {a b : Option (List ℕ)} (kept : k ≡ kept_of s) (moved : (left ≡ k.have - k.at) × (mid ≡ moved_to buf k.at (k.have - k.at)))
    (ordered : k.at ≤ k.have) (within : k.have ≤ length buf) where
  pub read_last : {came : ℕ} {r : Step} → r.input.have ≡ 0 → came ≡ 0 → Consumes a b (take came ys) → ReadOn s a b buf (put_mid left room mid ys) r
  read_last {came} {r} e z h = record {
    front = rw (moved.0, moved.1, ← kept) (front_is k buf ys room ordered within);
    bytes = rw (e, drop_all (kept_count s) (take 0 (put_mid left room mid ys)) (omega arith)) (rw z at h);
  }

  pub read_more : {came : ℕ} {r : Step} → r.input.have ≡ left + came → came ≤ length ys → Consumes a b (take came ys) → ReadOn s a b buf (put_mid left room mid ys) r
  read_more {came} {r} e m h = record {
    front = rw (moved.0, moved.1, ← kept) (front_is k buf ys room ordered within);
    bytes = rw (e, moved.0, moved.1, ← kept, behind_is k buf ys room ordered within came m) h;
  }
