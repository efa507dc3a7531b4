-- What a line of the list is by its first word, and what is written of it. Each law takes what the callees answered and gives the definition's value.
use Rattle.std.proofs.Common.{◌≡◌, ℕ, Bool, true, false, List, [], length, replicate, sym, ap, ◌∙◌, eqb}
use lib.Pointwise.{pointwise}
use Rattle.fields.specs.Text.{part_of, same_bytes}
use Rattle.fields.proofs.Lines.{same_is}
use Rattle.vectors.specs.Lines.{word_of}
use Rattle.vectors.specs.Replays.{word_count}
use Rattle.vectors.specs.Print.{Put, row_text, shown_text}
use Rattle.vectors.specs.declared.replay.Counts.{Counts}

-- what the library's comparison says of a line's first word
pub word_is : {w p l : List ℕ} {b r : Bool} (word : List ℕ) → w ≡ p → l ≡ word → r ≡ pointwise eqb w l → r ≡ b → same_bytes p word ≡ b
word_is {w} {p} {l} word e k h g = ap (λ (z : List ℕ). same_bytes z word) (sym e) ∙ ap (same_bytes w) (sym k) ∙ sym (same_is w l) ∙ sym h ∙ g

-- ---- what is written
module _ (c : Counts) (t : List ℕ) where
  pub text_row : {n : ℕ} {name out b : List ℕ} → same_bytes (word_of 0 t) word_count ≡ true → Put (replicate 2048 0) 0 (row_text c name) out n → name ≡ part_of t 6 (length t)
      → b ≡ part_of out 0 n → b ≡ shown_text c t
  unfolding shown_text
  text_row w e h f = rw w (f ∙ rw (e.0, e.1, h))

  pub text_none : same_bytes (word_of 0 t) word_count ≡ false → [] ≡ shown_text c t
  unfolding shown_text
  text_none w = rw w
