-- A part of the words that another takes the place of, as one run of stores.
use Rattle.std.proofs.Common.{◌≡◌, ◌+◌, ◌-◌, ◌≤◌, ℕ, List, ◌++◌, length, take, drop, sym, ap, ◌∙◌, append_assoc, arith}
use Rattle.std.proofs.lemmas.List.Edits.{sets, sets-eq}
use lib.Seq.{drop-drop}
use Rattle.packing.proofs.put.Goals as goal

run : (l xs ys : List ℕ) (i : ℕ) → i + length xs ≤ length l → ys ≡ xs → take i l ++ (ys ++ drop (i + length xs - i) (drop i l)) ≡ sets l i xs
run l xs ys i h e =
    ap (λ (zs : List ℕ). take i l ++ (zs ++ drop (i + length xs - i) (drop i l))) e
    ∙ ap (λ (zs : List ℕ). take i l ++ (xs ++ zs)) (drop-drop (i + length xs - i) i l ∙ ap (λ (n : ℕ). drop n l) same)
    ∙ sym (append_assoc (take i l) xs (drop (i + length xs) l)) ∙ sym (sets-eq xs l i h)
  where
    same : i + (i + length xs - i) ≡ i + length xs
    same = omega arith

pub returns : goal.returns
returns c = run _ _ _ _ c.requires c.copy_from_slice.ensures.after
