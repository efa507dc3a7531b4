-- The used rows, oldest first, as the list of Order; and the search: the first row with the key is the first entry with it.
use Rattle.std.specs.Prelude.{None, Some}
use mathlib.Core.Path.{◌≡◌, refl, sym, ap, ap₂}
use mathlib.Core.Logic.{◌≢◌}
use Prim.Native.Nat.{ℕ, zero, suc, ◌≤◌}
use native.Mathlib.Omega.{arith}
use mathlib.Core.Bool.{true, false}
use mathlib.Core.List.{List, [], ◌∷◌, ◌++◌}
use lib.ListN.{length}
use Rattle.table.specs.Machine.{Key, same}
use Rattle.table.specs.Rows.{NONE, Watch, Form, row_at}
use Rattle.table.specs.Questions.{find_row}
use Rattle.table.proofs.Tests.{by_bool, eqb_yes, eqb_no}
use Rattle.table.proofs.Numbers.{first, Apart, below_none}
use Rattle.table.proofs.Linked.{Linked}
use Rattle.table.specs.Watch.{Body, body_at}
use Rattle.table.proofs.Order.{Entry, find, without, replaced}

-- THE USED ROWS AS A TABLE, and the search in it
module _ {P : Type 0} (F : Form P) where
  abbrev pub entry_at : Watch P → ℕ → Entry (Body P)
  entry_at w i = record { key = (row_at F.unmade w.rows i).key; state = body_at F w i }

  abbrev pub entries : Watch P → List ℕ → List (Entry (Body P))
  entries w [] = []
  entries w (i ∷ l) = entry_at w i ∷ entries w l

  pub entries_append : (w : Watch P) (l m : List ℕ) → entries w (l ++ m) ≡ entries w l ++ entries w m
  entries_append w [] m = refl
  entries_append w (i ∷ l) m = ap {B = List (Entry (Body P))} (λ x. entry_at w i ∷ x) (entries_append w l m)

  pub entries_length : (w : Watch P) (l : List ℕ) → length (entries w l) ≡ length l
  entries_length w [] = refl
  entries_length w (i ∷ l) = ap suc (entries_length w l)

  -- entries of two watches that agree on the rows
  pub entries_same : (w x : Watch P) (i : ℕ) (l : List ℕ) → Apart i l → ((j : ℕ) → j ≢ i → entry_at w j ≡ entry_at x j) → entries w l ≡ entries x l
  entries_same w x i [] a h = refl
  entries_same w x i (j ∷ l) a h = ap₂ {C = List (Entry (Body P))} (λ e r. e ∷ r) (h j (λ e. a.0 (sym e))) (entries_same w x i l a.1 h)

  -- the key is in no used row; or row i is the first with it
  pub record At (w : Watch P) (f : ℕ) (k : Key) (used : List ℕ) : Type 0 where
    pub pre : List ℕ
    pub row : ℕ
    pub post : List ℕ
    pub splits : used ≡ pre ++ row ∷ post
    pub search : find_row F.unmade w.rows f k (first used NONE) ≡ Some row
    pub finds : find k (entries w used) ≡ Some (body_at F w row)
    pub key_is : same k (row_at F.unmade w.rows row).key ≡ true
    pub rest : without k (entries w used) ≡ entries w (pre ++ post)
    pub puts : (s : Body P) → replaced k s (entries w used) ≡ entries w pre ++ (record { key = (row_at F.unmade w.rows row).key; state = s } ∷ entries w post)

  pub data Located (w : Watch P) (f : ℕ) (k : Key) (used : List ℕ) : Type 0 where
    absent : find_row F.unmade w.rows f k (first used NONE) ≡ None → find k (entries w used) ≡ None → Located w f k used
    present : At w f k used → Located w f k used

  pub locate : (w : Watch P) (f : ℕ) (k : Key) (used : List ℕ) (p : ℕ) → length w.rows ≤ NONE → length used ≤ f → Linked F.unmade w.rows p used NONE → Located w f k used
  locate w zero k [] p s n h = absent refl refl
  locate w (suc f) k [] p s n h = absent (rw (eqb_yes NONE NONE refl)) refl
  locate w zero k (i ∷ l) p s n h = absurd (omega arith)
  locate w (suc f) k (i ∷ l) p s n h =
      by_bool (same k (row_at F.unmade w.rows i).key)
      (λ q. present (record {
        pre = [];
        row = i;
        post = l;
        splits = refl;
        search = rw (eqb_no i NONE (below_none h.0 s), q);
        finds = rw q;
        key_is = q;
        rest = rw q;
        puts = λ x. rw q;
      }))
      (λ q. go q (locate w f k l i s (omega arith) h.3))
    where
      go : same k (row_at F.unmade w.rows i).key ≡ false → Located w f k l → Located w (suc f) k (i ∷ l)
      go q (absent e g) = absent (rw (eqb_no i NONE (below_none h.0 s), q, h.2) e) (rw q g)
      go q (present a) = present (record {
        pre = i ∷ a.pre;
        row = a.row;
        post = a.post;
        splits = ap {B = List ℕ} (λ x. i ∷ x) a.splits;
        search = rw (eqb_no i NONE (below_none h.0 s), q, h.2) a.search;
        finds = rw q a.finds;
        key_is = a.key_is;
        rest = rw q (ap {B = List (Entry (Body P))} (λ x. entry_at w i ∷ x) a.rest);
        puts = λ x. rw q (ap {B = List (Entry (Body P))} (λ y. entry_at w i ∷ y) (a.puts x));
      })
