-- Which rows were added to an image.
use Rattle.std.proofs.Common.{◌≡◌, refl, ◌∙◌, ap, ℕ, ◌≤◌, Bool, true, false, List, arith, tests}
use Rattle.std.specs.Prelude.{◌&&◌, ◌||◌, not, nat_le, nat_lt}
use Rattle.cil_base.specs.Token.{Token}
use Rattle.node_model.specs.Changes.{nodes_after}
use Rattle.node_model.specs.KeyKinds.{has_kind}
use Rattle.node_model.specs.Keys.{image_rows, is_key_there, is_of_root, is_row, token_of_key}
use Rattle.node_model.specs.Nodes.{Nodes, is_added}
use Rattle.node_model.specs.declared.change.RowChange.{RowChange}
use Rattle.node_model.specs.declared.key.Key.{Key}
use Rattle.node_model.proofs.RowLemmas.{SoundRows, is_made, made_is_none, root_key, row_after, row_stays}

-- each table has at least the rows of the image
abbrev pub Grown : List ℕ → Nodes → Type 0
Grown b n = (table : ℕ) → image_rows b table ≤ n.rows table

-- rows that are made are added, and no others
pub added_after : (b : List ℕ) (n : Nodes) (c : RowChange) (x : Token) → Grown b n → SoundRows n c → is_added b (nodes_after c n) x ≡ (is_added b n x || is_made c x)
added_after b n c x grown sound =
    ap (λ y. y && not (is_row (image_rows b) x)) (row_after n c x sound)
    ∙ by_tests (is_row n.rows x) (is_made c x) (is_row (image_rows b) x) (made_is_none n c x sound) (row_stays (image_rows b) n.rows x (grown x.table))
  where
    by_tests : (r m i : Bool) → (m ≡ true → r ≡ false) → (i ≡ true → r ≡ true) → ((r || m) && not i) ≡ ((r && not i) || m)
    by_tests true true i none stays = let bad : true ≡ false = none refl in absurd cc
    by_tests true false true none stays = refl
    by_tests true false false none stays = refl
    by_tests false m true none stays = let bad : false ≡ true = stays refl in absurd cc
    by_tests false true false none stays = refl
    by_tests false false false none stays = refl

root_is_no_row : (rows : ℕ → ℕ) (k : Key) → is_of_root k ≡ true → is_row rows (token_of_key k) ≡ false
root_is_no_row rows k e = none (token_of_key k).rid (rows (token_of_key k).table) (root_key k e)
  where
    none : (r c : ℕ) → r ≡ 0 → (nat_lt 0 r && nat_le r c) ≡ false
    none r c e = grind (arith, tests)

-- no key of the image is one of a row that was added
pub image_not_added : (b : List ℕ) (n : Nodes) (k : Key) → is_key_there (image_rows b) k ≡ true → is_added b n (token_of_key k) ≡ false
image_not_added b n k there = by_root (is_of_root k) refl there
  where
    by_tests : (r i : Bool) → i ≡ true → (r && not i) ≡ false
    by_tests true true e = refl
    by_tests true false e = absurd cc
    by_tests false i e = refl

    by_root : (x : Bool) → is_of_root k ≡ x → (x || is_row (image_rows b) (token_of_key k)) ≡ true → is_added b n (token_of_key k) ≡ false
    by_root true is e = ap (λ y. y && not (is_row (image_rows b) (token_of_key k))) (root_is_no_row n.rows k is)
    by_root false is e = by_tests (is_row n.rows (token_of_key k)) (is_row (image_rows b) (token_of_key k)) e
