-- What holds of an edit that is not refused before a key is looked at.
use Rattle.std.proofs.Common.{◌≡◌, refl, ℕ, ◌<◌, ◌-◌, ◌^◌, Bool, true, false, List, [], ◌∷◌, Option, Some, None, cond, if◌then◌else◌, find, not, arith, tests, length}
use Rattle.std.specs.Prelude.{◌==◌, ◌&&◌, ◌||◌, nat_le}
use Rattle.std.specs.List.{list_all}
use Rattle.std.specs.Option.{option_map, option_or}
use Rattle.cil_base.specs.Token.{Token}
use Rattle.md_schema.specs.Tables.{assembly, module_}
use Rattle.node_model.specs.ColumnFit.{bad_column, bad_row, first_misfit, lesser, sig_fits_table, told_unless}
use Rattle.node_model.specs.EditRefusals.{early_conditions, early_refusal, edit_rows, first_some, full_table, is_bad_name, most_rows, room_refusal}
use Rattle.node_model.specs.NamedTokens.{NamedToken, edit_names}
use Rattle.node_model.specs.Nodes.{Nodes, is_absent_row, is_absent_status, is_live_row, is_live_status, is_removed_row, is_removed_status, row_status}
use Rattle.node_model.specs.declared.nodes.RowStatus.{RowStatus}
use Rattle.node_model.specs.declared.nodes.RowStatus.TheVariants as statuses
use Rattle.node_model.specs.RowFaults.{cell_columns}
use Rattle.node_model.specs.declared.cell.Cell.{Cell}
use Rattle.node_model.specs.declared.edit.Edit.{Edit}
use Rattle.node_model.specs.declared.edit.OptSig.{OptSig}
use Rattle.node_model.specs.declared.edit_refusal.EditRefusal.TheVariants.{Absent, Removed, BadColumn, BadRef, TableFull}

-- the rows of the edit are there, it fits the table, the tokens that it names are such as their places allow, and there is room
pub record Passed (n : Nodes) (e : Edit) : Type 0 where
  pub rows : list_all (is_live_row n) (edit_rows e) ≡ true
  pub fits : bad_column e ≡ None
  pub names : find (is_bad_name n) (edit_names e) ≡ None
  pub room : room_refusal n e ≡ None

pub or_none : {A : Type 0} (x y : Option A) → option_or x y ≡ None → (x ≡ None) × (y ≡ None)
or_none None y e = (refl, e)
or_none (Some a) y e = absurd cc

abbrev pub AllNone : {A : Type 0} → List (Option A) → Type 0
AllNone [] = Unit {0}
AllNone (x ∷ xs) = (x ≡ None) × AllNone xs

all_none : {A : Type 0} (xs : List (Option A)) → first_some xs ≡ None → AllNone xs
all_none [] e = tt
all_none (x ∷ xs) e =
    let parts = or_none x (first_some xs) e in
    (parts.0, all_none xs parts.1)

pub map_none : {A B : Type 0} (f : A → B) (o : Option A) → option_map f o ≡ None → o ≡ None
map_none f None e = refl
map_none f (Some a) e = absurd cc

-- nothing is found: each item fails the test
pub found_none : {A : Type 0} (test : A → Bool) (xs : List A) → find test xs ≡ None → list_all (λ x. not (test x)) xs ≡ true
found_none test [] e = refl
found_none test (x ∷ xs) e = by_test (test x) e (found_none test xs)
  where
    by_test : (y : Bool) → cond y (Some x) (find test xs) ≡ None → (find test xs ≡ None → list_all (λ x. not (test x)) xs ≡ true)
        → (not y && list_all (λ x. not (test x)) xs) ≡ true
    by_test true e rest = absurd cc
    by_test false e rest = rest e

live_of : (n : Nodes) (t : Token) → is_absent_row n t ≡ false → is_removed_row n t ≡ false → is_live_row n t ≡ true
live_of n t there kept = by_status (row_status n t) there kept
  where
    by_status : (s : RowStatus) → is_absent_status s ≡ false → is_removed_status s ≡ false → is_live_status s ≡ true
    by_status statuses.Absent there kept = absurd cc
    by_status statuses.Removed there kept = absurd cc
    by_status statuses.Live there kept = refl

rows_live : (n : Nodes) (ts : List Token) → find (is_absent_row n) ts ≡ None → find (is_removed_row n) ts ≡ None → list_all (is_live_row n) ts ≡ true
rows_live n [] there kept = refl
rows_live n (t ∷ ts) there kept = by_tests (is_absent_row n t) (is_removed_row n t) refl refl there kept (rows_live n ts)
  where
    by_tests : (x y : Bool) → is_absent_row n t ≡ x → is_removed_row n t ≡ y → cond x (Some t) (find (is_absent_row n) ts) ≡ None
        → cond y (Some t) (find (is_removed_row n) ts) ≡ None
        → (find (is_absent_row n) ts ≡ None → find (is_removed_row n) ts ≡ None → list_all (is_live_row n) ts ≡ true)
        → (is_live_row n t && list_all (is_live_row n) ts) ≡ true
    by_tests true y i j there kept rest = absurd cc
    by_tests false true i j there kept rest = absurd cc
    by_tests false false i j there kept rest = rw (live_of n t i j, rest there kept) refl

pub passed : (n : Nodes) (e : Edit) → early_refusal n e ≡ None → Passed n e
unfolding early_refusal
passed n e is =
    let all = all_none (early_conditions n e) is in
    record {
      rows = rows_live n (edit_rows e) (map_none Absent (find (is_absent_row n) (edit_rows e)) all.0) (map_none Removed (find (is_removed_row n) (edit_rows e)) all.1.0);
      fits = map_none BadColumn (bad_column e) all.1.1.0;
      names = map_none (λ (x : NamedToken). BadRef x.token) (find (is_bad_name n) (edit_names e)) all.1.1.1.1.1.0;
      room = all.1.1.1.1.1.1.0;
    }

pub told_none : (x : Bool) (n : ℕ) → told_unless x n ≡ None → x ≡ true
told_none true n e = refl
told_none false n e = absurd cc

-- a new row stands in lists, and its signature is one of its table
pub record Fits (listed : Bool) (table : ℕ) (signature : OptSig) : Type 0 where
  pub stands : listed ≡ true
  pub sig : sig_fits_table table signature ≡ true

pub row_fits : (stands : Bool) (table : ℕ) (cells : List Cell) (sig : OptSig) → bad_row stands table cells sig ≡ None → Fits stands table sig
unfolding bad_row
row_fits stands table cells sig e =
    let a = or_none (first_misfit table cells) (option_or (lesser (length cells) (length (cell_columns table))) (option_or (told_unless stands 0) (told_unless (sig_fits_table table sig) (length cells)))) e in
    let b = or_none (lesser (length cells) (length (cell_columns table))) (option_or (told_unless stands 0) (told_unless (sig_fits_table table sig) (length cells))) a.1 in
    let c = or_none (told_unless stands 0) (told_unless (sig_fits_table table sig) (length cells)) b.1 in
    record {
      stands = told_none stands 0 c.0;
      sig = told_none (sig_fits_table table sig) (length cells) c.1;
    }

-- a table that has room has fewer rows than a token can name
pub has_room : (n : Nodes) (table : ℕ) → full_table n table ≡ None → n.rows table < 16777215
has_room n table e = by_full (nat_le (most_rows table) (n.rows table)) refl e
  where
    most : (x : Bool) (r : ℕ) → nat_le (if x then 1 else 2 ^ 24 - 1) r ≡ false → r < 16777215
    most true r e = grind (arith, tests)
    most false r e = grind (arith, tests)

    by_full : (x : Bool) → nat_le (most_rows table) (n.rows table) ≡ x → (if x then Some (TableFull (most_rows table)) else None) ≡ None → n.rows table < 16777215
    by_full true is e = absurd cc
    by_full false is e = most ((table == module_) || (table == assembly)) (n.rows table) is
