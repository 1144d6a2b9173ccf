-- What the schema says of tables and of the columns that link rows: ECMA-335 II.22.
use Rattle.std.proofs.Common.{◌≡◌, refl, subst, ℕ, zero, suc, ◌<◌, Bool, true, false, List, [], ◌∷◌, Option, Some, None, cond, if◌then◌else◌, find, is_some, arith, tests, length, get_or}
use Rattle.std.specs.Prelude.{◌==◌, ◌&&◌, nat_lt}
use Rattle.std.specs.List.{list_all, position}
use Rattle.std.specs.Option.{option_map, option_and_then}
use Rattle.std.proofs.lemmas.Bool.{and_parts}
use Rattle.std.proofs.lemmas.List.Quantifiers.{position-Some}
use Rattle.cil_base.specs.Token.{Token}
use Rattle.md_schema.specs.Column.{ColumnOf}
use Rattle.md_schema.specs.Entry.{holder_of, is_start, table_entry_of}
use Rattle.md_schema.specs.Schema.{TableOf, tables}
use Rattle.md_schema.specs.declared.column.ColumnKind.{ColumnKind}
use Rattle.md_schema.specs.declared.column.ColumnKind.TheVariants.{U32, Start}
use Rattle.md_schema.specs.declared.holder.Holder.{Holder}
use Rattle.node_model.specs.KeyKinds.{has_kind, is_root_holder, is_root_table, is_root_token, owns_table}
use Rattle.node_model.specs.RowLists.{added_table, is_added_holder}
use Rattle.node_model.specs.declared.key.Key.TheVariants.{Owned}

-- what is found passes the test, and has what all have
pub found_passes : {A : Type 0} (test has : A → Bool) (xs : List A) (x : A) → list_all has xs ≡ true → find test xs ≡ Some x → (test x ≡ true) × (has x ≡ true)
found_passes test has [] x all e = absurd cc
found_passes test has (y ∷ xs) x all e =
    let parts = and_parts (has y) (list_all has xs) all in
    by_test (test y) refl e parts.0 (λ f. found_passes test has xs x parts.1 f)
  where
    by_test : (z : Bool) → test y ≡ z → cond z (Some y) (find test xs) ≡ Some x → has y ≡ true → (find test xs ≡ Some x → (test x ≡ true) × (has x ≡ true)) → (test x ≡ true) × (has x ≡ true)
    by_test true is e here rest =
        let same : y ≡ x = cc in
        (subst (λ a. test a ≡ true) same is, subst (λ a. has a ≡ true) same here)
    by_test false is e here rest = rest e

abbrev is_small : ℕ → Bool
is_small n = nat_lt n 64

-- runs are of tables with a small number
abbrev starts_small : ColumnKind → Bool
starts_small (Start other) = is_small other
starts_small _ = true

abbrev small_table : TableOf → Bool
small_table t = is_small t.number && list_all (λ (c : ColumnOf). starts_small c.kind) t.columns

all_small : list_all small_table tables ≡ true
unfolding tables
all_small = refl

entry_small : (number : ℕ) (t : TableOf) → table_entry_of number ≡ Some t → (number < 64) × (list_all (λ (c : ColumnOf). starts_small c.kind) t.columns ≡ true)
entry_small number t e =
    let found = found_passes (λ table. table.number == number) small_table tables t all_small e in
    let parts = and_parts (is_small t.number) (list_all (λ (c : ColumnOf). starts_small c.kind) t.columns) found.1 in
    (grind (arith, tests, found, parts), parts.1)

-- a table with a holder is one of the 64
pub held_small : (number : ℕ) → is_some (holder_of number) ≡ true → number < 64
held_small number e = by_entry (table_entry_of number) refl e
  where
    by_entry : (o : Option TableOf) → table_entry_of number ≡ o → is_some (option_map (λ table. table.holder) o) ≡ true → number < 64
    by_entry (Some t) is e = (entry_small number t is).0
    by_entry None is e = absurd cc

root_some : (o : Option Holder) → is_root_holder o ≡ true → is_some o ≡ true
root_some (Some h) e = refl
root_some None e = absurd cc

added_some : (o : Option Holder) → is_added_holder o ≡ true → is_some o ≡ true
added_some (Some h) e = refl
added_some None e = absurd cc

root_small : (number : ℕ) → is_root_table number ≡ true → number < 64
unfolding is_root_table
root_small number e = held_small number (root_some (holder_of number) e)

pub added_small : (number : ℕ) → added_table number ≡ true → number < 64
unfolding added_table
added_small number e = held_small number (added_some (holder_of number) e)

no_column : ColumnOf
no_column = record { name = []; kind = U32 }

any_at : {A : Type 0} (test : A → Bool) (xs : List A) (i : ℕ) (d : A) → i < length xs → test (get_or xs i d) ≡ true → (has : A → Bool) → list_all has xs ≡ true → (x : A) × (test x ≡ true) × (has x ≡ true)
any_at test [] i d within e has all = absurd (omega arith)
any_at test (x ∷ xs) zero d within e has all = (x, e, (and_parts (has x) (list_all has xs) all).0)
any_at test (x ∷ xs) (suc i) d within e has all = any_at test xs i d (omega arith) e has (and_parts (has x) (list_all has xs) all).1

start_small : (number : ℕ) (kind : ColumnKind) → is_start number kind ≡ true → starts_small kind ≡ true → number < 64
start_small number (Start other) is small = grind (arith, tests)
start_small number _ is small = absurd cc

owns_small : (owner number : ℕ) → owns_table owner number ≡ true → number < 64
unfolding owns_table
owns_small owner number e = by_entry (table_entry_of owner) refl e
  where
    by_place : (t : TableOf) → list_all (λ (c : ColumnOf). starts_small c.kind) t.columns ≡ true
        → (o : Option ℕ) → position (λ (c : ColumnOf). is_start number c.kind) t.columns ≡ o → is_some o ≡ true → number < 64
    by_place t all (Some i) is e =
        let at = position-Some (λ (c : ColumnOf). is_start number c.kind) t.columns i no_column is in
        let c = any_at (λ (c : ColumnOf). is_start number c.kind) t.columns i no_column at.0 at.1 (λ (c : ColumnOf). starts_small c.kind) all in
        start_small number c.0.kind c.1 c.2
    by_place t all None is e = absurd cc

    by_entry : (o : Option TableOf) → table_entry_of owner ≡ o
        → is_some (option_and_then (λ columns. position (λ column. is_start number column.kind) columns) (option_map (λ table. table.columns) o)) ≡ true → number < 64
    by_entry (Some t) is e = by_place t (entry_small owner t is).1 (position (λ (c : ColumnOf). is_start number c.kind) t.columns) refl e
    by_entry None is e = absurd cc

-- a table of whose rows a row, or the root, has a list
pub owned_small : (owner : Token) (number : ℕ) → has_kind (Owned owner number) ≡ true → number < 64
owned_small owner number e = by_root (is_root_token owner) e
  where
    by_root : (x : Bool) → (if x then is_root_table number else owns_table owner.table number) ≡ true → number < 64
    by_root true e = root_small number e
    by_root false e = owns_small owner.table number e
