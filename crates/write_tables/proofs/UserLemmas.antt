-- The entries of #US: those of the user strings alone.
use Rattle.std.proofs.Common.{◌≡◌, ◌∙◌, sym, ap, refl, ℕ, List, [], ◌∷◌, Option, Some, None}
use Rattle.std.specs.List.{flat_map}
use Rattle.std.specs.Option.{option_map_or}
use Rattle.std.proofs.lemmas.List.Sums.{fold-append}
use Rattle.cil_base.specs.Token.{Token}
use Rattle.md_heaps.specs.LaidHeaps.{HeapEntries, first_entries, user_entry}
use Rattle.md_heaps.specs.Pools.{with_entry}
use Rattle.md_schema.specs.declared.column.ColumnKind.{ColumnKind}
use Rattle.md_schema.specs.declared.column.ColumnKind.TheVariants.{U8Pad, U16, U32, Text, Guid, Blob, Sig, Index}
use Rattle.md_schema.specs.declared.column.ColumnKind.TheVariants.{Coded, Start, Rva, Offset}
use Rattle.node_model.specs.declared.cell.Cell.{Cell}
use Rattle.write_plan.specs.Planned.{Planned}
use Rattle.write_plan.specs.Written.{rows_in}
use Rattle.write_tables.specs.Contents.{HeapContent, AsText, AsGuid, AsBlob, AsUser, column_contents, contents_by, guid_of_cell}
use Rattle.write_tables.specs.Contents.{row_contents, rows_contents, table_contents, table_range, user_contents, with_content, with_contents}
use Rattle.write_tables.specs.Contents.{written_entries}
use Rattle.write_tables.specs.RowColumns.{RowColumn, columns_held, sig_blob}

-- what is put in has its entries by those that were there
content_users : (h k : HeapEntries) (content : HeapContent) → h.users ≡ k.users → (with_content h content).users ≡ (with_content k content).users
content_users h k (AsText content) same = same
content_users h k (AsGuid content) same = same
content_users h k (AsBlob content) same = same
content_users h k (AsUser content) same = ap (λ es. with_entry es (user_entry content)) same

contents_users : (contents : List HeapContent) (h k : HeapEntries) → h.users ≡ k.users
    → (with_contents h contents).users ≡ (with_contents k contents).users
contents_users [] h k same = same
contents_users (content ∷ more) h k same =
    contents_users more (with_content h content) (with_content k content) (content_users h k content same)

-- contents that leave #US as it is
abbrev LeavesUsers : List HeapContent → Type 0
LeavesUsers contents = (h : HeapEntries) → (with_contents h contents).users ≡ h.users

option_leaves : (guid : Option (List ℕ)) → LeavesUsers (option_map_or (λ bytes. AsGuid bytes ∷ []) guid [])
option_leaves None h = refl
option_leaves (Some bytes) h = refl

column_leaves : (kind : ColumnKind) (cell : Option Cell) (sig : List ℕ) → LeavesUsers (contents_by kind cell sig)
column_leaves U8Pad cell sig h = refl
column_leaves U16 cell sig h = refl
column_leaves U32 cell sig h = refl
column_leaves Text cell sig h = refl
column_leaves Guid cell sig h = option_leaves (guid_of_cell cell) h
column_leaves Blob cell sig h = refl
column_leaves Sig cell sig h = refl
column_leaves (Index table) cell sig h = refl
column_leaves (Coded kind) cell sig h = refl
column_leaves (Start table) cell sig h = refl
column_leaves Rva cell sig h = refl
column_leaves Offset cell sig h = refl

all_leave : (X : Type 0) (f : X → List HeapContent) → ((x : X) → LeavesUsers (f x)) → (xs : List X) → LeavesUsers (flat_map f xs)
all_leave X f each [] h = refl
all_leave X f each (x ∷ xs) h =
    ap (λ (k : HeapEntries). k.users) (fold-append with_content h (f x) (flat_map f xs))
    ∙ all_leave X f each xs (with_contents h (f x)) ∙ each x h

rows_leave : (plan : Planned) → LeavesUsers (rows_contents plan)
unfolding rows_contents
rows_leave plan =
    all_leave ℕ (table_contents plan)
    (λ table. all_leave Token (row_contents plan table)
    (λ t. all_leave RowColumn (column_contents plan) (λ c. column_leaves c.kind c.cell (sig_blob plan c.row)) (columns_held plan table t))
    (rows_in plan.lists table))
    table_range

-- user strings alone have the entries of the whole
pub users_alone : (plan : Planned) → (with_contents first_entries (user_contents plan)).users ≡ (written_entries plan).users
unfolding written_entries
users_alone plan =
    sym (ap (λ (k : HeapEntries). k.users) (fold-append with_content first_entries (rows_contents plan) (user_contents plan))
    ∙ contents_users (user_contents plan) (with_contents first_entries (rows_contents plan)) first_entries (rows_leave plan first_entries))
