-- Which edits fit the tables, and which number is told of those that do not: ECMA-335 II.22.
use Rattle.std.specs.Prelude.{ℕ, Bool, true, false, not, List, length, min, Option, Some, None, ◌==◌, ◌&&◌}
use Rattle.std.specs.List.{list_any, position}
use Rattle.std.specs.Option.{option_or}
use Rattle.md_schema.specs.declared.column.ColumnKind.{ColumnKind}
use Rattle.md_schema.specs.declared.column.ColumnKind.TheVariants.{U8Pad, U16, U32, Text, Guid, Blob, Index, Coded}
use Rattle.node_model.specs.KeyKinds.{has_kind, has_sig}
use Rattle.node_model.specs.PlacedCells.{PlacedCell, edit_cells, row_placed}
use Rattle.node_model.specs.RowCells.{is_link_column}
use Rattle.node_model.specs.RowFaults.{cell_columns}
use Rattle.node_model.specs.RowLists.{added_table, has_list}
use Rattle.node_model.specs.Signatures.{sort_fits}
use Rattle.node_model.specs.declared.cell.Cell.{Cell}
use Rattle.node_model.specs.declared.cell.Cell.TheVariants as cells
use Rattle.node_model.specs.declared.edit.Edit.{Edit}
use Rattle.node_model.specs.declared.edit.Edit.TheVariants as edits
use Rattle.node_model.specs.declared.edit.OptSig.{OptSig}
use Rattle.node_model.specs.declared.edit.OptSig.TheVariants as sigs
use Rattle.node_model.specs.declared.key.Key.TheVariants as keys

-- a cell is of the kind that a column holds
abbrev pub cell_fits : ColumnKind → Cell → Bool
cell_fits U8Pad (cells.Num n) = true
cell_fits U16 (cells.Num n) = true
cell_fits U32 (cells.Num n) = true
cell_fits Text (cells.Text t) = true
cell_fits Guid (cells.Guid bytes) = true
cell_fits Guid cells.NoGuid = true
cell_fits Blob (cells.Blob bytes) = true
cell_fits (Index table) (cells.Ref t) = true
cell_fits (Index table) cells.NoRef = true
cell_fits (Coded kind) (cells.Ref t) = true
cell_fits (Coded kind) cells.NoRef = true
cell_fits _ _ = false

-- the signature of a new row: of a sort that its table has, and none where it has none
abbrev pub sig_fits_table : ℕ → OptSig → Bool
sig_fits_table table sigs.None = not (has_sig table)
sig_fits_table table (sigs.Is sig) = sort_fits table sig

abbrev pub told_unless : Bool → ℕ → Option ℕ
told_unless true n = None
told_unless false n = Some n

-- a cell may be set: it fits a cell column that is no link
abbrev pub may_set : PlacedCell → Bool
may_set c = cell_fits c.kind c.cell && not (is_link_column c.table c.column)

-- the first cell that does not fit its column
abbrev pub first_misfit : ℕ → List Cell → Option ℕ
first_misfit table cells = position (λ c. not (cell_fits c.kind c.cell)) (row_placed table cells)

-- the lesser of two numbers that differ
abbrev pub lesser : ℕ → ℕ → Option ℕ
lesser n m = told_unless (n == m) (min n m)

-- a new row: its first cell that does not fit, the lesser number of its cells and of the cell columns, 0 where the
-- table's rows do not stand in such a list, and the number of its cells where the signature alone does not fit
unfoldable pub bad_row : Bool → ℕ → List Cell → OptSig → Option ℕ
bad_row stands table cells sig =
    option_or (first_misfit table cells)
    (option_or (lesser (length cells) (length (cell_columns table)))
    (option_or (told_unless stands 0) (told_unless (sig_fits_table table sig) (length cells))))

-- what is told of an edit that does not fit the table
abbrev pub bad_column : Edit → Option ℕ
bad_column (edits.Set t column cell) =
    told_unless (list_any may_set (edit_cells (edits.Set t column cell))) column
bad_column (edits.SetSig t sig) = told_unless (sort_fits t.table sig) 0
bad_column (edits.SetBody t body) = told_unless (has_kind (keys.Body t)) 0
bad_column (edits.SetData t bytes) = told_unless (has_kind (keys.Data t)) 0
bad_column (edits.SetResource t value) = told_unless (has_kind (keys.Resource t)) 0
bad_column (edits.SetEntry t) = None
bad_column (edits.Add table cells sig) = bad_row (added_table table) table cells sig
bad_column (edits.Insert owner table at cells sig) = bad_row (has_kind (keys.Owned owner table)) table cells sig
bad_column (edits.Remove owner t) = told_unless (has_list owner t.table) 0
bad_column (edits.IlInsert t at instr) = told_unless (has_kind (keys.Body t)) 0
bad_column (edits.IlRemove t at) = told_unless (has_kind (keys.Body t)) 0
bad_column (edits.IlReplace t at instr) = told_unless (has_kind (keys.Body t)) 0
bad_column (edits.IlHead t max_stack init_locals locals) = told_unless (has_kind (keys.Body t)) 0
bad_column (edits.AddHandler t handler) = told_unless (has_kind (keys.Body t)) 0
bad_column (edits.RemoveHandler t at) = told_unless (has_kind (keys.Body t)) 0
