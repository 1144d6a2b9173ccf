-- How a row is printed: its table, its token, and each cell with the name of its column (ECMA-335 II.22).
use Rattle.std.specs.Prelude.{ℕ, List, ◌∷◌, ◌++◌, codes, map, slice_get}
use Rattle.std.specs.List.{enumerate_from, filter, flat_map}
use Rattle.std.specs.Fmt.{decimal}
use Rattle.asm_names.specs.Assembly.{hex_text}
use Rattle.asm_names.specs.Guid.{guid_text}
use Rattle.md_schema.specs.Column.{ColumnOf, is_cell_kind}
use Rattle.md_schema.specs.Entry.{table_name_of}
use Rattle.node_model.specs.KeyKinds.{table_columns}
use Rattle.node_model.specs.declared.cell.Cell.{Cell}
use Rattle.node_model.specs.declared.cell.Cell.TheVariants as cells
use Rattle.node_model.specs.declared.value.RowValue.{RowValue}
use Rattle.sig_tree.specs.Printed.{own_text}
use Rattle.dump_text.specs.Pieces.{name_or_mark, quoted}

abbrev pub cell_text : Cell → List ℕ
cell_text (cells.Num n) = decimal n
cell_text (cells.Text text) = quoted text
cell_text (cells.Guid bytes) = guid_text bytes
cell_text cells.NoGuid = codes "none"
cell_text (cells.Blob bytes) = 0x23 ∷ hex_text bytes
cell_text (cells.Ref t) = own_text t
cell_text cells.NoRef = codes "none"

unfoldable pub table_text : ℕ → List ℕ
table_text t = name_or_mark (table_name_of t)

-- the names of the columns that are cells
abbrev pub names_of_cells : List ColumnOf → List (List ℕ)
names_of_cells columns = map (λ c. c.name) (filter (λ c. is_cell_kind c.kind) columns)

-- the name of a cell of a table's rows, by its number from 0
unfoldable pub cell_name : ℕ → ℕ → List ℕ
cell_name t n = name_or_mark (slice_get (names_of_cells (table_columns t)) n)

-- a cell with its name; it comes with its number
abbrev pub named_cell : ℕ → ℕ × Cell → List ℕ
named_cell t c = 0x20 ∷ cell_name t c.0 ++ 0x3d ∷ cell_text c.1

abbrev pub cells_text : ℕ → List Cell → List ℕ
cells_text t all = flat_map (named_cell t) (enumerate_from 0 all)

abbrev pub row_text : RowValue → List ℕ
row_text row = table_text row.token.table ++ 0x20 ∷ own_text row.token ++ cells_text row.token.table row.cells
