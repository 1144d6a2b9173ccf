-- What the cells of a row hold, by the columns of its table: ECMA-335 II.22, II.24.2.3 to II.24.2.6.
use Rattle.std.specs.Prelude.{ℕ, ◌≡◌, ◌≤◌, true, List, [], ◌∷◌, length, Some}
use Rattle.cil_base.specs.Token.{Token}
use Rattle.md_heaps.specs.LaidHeaps.{IsText}
use Rattle.md_schema.specs.Column.{ColumnOf}
use Rattle.md_schema.specs.Reference.{may_name_of}
use Rattle.md_schema.specs.declared.column.ColumnKind.{ColumnKind}
use Rattle.node_model.specs.ColumnFit.{cell_fits}
use Rattle.node_model.specs.EditRefusals.{greatest_number}
use Rattle.node_model.specs.Keys.{is_row}
use Rattle.node_model.specs.Nodes.{Nodes}
use Rattle.node_model.specs.RowFaults.{cell_columns}
use Rattle.node_model.specs.declared.cell.Cell.{Cell}
use Rattle.node_model.specs.declared.cell.Cell.TheVariants as cells
use Rattle.node_model.specs.declared.value.RowValue.{RowValue}

-- a row that is one of its table, which the column may name; it may have been removed
pub record NamesRow (n : Nodes) (kind : ColumnKind) (t : Token) : Type 0 where
  pub allowed : may_name_of kind t.table ≡ true
  pub there : is_row n.rows t ≡ true

-- a number is at most the greatest of its column, a text has no zero byte, a GUID has sixteen bytes
abbrev pub CellWithin : Nodes → ColumnKind → Cell → Type 0
CellWithin n kind (cells.Num number) = (limit : ℕ) → greatest_number kind ≡ Some limit → number ≤ limit
CellWithin n kind (cells.Text text) = IsText text
CellWithin n kind (cells.Guid bytes) = length bytes ≡ 16
CellWithin n kind (cells.Ref t) = NamesRow n kind t
CellWithin n kind _ = Unit {0}

-- a cell of the kind that the column holds, within the column's bounds
pub record HoldsCell (n : Nodes) (kind : ColumnKind) (cell : Cell) : Type 0 where
  pub fits : cell_fits kind cell ≡ true
  pub within : CellWithin n kind cell

-- such a cell for each of the columns
abbrev pub HoldsCells : Nodes → List (ℕ × ColumnOf) → List Cell → Type 0
HoldsCells n [] cells = cells ≡ []
HoldsCells n (c ∷ columns) [] = ⊥
HoldsCells n (c ∷ columns) (cell ∷ cells) = HoldsCell n c.1.kind cell × HoldsCells n columns cells

-- the row of the token, with a cell for each cell column of its table
pub record HoldsRow (n : Nodes) (t : Token) (row : RowValue) : Type 0 where
  pub token : row.token ≡ t
  pub cells : HoldsCells n (cell_columns t.table) row.cells
