-- The place of a column among the cell columns of its table.
use Rattle.std.proofs.Common.{◌≡◌, ◌∙◌, ℕ, ◌+◌, refl, sym, ap, List, [], ◌∷◌, Bool, true, false, cond, Some, None}
use Rattle.std.specs.Prelude.{codes, ◌==◌}
use Rattle.std.specs.List.{enumerate_from, filter, position, position_from}
use Rattle.std.specs.Option.{unwrap_or}
use Rattle.std.proofs.lemmas.Iterator.Adapters.{position_from-zero}
use Rattle.md_schema.specs.Column.{ColumnOf, is_cell_kind}
use Rattle.md_schema.specs.Entry.{columns_of}
use Rattle.md_schema.specs.Schema.{tables}
use Rattle.md_schema.specs.Tables.{manifest_resource}
use Rattle.node_model.specs.Fresh.{fresh_resource, resource_begins}
use Rattle.node_model.specs.RowCells.{cell_in, cell_place}
use Rattle.node_model.specs.Streams.{column_named}
use Rattle.node_model.specs.declared.cell.Cell.{Cell}
use Rattle.node_model.specs.declared.value.RowValue.{RowValue}
use Rattle.graph_edits.specs.inner.Columns.{place_from}

implementation_column : column_named manifest_resource (codes "Implementation") ≡ 3
unfolding tables
implementation_column = refl

-- what a new ManifestResource row names, by the cell of its column Implementation
pub fresh_is : (row : RowValue) (table : ℕ) (cells : List Cell) → table ≡ row.token.table → cells ≡ row.cells → row.token.table ≡ manifest_resource
    → resource_begins (cell_in table 3 cells) ≡ fresh_resource row
fresh_is row table cells here same is =
    ap (λ (t : ℕ). resource_begins (cell_in t 3 cells)) here
    ∙ ap (λ cs. resource_begins (cell_in row.token.table 3 cs)) same
    ∙ ap (λ n. resource_begins (cell_in row.token.table n row.cells)) (sym (ap (λ (t : ℕ). column_named t (codes "Implementation")) is ∙ implementation_column))

-- the cell columns among these, with their numbers
abbrev cell_pairs : ℕ → List ColumnOf → List (ℕ × ColumnOf)
cell_pairs n cols = filter (λ c. is_cell_kind c.1.kind) (enumerate_from n cols)

abbrev is_numbered : ℕ → ℕ × ColumnOf → Bool
is_numbered column c = c.0 == column

counted : (n k : ℕ) (cols : List ColumnOf) (column : ℕ)
    → place_from n k cols column ≡ position_from (is_numbered column) k (cell_pairs n cols)
unfolding place_from
counted n k [] column = refl
counted n k (c ∷ cs) column = by (is_cell_kind c.kind) (counted (n + 1) (k + 1) cs column) (counted (n + 1) k cs column)
  where
    by : (x : Bool) → place_from (n + 1) (k + 1) cs column ≡ position_from (is_numbered column) (k + 1) (cell_pairs (n + 1) cs)
        → place_from (n + 1) k cs column ≡ position_from (is_numbered column) k (cell_pairs (n + 1) cs)
        → cond x (cond (n == column) (Some k) (place_from (n + 1) (k + 1) cs column)) (place_from (n + 1) k cs column)
        ≡ position_from (is_numbered column) k (cond x ((n, c) ∷ cell_pairs (n + 1) cs) (cell_pairs (n + 1) cs))
    by true cell other = ap (cond (n == column) (Some k)) cell
    by false cell other = other

pub place_is : (cols : List ColumnOf) (column : ℕ) → place_from 0 0 cols column ≡ position (is_numbered column) (cell_pairs 0 cols)
place_is cols column = counted 0 0 cols column ∙ sym (position_from-zero (is_numbered column) (cell_pairs 0 cols))

pub cell_place_is : (table : ℕ) (cols : List ColumnOf) (column : ℕ) → columns_of table ≡ Some cols → place_from 0 0 cols column ≡ cell_place table column
cell_place_is table cols column known =
    place_is cols column ∙ ap (λ o. position (is_numbered column) (cell_pairs 0 (unwrap_or o []))) (sym known)

pub no_cell_place : (table column : ℕ) → columns_of table ≡ None → None ≡ cell_place table column
no_cell_place table column none = ap (λ o. position (is_numbered column) (cell_pairs 0 (unwrap_or o []))) (sym none)
