-- The place of a column among the cell columns, as the code counts it. No public contract cites these words.
use Rattle.std.specs.Prelude.{ℕ, ◌+◌, List, [], ◌∷◌, Option, Some, None, ◌==◌, if◌then◌else◌}
use Rattle.md_schema.specs.Column.{ColumnOf, is_cell_kind}

-- where the first of these columns has that number, and so many cell columns stand before it
unfoldable pub place_from : ℕ → ℕ → List ColumnOf → ℕ → Option ℕ
place_from number place [] column = None
place_from number place (c ∷ cs) column =
    if is_cell_kind c.kind
    then (if number == column then Some place else place_from (number + 1) (place + 1) cs column)
    else place_from (number + 1) place cs column
