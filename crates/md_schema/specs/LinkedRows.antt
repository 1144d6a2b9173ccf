-- The rows that are linked to a row: ECMA-335 II.22, the clause of each link's table.
use Rattle.std.specs.Prelude.{ℕ, Bool, false, List, map}
use Rattle.std.specs.List.{filter, range_with_len}
use Rattle.std.specs.Option.{option_map_or}
use Rattle.cil_base.specs.Token.{Token}
use Rattle.md_schema.specs.Cell.{cell_of}
use Rattle.md_schema.specs.Link.{link_column_of, link_kind_of, link_table_of}
use Rattle.md_schema.specs.Reference.{is_named}
use Rattle.md_schema.specs.Runs.{table_row_count}
use Rattle.md_schema.specs.declared.link.Link.{Link}

-- all rows of a table, in order
unfoldable pub rows_to : ℕ → ℕ → List Token
rows_to table count = map (λ rid. record { table = table; rid = rid }) (range_with_len 1 count)

-- whether the link's column of this row decodes to exactly the token
unfoldable pub is_linked : List ℕ → Token → Link → Token → Bool
is_linked stream token link row =
    option_map_or (λ kind. is_named kind (cell_of stream row.table row.rid (link_column_of link)) token)
    (link_kind_of link) false

-- those of the rows of the link's table that are linked to the token
unfoldable pub linked_of : List ℕ → Token → Link → List Token
linked_of stream token link =
    filter (is_linked stream token link) (rows_to (link_table_of link) (table_row_count stream (link_table_of link)))
