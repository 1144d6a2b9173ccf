-- The linked rows that are read of rows that were written: ECMA-335 II.22, the clause of each link's table.
use Rattle.std.specs.Prelude.{ℕ, ◌≡◌, Bool, false, List}
use Rattle.std.specs.List.{filter}
use Rattle.std.specs.Option.{option_map_or}
use Rattle.cil_base.specs.Token.{Token}
use Rattle.md_schema.specs.Link.{link_column_of, link_kind_of, link_table_of}
use Rattle.md_schema.specs.LinkedRows.{linked_of, rows_to}
use Rattle.md_schema.specs.Reference.{is_named}
use Rattle.md_schema.specs.declared.link.Link.{Link}
use Rattle.md_write.specs.TableRows.{written_number, row_count}
use Rattle.md_write.specs.TablesRead.{HoldsRows}

-- whether the number in the link's column of this row names the token
abbrev pub names_parent : List (List (List ℕ)) → Token → Link → Token → Bool
names_parent tables parent link row =
    option_map_or (λ kind. is_named kind (written_number tables row.table row.rid (link_column_of link)) parent)
    (link_kind_of link) false

-- the rows that are linked to a token are those whose numbers name it, in order
abbrev pub LinksRead : Type 0
LinksRead =
    (heap_sizes : ℕ) (tables : List (List (List ℕ))) (stream : List ℕ) (parent : Token) (link : Link)
    → HoldsRows heap_sizes tables stream
    → linked_of stream parent link
    ≡ filter (names_parent tables parent link) (rows_to (link_table_of link) (row_count tables (link_table_of link)))
