-- The index of the links: for each link the rows of its table, with the numbers of the link column beside them.
-- ECMA-335 II.22, the clause of each link's table.
use Rattle.std.specs.Prelude.{ℕ, ◌≡◌, ◌==◌, List, [], ◌∷◌, map, slice_get}
use Rattle.std.specs.List.{filter, range_with_len}
use Rattle.std.specs.Option.{option_map_or, unwrap_or}
use Rattle.cil_base.specs.Token.{Token}
use Rattle.md_schema.specs.Cell.{cell_of}
use Rattle.md_schema.specs.Link.{link_column_of, link_kind_of, link_table_of}
use Rattle.md_schema.specs.LinkedRows.{linked_of}
use Rattle.md_schema.specs.Reference.{is_named}
use Rattle.md_schema.specs.Runs.{table_row_count}
use Rattle.md_schema.specs.declared.link.Link.{Link}
use Rattle.md_schema.specs.declared.link.Link.TheVariants.{InterfaceImpl, Constant, CustomAttribute, FieldMarshal}
use Rattle.md_schema.specs.declared.link.Link.TheVariants.{DeclSecurity, ClassLayout, FieldLayout, EventMap}
use Rattle.md_schema.specs.declared.link.Link.TheVariants.{PropertyMap, MethodSemantics, MethodImpl, ImplMap, FieldRVA}
use Rattle.md_schema.specs.declared.link.Link.TheVariants.{NestedClass, Nested, GenericParam, GenericParamConstraint}
use Rattle.md_tables.specs.declared.link_row.LinkRow.{LinkRow}

-- the row numbers of the rows of this number, in the order of the list
abbrev pub rids_at : List LinkRow → ℕ → List ℕ
rids_at rows number = map (λ row. row.rid) (filter (λ row. row.number == number) rows)

-- numbers with row numbers beside them
abbrev pub rows_beside : List ℕ → List ℕ → List LinkRow
rows_beside [] rids = []
rows_beside (number ∷ numbers) [] = []
rows_beside (number ∷ numbers) (rid ∷ rids) = record { number = number; rid = rid } ∷ rows_beside numbers rids

-- the rows of the link's table, in row order
unfoldable pub link_rows : List ℕ → Link → List LinkRow
link_rows stream link =
    map (λ rid. record { number = cell_of stream (link_table_of link) rid (link_column_of link); rid = rid })
    (range_with_len 1 (table_row_count stream (link_table_of link)))

-- a list that has the same rows of each number, in the same order
abbrev pub ListsLink : List ℕ → Link → List LinkRow → Type 0
ListsLink stream link list = (number : ℕ) → rids_at list number ≡ rids_at (link_rows stream link) number

-- the place of a link among all
abbrev pub link_place_of : Link → ℕ
link_place_of InterfaceImpl = 0
link_place_of Constant = 1
link_place_of CustomAttribute = 2
link_place_of FieldMarshal = 3
link_place_of DeclSecurity = 4
link_place_of ClassLayout = 5
link_place_of FieldLayout = 6
link_place_of EventMap = 7
link_place_of PropertyMap = 8
link_place_of MethodSemantics = 9
link_place_of MethodImpl = 10
link_place_of ImplMap = 11
link_place_of FieldRVA = 12
link_place_of NestedClass = 13
link_place_of Nested = 14
link_place_of GenericParam = 15
link_place_of GenericParamConstraint = 16

abbrev pub list_in : List (List LinkRow) → Link → List LinkRow
list_in index link = unwrap_or (slice_get index (link_place_of link)) []

-- the row numbers that the index has for a token: of the rows whose number decodes to it
unfoldable pub rids_in : List (List LinkRow) → Token → Link → List ℕ
rids_in index token link =
    option_map_or
    (λ kind. map (λ row. row.rid) (filter (λ row. is_named kind row.number token) (list_in index link)))
    (link_kind_of link) []

-- an index has for each token and link exactly the rows that are linked to the token, in row order
abbrev pub IndexesLinks : List ℕ → List (List LinkRow) → Type 0
IndexesLinks stream index =
    (token : Token) (link : Link) → rids_in index token link ≡ map (λ row. row.rid) (linked_of stream token link)
