-- The cells of a row by the names of their columns, and what is made of them: ECMA-335 II.22.
use Rattle.std.specs.Prelude.{ℕ, ◌%◌, List, [], ◌∷◌, ◌++◌, codes, find, Option, Some, None, ◌==◌, if◌then◌else◌}
use Rattle.std.specs.List.{filter, zip}
use Rattle.std.specs.Option.{option_map}
use Rattle.std.specs.Str.{bytes_eq}
use Rattle.asm_names.specs.Assembly.{assembly_text}
use Rattle.asm_names.specs.KeyToken.{key_token}
use Rattle.cil_base.specs.Token.{Token}
use Rattle.md_schema.specs.Column.{ColumnOf, is_cell_kind}
use Rattle.md_schema.specs.Tables.{assembly}
use Rattle.node_model.specs.KeyKinds.{table_columns}
use Rattle.node_model.specs.declared.cell.Cell.{Cell}
use Rattle.node_model.specs.declared.cell.Cell.TheVariants as cells
use Rattle.node_model.specs.declared.value.RowValue.{RowValue}

-- the first of these cells whose column has the name; the cells are those of the columns that are cells, in order
unfoldable pub cell_among : List ColumnOf → List Cell → List ℕ → Option Cell
cell_among columns row_cells name =
    option_map (λ c. c.1) (find (λ c. bytes_eq c.0.name name) (zip (filter (λ c. is_cell_kind c.kind) columns) row_cells))

-- the cell of a row in the column of its table that has this name
abbrev pub cell_named : List ℕ → RowValue → Option Cell
cell_named name row = cell_among (table_columns row.token.table) row.cells name

abbrev pub text_of_cell : Option Cell → List ℕ
text_of_cell (Some (cells.Text text)) = text
text_of_cell _ = []

abbrev pub number_of_cell : Option Cell → ℕ
number_of_cell (Some (cells.Num n)) = n
number_of_cell _ = 0

abbrev pub blob_of_cell : Option Cell → List ℕ
blob_of_cell (Some (cells.Blob bytes)) = bytes
blob_of_cell _ = []

abbrev pub token_of_cell : Option Cell → Option Token
token_of_cell (Some (cells.Ref t)) = Some t
token_of_cell _ = None

abbrev pub text_named : List ℕ → RowValue → List ℕ
text_named name row = text_of_cell (cell_named name row)

abbrev pub number_named : List ℕ → RowValue → ℕ
number_named name row = number_of_cell (cell_named name row)

abbrev pub blob_named : List ℕ → RowValue → List ℕ
blob_named name row = blob_of_cell (cell_named name row)

-- the row that a cell names; null names none
abbrev pub token_named : List ℕ → RowValue → Option Token
token_named name row = token_of_cell (cell_named name row)

-- the namespace, if there is one, a point, and the name (II.22.37, II.22.38)
abbrev pub qualified_name : List ℕ → List ℕ → List ℕ
qualified_name [] name = name
qualified_name (c ∷ cs) name = (c ∷ cs) ++ codes "." ++ name

-- the name of a type that is in no other
unfoldable pub own_type_name : RowValue → List ℕ
own_type_name row = qualified_name (text_named (codes "Namespace") row) (text_named (codes "Name") row)

-- the name of a type within another, by the other's name
unfoldable pub inner_type_name : List ℕ → RowValue → List ℕ
inner_type_name outer row = outer ++ codes "/" ++ text_named (codes "Name") row

-- the token of an assembly's public key; of an empty key there is none (II.22.2)
abbrev pub own_key_token : List ℕ → List ℕ
own_key_token [] = []
own_key_token (b ∷ bs) = key_token (b ∷ bs)

-- the token that a reference to an assembly has: that of the key, where its flags say that it has the whole key
-- (II.22.5, II.23.1.2)
abbrev pub reference_key_token : ℕ → List ℕ → List ℕ
reference_key_token flags bytes = if flags % 2 == 1 then key_token bytes else bytes

unfoldable pub assembly_key_token : RowValue → List ℕ
assembly_key_token row =
    if row.token.table == assembly
    then own_key_token (blob_named (codes "PublicKey") row)
    else reference_key_token (number_named (codes "Flags") row) (blob_named (codes "PublicKeyOrToken") row)

-- a number of two bytes
abbrev pub word_named : List ℕ → RowValue → ℕ
word_named name row = number_named name row % 65536

-- the four numbers of an assembly's version
unfoldable pub assembly_version : RowValue → List ℕ
assembly_version row =
    word_named (codes "Major") row ∷ word_named (codes "Minor") row ∷ word_named (codes "Build") row
    ∷ word_named (codes "Revision") row ∷ []

-- the full name of an assembly, or of a reference to one (II.6.2.1.3)
unfoldable pub full_assembly_name : RowValue → List ℕ
full_assembly_name row =
    assembly_text (text_named (codes "Name") row) (assembly_version row) (text_named (codes "Culture") row)
    (assembly_key_token row)
