-- Which replies fit a question: those that are about what was asked, and of a form that the schema allows. A reply that
-- tells of a fault, or that something is absent, was removed or is of the wrong kind, fits none. ECMA-335 II.22,
-- II.23.2.
use Rattle.std.specs.Prelude.{ℕ, Bool, true, false, List, ◌==◌, ◌&&◌, nat_le}
use Rattle.std.specs.Cmp.Lexicographic.{pointwise}
use Rattle.std.specs.List.{filter, list_all}
use Rattle.std.specs.Option.{option_map_or}
use Rattle.cil_base.specs.Token.{Token}
use Rattle.md_schema.specs.Column.{ColumnOf, is_cell_kind}
use Rattle.md_schema.specs.Link.{link_table_of}
use Rattle.md_schema.specs.Reference.{may_name_of}
use Rattle.md_schema.specs.Tables.{type_def}
use Rattle.md_schema.specs.declared.column.ColumnKind.{ColumnKind}
use Rattle.node_model.specs.ColumnFit.{cell_fits}
use Rattle.node_model.specs.EditRefusals.{greatest_number}
use Rattle.node_model.specs.KeyKinds.{table_columns}
use Rattle.node_model.specs.Keys.{same_key, same_token}
use Rattle.node_model.specs.Signatures.{sort_fits}
use Rattle.node_model.specs.declared.cell.Cell.{Cell}
use Rattle.node_model.specs.declared.cell.Cell.TheVariants.{Num, Ref}
use Rattle.node_model.specs.declared.key.Key.{Key}
use Rattle.node_model.specs.declared.key.Key.TheVariants as keys
use Rattle.node_model.specs.declared.query.Query.{Query}
use Rattle.node_model.specs.declared.query.Query.TheVariants as queries
use Rattle.node_model.specs.declared.reply.Reply.{Reply}
use Rattle.node_model.specs.declared.reply.Reply.TheVariants as replies

-- a column allows numbers up to its greatest, rows of the tables that it may name, and else cells of its kind
abbrev pub kind_allows : ColumnKind → Cell → Bool
kind_allows kind (Num n) = option_map_or (λ greatest. nat_le n greatest) (greatest_number kind) false
kind_allows kind (Ref t) = may_name_of kind t.table
kind_allows kind cell = cell_fits kind cell

abbrev pub column_allows : ColumnOf → Cell → Bool
column_allows column cell = kind_allows column.kind cell

-- the cells are those of these columns, as far as these are cells, one for one
unfoldable pub cells_allowed : List ColumnOf → List Cell → Bool
cells_allowed columns cells = pointwise column_allows (filter (λ c. is_cell_kind c.kind) columns) cells

-- the row that was asked for, with cells that its columns allow
abbrev pub row_fits : Token → Reply → Bool
row_fits t (replies.Row row) = same_token row.token t && cells_allowed (table_columns t.table) row.cells
row_fits t r = false

-- of a sort that the row's table has
abbrev pub sig_reply_fits : Token → Reply → Bool
sig_reply_fits t (replies.Sig at sig) = same_token at t && sort_fits t.table sig
sig_reply_fits t r = false

abbrev pub name_fits : Token → Reply → Bool
name_fits t (replies.Name at name) = same_token at t
name_fits t r = false

-- a list of rows of the table
abbrev pub list_fits : Key → ℕ → Reply → Bool
list_fits k table (replies.Tokens at tokens) = same_key at k && list_all (λ t. t.table == table) tokens
list_fits k table r = false

-- a row of the table, or none
abbrev pub find_fits : ℕ → Reply → Bool
find_fits table (replies.Found t) = t.table == table
find_fits table replies.NotFound = true
find_fits table r = false

-- no other query is asked
abbrev pub reply_fits : Query → Reply → Bool
reply_fits (queries.Row t) r = row_fits t r
reply_fits (queries.Sig t) r = sig_reply_fits t r
reply_fits (queries.Name t) r = name_fits t r
reply_fits (queries.Members t table) r = list_fits (keys.Owned t table) table r
reply_fits (queries.Links t link) r = list_fits (keys.Linked t link) (link_table_of link) r
reply_fits (queries.FindType namespace name) r = find_fits type_def r
reply_fits (queries.FindMember of table name sig) r = find_fits table r
reply_fits q r = false

-- whether the reply says that the row is not there
abbrev pub is_missing : Token → Reply → Bool
is_missing t (replies.Absent at) = same_token at t
is_missing t (replies.Removed at) = same_token at t
is_missing t r = false
