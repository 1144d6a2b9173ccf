-- Which kinds of key a table has, by its columns, its holder and the links of the schema: ECMA-335 II.22.
use Rattle.std.specs.Prelude.{ℕ, Bool, true, false, List, [], Option, Some, ◌==◌, ◌&&◌, is_some, if◌then◌else◌}
use Rattle.std.specs.List.{position}
use Rattle.std.specs.Option.{option_and_then, option_map_or, unwrap_or}
use Rattle.cil_base.specs.Token.{Token}
use Rattle.md_schema.specs.Column.{ColumnOf}
use Rattle.md_schema.specs.Entry.{columns_of, holder_of, start_column_of}
use Rattle.md_schema.specs.Link.{link_kind_of}
use Rattle.md_schema.specs.Reference.{may_name_of}
use Rattle.md_schema.specs.Tables.{field_rva, manifest_resource, method_def}
use Rattle.md_schema.specs.declared.column.ColumnKind.{ColumnKind}
use Rattle.md_schema.specs.declared.column.ColumnKind.TheVariants.{Sig as SigColumn}
use Rattle.md_schema.specs.declared.holder.Holder.{Holder}
use Rattle.md_schema.specs.declared.holder.Holder.TheVariants.{Root}
use Rattle.md_schema.specs.declared.link.Link.{Link}
use Rattle.node_model.specs.declared.key.Key.{Key}
use Rattle.node_model.specs.declared.key.Key.TheVariants.{Row, Sig, Owned, Linked, Body, Data, Resource, Facts}

-- the columns of a table; another number has none
abbrev pub table_columns : ℕ → List ColumnOf
table_columns t = unwrap_or (columns_of t) []

abbrev pub is_sig_kind : ColumnKind → Bool
is_sig_kind SigColumn = true
is_sig_kind _ = false

-- the number of the column of a table that is a signature
abbrev pub sig_column_of : ℕ → Option ℕ
sig_column_of t = option_and_then (λ columns. position (λ column. is_sig_kind column.kind) columns) (columns_of t)

unfoldable pub has_sig : ℕ → Bool
has_sig t = is_some (sig_column_of t)

-- the rows of the table own runs of the rows of the other
unfoldable pub owns_table : ℕ → ℕ → Bool
owns_table t n = is_some (start_column_of t n)

-- the rows of the table are listed by the image itself
abbrev pub is_root_holder : Option Holder → Bool
is_root_holder (Some Root) = true
is_root_holder _ = false

unfoldable pub is_root_table : ℕ → Bool
is_root_table n = is_root_holder (holder_of n)

-- the link's column may name rows of the table
unfoldable pub may_link : ℕ → Link → Bool
may_link t l = option_map_or (λ kind. may_name_of kind t) (link_kind_of l) false

abbrev pub is_root_token : Token → Bool
is_root_token t = (t.table == 0) && (t.rid == 0)

-- whether the table of the key's row has keys of its kind. Bodies are those of MethodDef (II.22.26), data those of
-- FieldRVA (II.22.18), and resources those of ManifestResource (II.22.24)
abbrev pub has_kind : Key → Bool
has_kind (Row t) = is_some (columns_of t.table)
has_kind (Sig t) = has_sig t.table
has_kind (Owned t n) = if is_root_token t then is_root_table n else owns_table t.table n
has_kind (Linked t l) = may_link t.table l
has_kind (Body t) = t.table == method_def
has_kind (Data t) = t.table == field_rva
has_kind (Resource t) = t.table == manifest_resource
has_kind Facts = true
