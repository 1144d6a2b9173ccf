-- The streams of an image, and the numbers of its tables: ECMA-335 II.24.2.2, II.24.2.6.
use Rattle.std.specs.Prelude.{ℕ, List}
use Rattle.std.specs.List.{position}
use Rattle.std.specs.Option.{unwrap_or}
use Rattle.std.specs.Str.{bytes_eq}
use Rattle.cil_base.specs.Token.{Token}
use Rattle.md_schema.specs.Cell.{cell_of}
use Rattle.pe_image.specs.Streams.{stream}
use Rattle.pe_image.specs.declared.stream.StreamName.TheVariants.{Tables, Strings, UserStrings, Guids, Blobs}
use Rattle.node_model.specs.KeyKinds.{table_columns}

-- the bytes of the streams of an image
pub record ImageStreams : Type 0 where
  pub tables : List ℕ
  pub strings : List ℕ
  pub users : List ℕ
  pub guids : List ℕ
  pub blobs : List ℕ

unfoldable pub image_streams : List ℕ → ImageStreams
image_streams b = record {
  tables = stream b Tables;
  strings = stream b Strings;
  users = stream b UserStrings;
  guids = stream b Guids;
  blobs = stream b Blobs;
}

-- the number of the column of a table that has this name
abbrev pub column_named : ℕ → List ℕ → ℕ
column_named t name = unwrap_or (position (λ c. bytes_eq c.name name) (table_columns t)) 0

-- the number that stands in that column of a row
abbrev pub number_of_column : ImageStreams → Token → List ℕ → ℕ
number_of_column s t name = cell_of s.tables t.table t.rid (column_named t.table name)
