-- What an opened image keeps, and its streams as they are lent. No public contract cites these words.
use Rattle.std.specs.Prelude.{◌≡◌, ℕ, ◌<◌, ◌≤◌, List, [], ◌∷◌, map, Option, Ok}
use Rattle.cil_base.specs.Token.{Token}
use Rattle.md_schema.specs.Layout.{Head, OpensTables}
use Rattle.md_schema.specs.Runs.{table_row_count}
use Rattle.md_tables.specs.declared.link_row.LinkRow.{LinkRow}
use Rattle.node_model.specs.Streams.{ImageStreams}
use Rattle.pe_image.specs.Layout.{pe_layout}
use Rattle.pe_image.specs.Streams.{stream}
use Rattle.pe_image.specs.declared.image.Pe.{Pe}
use Rattle.pe_image.specs.declared.stream.StreamName.TheVariants.{Tables}
use Rattle.node_read.specs.declared.streams.Streams.{Streams}
use Rattle.node_read.specs.inner.Indexed.{IndexesAny}

-- what was opened is what the file says, and so is the index where there is one
pub record IsOpened (b : List ℕ) (pe : Pe) (head : Head) (links : Option (List (List LinkRow))) : Type 0 where
  pub laid : pe_layout b ≡ Ok pe
  pub opened : OpensTables (stream b Tables) head
  pub indexed : IndexesAny (stream b Tables) links

abbrev pub streams_of : Streams → ImageStreams
streams_of s = record {
  tables = s.tables.now;
  strings = s.strings.now;
  users = s.users.now;
  guids = s.guids.now;
  blobs = s.blobs.now;
}

-- a row that the tables have
pub record IsRowThere (s : ImageStreams) (t : Token) : Type 0 where
  pub first : 0 < t.rid
  pub last : t.rid ≤ table_row_count s.tables t.table

-- the first of some rows is one of a table that has it
abbrev pub IsFirstThere : ImageStreams → ℕ → List Token → Type 0
IsFirstThere s table [] = Unit {0}
IsFirstThere s table (row ∷ rows) = IsRowThere s row × (row.table ≡ table)

-- the rows of a table that have these numbers, in this order
abbrev pub rows_numbered : ℕ → List ℕ → List Token
rows_numbered table rids = map (λ rid. record { table = table; rid = rid }) rids
