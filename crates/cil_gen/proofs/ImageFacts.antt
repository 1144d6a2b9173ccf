-- What the small image has, worked out from its bytes: its stream of tables, and the rows and the types that it lists.
use Rattle.std.proofs.Common.{◌≡◌, refl, ℕ, List, [], ◌∷◌}
use Rattle.cil_base.specs.Place.{number_at}
use Rattle.cil_base.specs.Token.{root}
use Rattle.md_schema.specs.Header.{sum_below}
use Rattle.md_schema.specs.Layout.{head_of}
use Rattle.md_schema.specs.LinkedRows.{rows_to}
use Rattle.pe_image.specs.CliHeader.{cli_header}
use Rattle.pe_image.specs.Headers.{is_plus, magic, pe_signature}
use Rattle.pe_image.specs.Metadata.{metadata}
use Rattle.pe_image.specs.Places.{u16_at, u32_at}
use Rattle.pe_image.specs.Sections.{bytes_from, section_header_at, section_headers_at}
use Rattle.pe_image.specs.Streams.{all_headers, header_places, header_width, name_length, stream, stream_at, stream_list}
use Rattle.pe_image.specs.declared.stream.StreamName.TheVariants.{Tables}
use Rattle.node_model.specs.Immediate.{read}
use Rattle.node_model.specs.Keys.{image_rows}
use Rattle.node_model.specs.Lists.{read_owned, tokens_slot}
use Rattle.node_model.specs.Streams.{image_streams}
use Rattle.node_model.specs.declared.key.Key.TheVariants.{Owned}
use Rattle.cil_gen.specs.SmallImage.{small_image}

-- the bytes of the stream of tables
abbrev pub table_bytes : List ℕ
table_bytes =
    0 ∷ 0 ∷ 0 ∷ 0 ∷ 2 ∷ 0 ∷ 0 ∷ 1 ∷ 5 ∷ 0 ∷ 0 ∷ 0 ∷ 0 ∷ 0 ∷ 0 ∷ 0 ∷ 0 ∷ 0xfa ∷ 1 ∷ 0x33 ∷ 0 ∷ 0x16 ∷ 0 ∷ 0 ∷ 1 ∷ 0 ∷ 0 ∷ 0 ∷ 1 ∷ 0 ∷ 0 ∷ 0
    ∷ 0 ∷ 0 ∷ 1 ∷ 0 ∷ 1 ∷ 0 ∷ 0 ∷ 0 ∷ 0 ∷ 0 ∷ 0 ∷ 0 ∷ 0 ∷ 0 ∷ 11 ∷ 0 ∷ 0 ∷ 0 ∷ 0 ∷ 0 ∷ 1 ∷ 0 ∷ 1 ∷ 0 ∷ []

pub tables_stream : stream small_image Tables ≡ table_bytes
unfolding small_image stream metadata bytes_from cli_header magic is_plus section_headers_at section_header_at pe_signature u16_at u32_at stream_list stream_at all_headers header_places header_width name_length
tables_stream = refl

-- one type, no field and no method
pub type_rows : image_rows small_image 0x02 ≡ 1
unfolding image_rows head_of sum_below number_at
type_rows = rw tables_stream refl

pub field_rows : image_rows small_image 0x04 ≡ 0
unfolding image_rows head_of sum_below number_at
field_rows = rw tables_stream refl

pub method_rows : image_rows small_image 0x06 ≡ 0
unfolding image_rows head_of sum_below number_at
method_rows = rw tables_stream refl

pub types_listed : read small_image (Owned root 0x02) ≡ tokens_slot (record { table = 0x02; rid = 1 } ∷ [])
unfolding read_owned image_streams rows_to head_of sum_below number_at
types_listed = rw tables_stream refl
