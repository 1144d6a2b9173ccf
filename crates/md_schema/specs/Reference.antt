-- Columns that name rows, by an index into one table or by a coded index: ECMA-335 II.22 and II.24.2.6.
use Rattle.std.specs.Prelude.{ℕ, ◌≡◌, ◌<◌, ◌≤◌, ◌^◌, ◌/◌, ◌%◌, ◌==◌, nat_lt, if◌then◌else◌, ◌&&◌, ◌↔◌}
use Rattle.std.specs.Prelude.{Bool, false, Option, Some, None}
use Rattle.std.specs.List.{list_any}
use Rattle.md_schema.specs.CodedKind.{tag_table_of, tables_of, tag_bits_of}
use Rattle.md_schema.specs.Coded.{Decodes, coded_of}
use Rattle.md_schema.specs.declared.column.ColumnKind.{ColumnKind}
use Rattle.md_schema.specs.declared.column.ColumnKind.TheVariants.{Index, Coded as Choice}
use Rattle.md_schema.specs.declared.coded.Coded.{Coded}
use Rattle.md_schema.specs.declared.coded.Coded.TheVariants.{Null, Is, BadTag, Beyond}
use Rattle.cil_base.specs.Token.{Token}

-- whether this is the table of a tag
abbrev pub is_tag_table : ℕ → Option ℕ → Bool
is_tag_table number None = false
is_tag_table number (Some other) = other == number

abbrev pub may_name_of : ColumnKind → ℕ → Bool
may_name_of (Index other) number = other == number
may_name_of (Choice kind) number = list_any (is_tag_table number) (tables_of kind)
may_name_of _ number = false

-- what a row number of the table says
abbrev pub DecodesIndex : ℕ → ℕ → Coded → Type 0
DecodesIndex number value Null = value ≡ 0
DecodesIndex number value (Is token) =
    (0 < value) × (value < 2 ^ 24) × (token.rid ≡ value) × (token.table ≡ number)
DecodesIndex number value (BadTag tag) = ⊥
DecodesIndex number value (Beyond rid) = (rid ≡ value) × (2 ^ 24 ≤ value)

-- what a number of a column that names rows says
abbrev pub Refers : ColumnKind → ℕ → Coded → Type 0
Refers (Index number) value coded = DecodesIndex number value coded
Refers (Choice kind) value coded = Decodes kind value coded
Refers _ value coded = ⊥

-- the same as a function
abbrev pub index_of : ℕ → ℕ → Coded
index_of number value =
    if value == 0 then Null
    else (if nat_lt value (2 ^ 24) then Is (record { table = number; rid = value }) else Beyond value)

-- none where the column names no rows
abbrev pub reference_of : ColumnKind → ℕ → Option Coded
reference_of (Index number) value = Some (index_of number value)
reference_of (Choice kind) value = Some (coded_of kind value)
reference_of _ value = None

-- the function gives what the relation says, and nothing else
abbrev pub ReferenceRefers : Type 0
ReferenceRefers =
    (kind : ColumnKind) (value : ℕ) (coded : Coded) → (reference_of kind value ≡ Some coded) ↔ Refers kind value coded

-- whether a row part is that of a row: not 0, and below 2^24
abbrev pub is_rid : ℕ → Bool
is_rid rid = nat_lt 0 rid && nat_lt rid (2 ^ 24)

-- whether the number decodes to exactly this token: its row part is the token's row, and its table the token's table
abbrev pub is_named : ColumnKind → ℕ → Token → Bool
is_named (Index number) value token = (number == token.table) && (value == token.rid) && is_rid value
is_named (Choice kind) value token =
    is_tag_table token.table (tag_table_of kind (value % 2 ^ tag_bits_of kind))
    && (value / 2 ^ tag_bits_of kind == token.rid) && is_rid (value / 2 ^ tag_bits_of kind)
is_named _ value token = false

-- whether the number was read as exactly this token
abbrev pub is_same : Coded → Token → Bool
is_same (Is found) token = (found.table == token.table) && (found.rid == token.rid)
is_same _ token = false
