-- A stored number, read as a coded index: ECMA-335 II.24.2.6.
use Rattle.std.specs.Prelude.{ℕ, ◌≡◌, ◌≢◌, ◌<◌, ◌≤◌, ◌+◌, ◌*◌, ◌/◌, ◌%◌, ◌^◌, ◌==◌, nat_lt, if◌then◌else◌, ◌↔◌}
use Rattle.std.specs.Prelude.{Option, Some, None, IsSome}
use Rattle.cil_base.specs.Token.{Token}
use Rattle.md_schema.specs.CodedKind.{tag_bits_of, tag_table_of}
use Rattle.md_schema.specs.declared.coded_kind.CodedKind.{CodedKind}
use Rattle.md_schema.specs.declared.coded.Coded.{Coded}
use Rattle.md_schema.specs.declared.coded.Coded.TheVariants.{Null, Is, BadTag, Beyond}

-- the number is the row, above the bits of the tag
pub record Packs (kind : CodedKind) (value rid tag : ℕ) : Type 0 where
  pub sum : value ≡ rid * 2 ^ tag_bits_of kind + tag
  pub narrow : tag < 2 ^ tag_bits_of kind

-- what the number says, and when each answer comes
abbrev pub Decodes : CodedKind → ℕ → Coded → Type 0
Decodes kind value Null = value < 2 ^ tag_bits_of kind
Decodes kind value (Is token) =
    (tag : ℕ) × Packs kind value token.rid tag × (0 < token.rid) × (token.rid < 2 ^ 24)
    × (tag_table_of kind tag ≡ Some token.table)
Decodes kind value (BadTag tag) =
    (rid : ℕ) × Packs kind value rid tag × (0 < rid) × (tag_table_of kind tag ≡ None)
Decodes kind value (Beyond rid) =
    (tag : ℕ) × Packs kind value rid tag × (2 ^ 24 ≤ rid) × IsSome (tag_table_of kind tag)

-- the same as a function: what a row part that is not 0 says, by the table of its tag
abbrev pub row_in : Option ℕ → ℕ → ℕ → Coded
row_in None rid tag = BadTag tag
row_in (Some table) rid tag = if nat_lt rid (2 ^ 24) then Is (record { table = table; rid = rid }) else Beyond rid

abbrev pub coded_from : CodedKind → ℕ → ℕ → Coded
coded_from kind rid tag = if rid == 0 then Null else row_in (tag_table_of kind tag) rid tag

unfoldable pub coded_of : CodedKind → ℕ → Coded
coded_of kind value = coded_from kind (value / 2 ^ tag_bits_of kind) (value % 2 ^ tag_bits_of kind)

-- the function gives what the relation says, and nothing else
abbrev pub CodedDecodes : Type 0
CodedDecodes = (kind : CodedKind) (value : ℕ) (coded : Coded) → (coded_of kind value ≡ coded) ↔ Decodes kind value coded

-- the number that a token is written as, or none where no tag names its table
abbrev pub Encodes : CodedKind → Token → Option ℕ → Type 0
Encodes kind token None = (tag : ℕ) → tag_table_of kind tag ≢ Some token.table
Encodes kind token (Some value) =
    (tag : ℕ) × Packs kind value token.rid tag × (tag_table_of kind tag ≡ Some token.table)

-- the tag that names the table
abbrev pub HasTag : CodedKind → ℕ → Option ℕ → Type 0
HasTag kind number None = (tag : ℕ) → tag_table_of kind tag ≢ Some number
HasTag kind number (Some tag) = (tag_table_of kind tag ≡ Some number) × (tag < 2 ^ tag_bits_of kind)
