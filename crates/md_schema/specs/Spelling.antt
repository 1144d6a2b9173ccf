-- Laws of the numbers that name rows: ECMA-335 II.24.2.6.
use Rattle.std.specs.Prelude.{ℕ, ◌≡◌, ◌<◌, ◌^◌, Option, Some, true}
use Rattle.md_schema.specs.Coded.{Decodes, Encodes}
use Rattle.md_schema.specs.Reference.{Refers, may_name_of}
use Rattle.md_schema.specs.declared.coded_kind.CodedKind.{CodedKind}
use Rattle.md_schema.specs.declared.column.ColumnKind.{ColumnKind}
use Rattle.md_schema.specs.declared.coded.Coded.{Coded}
use Rattle.md_schema.specs.declared.coded.Coded.TheVariants.{Is}
use Rattle.cil_base.specs.Token.{Token}

-- a token of a row
pub record IsRow (token : Token) : Type 0 where
  pub first : 0 < token.rid
  pub last : token.rid < 2 ^ 24

-- what a row's token is written as is read as the token and as nothing else
abbrev pub WrittenIsRead : Type 0
WrittenIsRead =
    (kind : CodedKind) (token : Token) (value : ℕ) (coded : Coded) → IsRow token
    → Encodes kind token (Some value) → Decodes kind value coded → coded ≡ Is token

-- a token is written in one way, or in none
abbrev pub WrittenOnce : Type 0
WrittenOnce =
    (kind : CodedKind) (token : Token) (answer other : Option ℕ)
    → Encodes kind token answer → Encodes kind token other → answer ≡ other

-- one number, and no other, is read in the column as the token
pub record SpelledOnce (kind : ColumnKind) (token : Token) (value : ℕ) : Type 0 where
  pub read : Refers kind value (Is token)
  pub only : (other : ℕ) → Refers kind other (Is token) → other ≡ value

abbrev pub EachSpelledOnce : Type 0
EachSpelledOnce =
    (kind : ColumnKind) (token : Token) → IsRow token → may_name_of kind token.table ≡ true
    → (value : ℕ) × SpelledOnce kind token value
