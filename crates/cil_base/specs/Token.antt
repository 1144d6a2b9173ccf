-- A metadata token: the number of a table and of one of its rows (ECMA-335 II.22).
use Rattle.std.specs.Prelude.{ℕ, ◌+◌, ◌*◌, ◌/◌, ◌%◌, ◌^◌, ◌++◌, List}
use Rattle.cil_base.specs.Escape.{hex_pair}

-- the table's number, and the row's, which is counted from 1
pub record Token : Type 0 where
  pub table : ℕ
  pub rid : ℕ

-- the root is no row: it stands for the module where no row is meant
abbrev pub root : Token
root = record { table = 0; rid = 0 }

-- the number of four bytes that holds a token: the table's in the highest byte, the row's in the rest (III.1.9)
abbrev pub token_number : Token → ℕ
token_number t = t.table * 2 ^ 24 + t.rid

-- the token that such a number holds
unfoldable pub token_from : ℕ → Token
token_from number = record { table = number / 2 ^ 24; rid = number % 2 ^ 24 }

-- a token in hex: two digits for the table and six for the row
abbrev pub token_text : ℕ → ℕ → List ℕ
token_text table rid = hex_pair table ++ hex_pair (rid / 65536) ++ hex_pair (rid / 256 % 256) ++ hex_pair (rid % 256)
