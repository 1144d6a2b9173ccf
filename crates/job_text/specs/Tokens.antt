-- Tokens as commands give them: eight hex digits, or a back reference to what an earlier command makes.
use Rattle.std.specs.Prelude.{ℕ, ◌+◌, ◌-◌, ◌*◌, ◌==◌, ◌&&◌, List, [], ◌∷◌, Option, Some, None, length, nat_le, nat_lt, slice_get}
use Rattle.std.specs.Prelude.{if◌then◌else◌}
use Rattle.cil_base.specs.Steps.{◌>>=◌}
use Rattle.cil_base.specs.Token.{Token, token_from}
use Rattle.serde_json.specs.Data.{Data}
use Rattle.job_text.specs.Hex.{eight_digits}
use Rattle.job_text.specs.NewRows.{made_row}
use Rattle.job_text.specs.Values.{below, given_text}
use Rattle.job_text.specs.declared.command.Command.{Command}
use Rattle.job_text.specs.declared.new_row.NewRow.{NewRow}
use Rattle.job_text.specs.declared.token.RowToken.{RowToken}

-- an actor has at most so many commands
abbrev pub most_commands : ℕ
most_commands = 4096

-- the number of decimal digits, after those that gave n
unfoldable pub decimal_from : ℕ → List ℕ → Option ℕ
decimal_from n [] = Some n
decimal_from n (b ∷ bs) = if nat_le 0x30 b && nat_le b 0x39 then decimal_from (10 * n + (b - 0x30)) bs else None

-- the number of a decimal text without leading zeros
unfoldable pub decimal_number : List ℕ → Option ℕ
decimal_number [] = None
decimal_number (b ∷ bs) = if (b == 0x30) && nat_lt 0 (length bs) then None else decimal_from 0 (b ∷ bs)

-- a number of one of an actor's commands
abbrev pub command_place : Option ℕ → Option ℕ
command_place number = number >>= below most_commands

-- the tables 0xFE and 0xFF are none: their tokens stand for rows that are not there yet
abbrev pub of_table : Token → Option RowToken
of_table t = if nat_lt t.table 0xfe then Some (record { token = t; table = t.table }) else None

-- two digits for the table, and six for the row
unfoldable pub plain_token : List ℕ → Option RowToken
plain_token text = eight_digits text >>= λ number. of_table (token_from number)

-- the token for the row of command j, where it is one of module m
abbrev pub token_for : ℕ → ℕ → NewRow → Option RowToken
token_for m j row =
    if row.«module» == m then Some (record { token = record { table = 0xff; rid = j }; table = row.table }) else None

-- what the command of that number makes in module m, of those before
unfoldable pub back_reference : ℕ → List Command → List ℕ → Option RowToken
back_reference m before text =
    command_place (decimal_number text) >>= λ j. slice_get before j >>= made_row >>= token_for m j

-- a back reference begins with a dollar sign
unfoldable pub token_of : ℕ → List Command → List ℕ → Option RowToken
token_of m before [] = None
token_of m before (b ∷ rest) = if b == 0x24 then back_reference m before rest else plain_token (b ∷ rest)

-- a token in module m, after the actor's commands before
unfoldable pub given_token : ℕ → List Command → Data → Option RowToken
given_token m before d = given_text d >>= token_of m before
