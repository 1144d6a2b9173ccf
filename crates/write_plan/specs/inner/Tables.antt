-- Rows split by their tables. No public contract cites these words.
use Rattle.std.specs.Prelude.{◌≡◌, ◌<◌, ℕ, List, [], get_or, length}
use Rattle.cil_base.specs.Token.{Token}
use Rattle.write_plan.specs.GraphWalk.{rows_of_table}

-- a list for each number of a table, with the rows of that table
pub record IsSplit (all : List Token) (tables : List (List Token)) : Type 0 where
  pub count : length tables ≡ 256
  pub rows : (table : ℕ) → table < 256 → get_or tables table [] ≡ rows_of_table table all
