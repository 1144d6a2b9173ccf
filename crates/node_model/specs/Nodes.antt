-- Which rows there are in the edited graph.
use Rattle.std.specs.Prelude.{ℕ, suc, ◌+◌, Bool, true, false, not, List, [], ◌∷◌, ◌++◌, ◌==◌, ◌&&◌, if◌then◌else◌}
use Rattle.std.specs.Prelude.{slice_index}
use Rattle.std.specs.List.{list_any}
use Rattle.cil_base.specs.Token.{Token}
use Rattle.node_model.specs.Keys.{image_rows, is_row, same_token}
use Rattle.node_model.specs.declared.nodes.RowsThere.{RowsThere}
use Rattle.node_model.specs.declared.nodes.RowStatus.{RowStatus}
use Rattle.node_model.specs.declared.nodes.RowStatus.TheVariants.{Absent, Removed, Live}

-- how many rows each table has, those that were added counted, and which rows were removed; these are counted too
pub record Nodes : Type 0 where
  pub rows : ℕ → ℕ
  pub removed : List Token

-- the rows of an image by table, as many more that were added, and those that were removed
abbrev pub nodes_of : List ℕ → List ℕ → List Token → Nodes
nodes_of rows added removed =
    record { rows = λ table. slice_index rows table + slice_index added table; removed = removed }

-- the rows that there are, as the code has them
abbrev pub nodes_there : RowsThere → Nodes
nodes_there there = nodes_of there.rows.now there.added.now there.removed.now

-- whether a token names a row
abbrev pub row_status : Nodes → Token → RowStatus
row_status n t = if is_row n.rows t then (if list_any (same_token t) n.removed then Removed else Live) else Absent

abbrev pub is_absent_status : RowStatus → Bool
is_absent_status Absent = true
is_absent_status _ = false

abbrev pub is_removed_status : RowStatus → Bool
is_removed_status Removed = true
is_removed_status _ = false

abbrev pub is_live_status : RowStatus → Bool
is_live_status Live = true
is_live_status _ = false

-- the root is no row, so it is absent
abbrev pub is_absent_row : Nodes → Token → Bool
is_absent_row n t = is_absent_status (row_status n t)

abbrev pub is_removed_row : Nodes → Token → Bool
is_removed_row n t = is_removed_status (row_status n t)

abbrev pub is_live_row : Nodes → Token → Bool
is_live_row n t = is_live_status (row_status n t)

-- the row was added to the image
abbrev pub is_added : List ℕ → Nodes → Token → Bool
is_added b n t = is_row n.rows t && not (is_row (image_rows b) t)

-- the token that a new row of a table gets: the next after all rows that the table ever had
abbrev pub next_row : Nodes → ℕ → Token
next_row n table = record { table = table; rid = suc (n.rows table) }

-- one row more of a table
abbrev pub with_row : Nodes → ℕ → Nodes
with_row n table = record { rows = λ t. if t == table then suc (n.rows t) else n.rows t; removed = n.removed }

-- one row that was removed more
abbrev pub with_removed : Nodes → Token → Nodes
with_removed n t = record { rows = n.rows; removed = n.removed ++ t ∷ [] }
