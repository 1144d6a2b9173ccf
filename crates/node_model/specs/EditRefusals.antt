-- Why edits are refused before any key is looked at: the refusals' conditions, in the order in which they are tried.
use Rattle.std.specs.Prelude.{ℕ, ◌-◌, ◌^◌, Bool, not, List, [], ◌∷◌, ◌++◌, Option, Some, None, ◌==◌, ◌||◌, ◌&&◌, nat_le}
use Rattle.std.specs.Prelude.{nat_lt, if◌then◌else◌}
use Rattle.std.specs.List.{find, position}
use Rattle.std.specs.Option.{option_map, option_or}
use Rattle.cil_base.specs.Steps.{◌>>=◌}
use Rattle.cil_base.specs.Token.{Token}
use Rattle.md_schema.specs.Tables.{assembly, module_}
use Rattle.md_schema.specs.declared.column.ColumnKind.{ColumnKind}
use Rattle.md_schema.specs.declared.column.ColumnKind.TheVariants.{U8Pad, U16, U32}
use Rattle.node_model.specs.ColumnFit.{bad_column}
use Rattle.node_model.specs.KeyKinds.{is_root_token}
use Rattle.node_model.specs.NamedTokens.{NamedToken, edit_names}
use Rattle.node_model.specs.Nodes.{Nodes, is_absent_row, is_live_row, is_removed_row}
use Rattle.node_model.specs.PlacedCells.{PlacedCell, edit_cells}
use Rattle.node_model.specs.declared.cell.Cell.{Cell}
use Rattle.node_model.specs.declared.cell.Cell.TheVariants as cells
use Rattle.node_model.specs.declared.edit.Edit.{Edit}
use Rattle.node_model.specs.declared.edit.Edit.TheVariants as edits
use Rattle.node_model.specs.declared.edit_refusal.EditRefusal.{EditRefusal}
use Rattle.node_model.specs.declared.edit_refusal.EditRefusal.TheVariants.{Absent, Removed, BadColumn, NumberTooWide}
use Rattle.node_model.specs.declared.edit_refusal.EditRefusal.TheVariants.{BadText, BadRef, TableFull, Reached}
use Rattle.node_model.specs.declared.edit_refusal.EditRefusal.TheVariants.{PlaceBeyond, NotThere, BadCode, BadHandler}

-- the number of each refusal
abbrev pub edit_refusal_number : EditRefusal → ℕ
edit_refusal_number (Absent t) = 1
edit_refusal_number (Removed t) = 2
edit_refusal_number (BadColumn n) = 3
edit_refusal_number (NumberTooWide value limit) = 4
edit_refusal_number (BadText place) = 5
edit_refusal_number (BadRef t) = 6
edit_refusal_number (TableFull n) = 7
edit_refusal_number (Reached fault) = 8
edit_refusal_number (PlaceBeyond at n) = 9
edit_refusal_number (NotThere t) = 10
edit_refusal_number (BadCode i) = 11
edit_refusal_number (BadHandler i) = 12

-- the first that there is
abbrev pub first_some : {A : Type 0} → List (Option A) → Option A
first_some [] = None
first_some (x ∷ xs) = option_or x (first_some xs)

-- what is made of the first item of which something is made
abbrev pub first_made : {A B : Type 0} → (A → Option B) → List A → Option B
first_made f [] = None
first_made f (x ∷ xs) = option_or (f x) (first_made f xs)

-- the owner, but for the root
abbrev pub owner_rows : Token → List Token
owner_rows owner = if is_root_token owner then [] else owner ∷ []

-- the rows that an edit is of: the owner, then the row that is edited; an entry point is named, and not edited
abbrev pub edit_rows : Edit → List Token
edit_rows (edits.Set t column cell) = t ∷ []
edit_rows (edits.SetSig t sig) = t ∷ []
edit_rows (edits.SetBody t body) = t ∷ []
edit_rows (edits.SetData t bytes) = t ∷ []
edit_rows (edits.SetResource t value) = t ∷ []
edit_rows (edits.SetEntry t) = []
edit_rows (edits.Add table cells sig) = []
edit_rows (edits.Insert owner table at cells sig) = owner_rows owner
edit_rows (edits.Remove owner t) = owner_rows owner ++ t ∷ []
edit_rows (edits.IlInsert t at instr) = t ∷ []
edit_rows (edits.IlRemove t at) = t ∷ []
edit_rows (edits.IlReplace t at instr) = t ∷ []
edit_rows (edits.IlHead t max_stack init_locals locals) = t ∷ []
edit_rows (edits.AddHandler t handler) = t ∷ []
edit_rows (edits.RemoveHandler t at) = t ∷ []

-- the greatest number of a column of numbers
abbrev pub greatest_number : ColumnKind → Option ℕ
greatest_number U8Pad = Some 255
greatest_number U16 = Some 65535
greatest_number U32 = Some 4294967295
greatest_number _ = None

abbrev pub wide_number : ℕ → ℕ → Option EditRefusal
wide_number value limit = if nat_lt limit value then Some (NumberTooWide value limit) else None

-- a number that passes the greatest of its column
abbrev pub number_refusal : ColumnKind → Cell → Option EditRefusal
number_refusal kind (cells.Num value) = greatest_number kind >>= λ limit. wide_number value limit
number_refusal kind _ = None

-- a text with a zero byte
abbrev pub text_refusal : Cell → Option EditRefusal
text_refusal (cells.Text text) = option_map BadText (position (λ byte. byte == 0) text)
text_refusal _ = None

-- a token that is no row, was removed, or is of a table that its place does not allow
abbrev pub is_bad_name : Nodes → NamedToken → Bool
is_bad_name n x = not (is_live_row n x.token && x.allows x.token.table)

-- how many rows a table may have
abbrev pub most_rows : ℕ → ℕ
most_rows table = if (table == module_) || (table == assembly) then 1 else 2 ^ 24 - 1

-- a table that has as many rows
abbrev pub full_table : Nodes → ℕ → Option EditRefusal
full_table n table = if nat_le (most_rows table) (n.rows table) then Some (TableFull (most_rows table)) else None

-- of an edit that makes a row
abbrev pub room_refusal : Nodes → Edit → Option EditRefusal
room_refusal n (edits.Add table cells sig) = full_table n table
room_refusal n (edits.Insert owner table at cells sig) = full_table n table
room_refusal n _ = None

-- the conditions, in order
abbrev pub early_conditions : Nodes → Edit → List (Option EditRefusal)
early_conditions n e =
    option_map Absent (find (is_absent_row n) (edit_rows e))
    ∷ option_map Removed (find (is_removed_row n) (edit_rows e))
    ∷ option_map BadColumn (bad_column e)
    ∷ first_made (λ (c : PlacedCell). number_refusal c.kind c.cell) (edit_cells e)
    ∷ first_made (λ (c : PlacedCell). text_refusal c.cell) (edit_cells e)
    ∷ option_map (λ x. BadRef x.token) (find (is_bad_name n) (edit_names e))
    ∷ room_refusal n e
    ∷ []

-- the first refusal that is tried before any key is looked at
unfoldable pub early_refusal : Nodes → Edit → Option EditRefusal
early_refusal n e = first_some (early_conditions n e)
