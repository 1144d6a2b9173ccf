-- What edits change: the new content of keys, and the rows that there are.
use Rattle.std.specs.Prelude.{ℕ, not, List, [], ◌∷◌, ◌++◌, map, length, insert, Option, Some, None, Result, Ok}
use Rattle.std.specs.Prelude.{Err, nat_le, if◌then◌else◌}
use Rattle.std.specs.List.{filter, list_any}
use Rattle.std.specs.Map.{lookup}
use Rattle.std.specs.Option.{option_or}
use Rattle.cil_base.specs.Token.{Token}
use Rattle.il_code.specs.Body.{Body as BodyOf}
use Rattle.il_code.specs.Edited.{bad_code, bad_handler}
use Rattle.il_code.specs.declared.il_refusal.IlRefusal.{IlRefusal}
use Rattle.il_code.specs.declared.il_refusal.IlRefusal.TheVariants as il
use Rattle.pe_image.specs.declared.facts.Facts.{Facts as FactsOf}
use Rattle.node_model.specs.Fresh.{fresh_slot}
use Rattle.node_model.specs.Keys.{same_key, same_token}
use Rattle.node_model.specs.Lists.{tokens_slot}
use Rattle.node_model.specs.Nodes.{Nodes, next_row, with_removed, with_row}
use Rattle.node_model.specs.RowCells.{with_cell_in}
use Rattle.node_model.specs.declared.cell.Cell.{Cell}
use Rattle.node_model.specs.declared.change.Change.{Change}
use Rattle.node_model.specs.declared.change.RowChange.{RowChange}
use Rattle.node_model.specs.declared.change.RowChange.TheVariants.{Stays, Made, Gone}
use Rattle.node_model.specs.declared.edit.OptSig.{OptSig}
use Rattle.node_model.specs.declared.edit_refusal.EditRefusal.{EditRefusal}
use Rattle.node_model.specs.declared.edit_refusal.EditRefusal.TheVariants.{PlaceBeyond, NotThere, BadCode, BadHandler}
use Rattle.node_model.specs.declared.key.Key.{Key}
use Rattle.node_model.specs.declared.key.Key.TheVariants.{Row, Body, Facts}
use Rattle.node_model.specs.declared.slot.Slot.{Slot}
use Rattle.node_model.specs.declared.slot.Slot.TheVariants as slots
use Rattle.node_model.specs.declared.value.BodyValue.{BodyValue}
use Rattle.node_model.specs.declared.value.BodyValue.TheVariants.{NoBody, Native, Il}
use Rattle.node_model.specs.declared.value.RowValue.{RowValue}
use Rattle.node_model.specs.declared.value.Value.{Value}
use Rattle.node_model.specs.declared.value.Value.TheVariants as values

-- a change, or the refusal in its place
abbrev pub Changing : Type 0
Changing = Result Change EditRefusal

-- one key has another value, and no row changes
abbrev pub puts : Key → Value → Change
puts k value = record { contents = (k, slots.Value value) ∷ []; rows = Stays }

-- the cell of a row in a column
abbrev pub cell_put : Token → ℕ → Cell → RowValue → Change
cell_put t column cell row =
    puts (Row t) (values.Row (record { token = row.token; cells = with_cell_in t.table column cell row.cells }))

-- the entry point among the facts
abbrev pub entry_put : Token → FactsOf → Change
entry_put t facts = puts Facts (values.Facts (record {
  plus = facts.plus;
  machine = facts.machine;
  time = facts.time;
  characteristics = facts.characteristics;
  base = facts.base;
  subsystem = facts.subsystem;
  dll = facts.dll;
  runtime_major = facts.runtime_major;
  runtime_minor = facts.runtime_minor;
  flags = facts.flags;
  native = facts.native;
  entry = t;
  version = facts.version;
}))

-- the row that a table gets
abbrev pub new_row : Nodes → ℕ → List Cell → RowValue
new_row n table cells = record { token = next_row n table; cells = cells }

-- a new row, last in each of these lists
abbrev pub row_added : RowValue → OptSig → List (Key × List Token) → Change
row_added row sig lists = record {
  contents = map (λ (l : Key × List Token). (l.0, tokens_slot (l.1 ++ row.token ∷ []))) lists;
  rows = Made row sig;
}

-- a new row, before a place of this list, which is at most its length
abbrev pub row_inserted : RowValue → OptSig → Key → ℕ → List Token → Changing
row_inserted row sig k at ts =
    if nat_le at (length ts)
    then Ok (record { contents = (k, tokens_slot (insert ts at row.token)) ∷ []; rows = Made row sig })
    else Err (PlaceBeyond at (length ts))

abbrev pub without_token : Token → List Token → List Token
without_token t ts = filter (λ x. not (same_token t x)) ts

abbrev pub all_without : Token → List (Key × List Token) → Change
all_without t lists = record {
  contents = map (λ (l : Key × List Token). (l.0, tokens_slot (without_token t l.1))) lists;
  rows = Gone t;
}

-- a row leaves these lists, if the first has it
abbrev pub row_removed : Token → List (Key × List Token) → Changing
row_removed t [] = Err (NotThere t)
row_removed t (l ∷ ls) = if list_any (same_token t) l.1 then Ok (all_without t (l ∷ ls)) else Err (NotThere t)

-- the refusal of a body's edit, as that of an edit of the graph
abbrev pub code_refusal : IlRefusal → EditRefusal
code_refusal (il.PlaceBeyond at n) = PlaceBeyond at n
code_refusal (il.BadCode i) = BadCode i
code_refusal (il.BadHandler i) = BadHandler i

abbrev pub unless_refused : Option IlRefusal → Change → Changing
unless_refused (Some r) change = Err (code_refusal r)
unless_refused None change = Ok change

-- another body, whose first instruction and whose first handler that is not sound is refused
abbrev pub body_put : Token → BodyValue → Changing
body_put t (Il body) =
    unless_refused (option_or (bad_code body) (bad_handler body)) (puts (Body t) (values.Body (Il body)))
body_put t NoBody = Ok (puts (Body t) (values.Body NoBody))
body_put t (Native rva) = Ok (puts (Body t) (values.Body (Native rva)))

-- an edit of the body, by its refusal and by what it makes of the body
abbrev pub code_edited : Token → (BodyOf → Option IlRefusal) → (BodyOf → BodyOf) → BodyValue → Changing
code_edited t refused made (Il body) = unless_refused (refused body) (puts (Body t) (values.Body (Il (made body))))
code_edited t refused made NoBody = Err (NotThere t)
code_edited t refused made (Native rva) = Err (NotThere t)

-- the token of a row that is made
abbrev pub token_made : RowChange → Option Token
token_made Stays = None
token_made (Made row sig) = Some row.token
token_made (Gone t) = None

abbrev pub nodes_after : RowChange → Nodes → Nodes
nodes_after Stays n = n
nodes_after (Made row sig) n = with_row n row.token.table
nodes_after (Gone t) n = with_removed n t

-- what the keys of a new row begin with
abbrev pub begun : RowChange → Key → Option Slot
begun Stays k = None
begun (Made row sig) k = fresh_slot row sig k
begun (Gone t) k = None

-- what a key holds after a change, if it changes
unfoldable pub changed_slot : Change → Key → Option Slot
changed_slot change k = option_or (lookup (same_key k) change.contents) (begun change.rows k)
