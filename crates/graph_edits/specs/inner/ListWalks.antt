-- Lists of rows that are looked at, as the code looks at them. No public contract cites these words.
use Rattle.std.specs.Prelude.{ℕ, List, [], ◌∷◌, ◌++◌, map, Option, Result, Ok, ◌==◌}
use Rattle.std.specs.List.{filter, flat_map}
use Rattle.cil_base.specs.Token.{Token}
use Rattle.md_schema.specs.Link.{link_column_of, link_table_of}
use Rattle.md_schema.specs.declared.link.Link.{Link}
use Rattle.node_model.specs.Changes.{without_token}
use Rattle.node_model.specs.Lists.{tokens_slot}
use Rattle.node_model.specs.RowCells.{cell_in}
use Rattle.node_model.specs.RowLists.{ref_lists}
use Rattle.node_model.specs.Walk.{part, then_looked, then_said}
use Rattle.node_model.specs.declared.cell.Cell.{Cell}
use Rattle.node_model.specs.declared.change.Change.{Change}
use Rattle.node_model.specs.declared.change.RowChange.TheVariants.{Made}
use Rattle.node_model.specs.declared.edit.OptSig.{OptSig}
use Rattle.node_model.specs.declared.walk.Halt.{Halt}
use Rattle.node_model.specs.declared.key.Key.{Key}
use Rattle.node_model.specs.declared.key.Key.TheVariants.{Owned, Linked}
use Rattle.node_model.specs.declared.slot.Slot.{Slot}
use Rattle.node_model.specs.declared.value.RowValue.{RowValue}

-- the lists of the rows that the columns of these links name, as far as they are of the table
abbrev pub lists_by : ℕ → List Cell → List Link → List Key
lists_by table cells links =
    flat_map (λ l. ref_lists l (cell_in table (link_column_of l) cells)) (filter (λ l. link_table_of l == table) links)

-- the rows of a list; a key that is no list has no rows
abbrev pub list_said : (Key → Option Slot) → Key → Result (List Token) Halt
list_said p (Owned t n) = part (Owned t n) (p (Owned t n))
list_said p (Linked t l) = part (Linked t l) (p (Linked t l))
list_said p _ = Ok []

abbrev pub list_before : Key → List Token → List (Key × List Token) → Result (List (Key × List Token)) Halt
list_before k ts lists = Ok ((k, ts) ∷ lists)

-- the lists of these keys, up to the first that is not filled
abbrev pub lists_said : (Key → Option Slot) → List Key → Result (List (Key × List Token)) Halt
lists_said p [] = Ok []
lists_said p (k ∷ ks) = then_said (list_said p k) (λ ts. then_said (lists_said p ks) (list_before k ts))

-- the keys among these that are looked at
abbrev pub lists_looked : (Key → Option Slot) → List Key → List Key
lists_looked p [] = []
lists_looked p (Owned t n ∷ ks) =
    Owned t n ∷ then_looked (part (Owned t n) (p (Owned t n))) (λ ts. lists_looked p ks)
lists_looked p (Linked t l ∷ ks) =
    Linked t l ∷ then_looked (part (Linked t l) (p (Linked t l))) (λ ts. lists_looked p ks)
lists_looked p (k ∷ ks) = lists_looked p ks

-- the content of these lists with a token more behind the others, and without a token
abbrev pub lists_with : Token → List (Key × List Token) → List (Key × Slot)
lists_with t lists = map (λ (l : Key × List Token). (l.0, tokens_slot (l.1 ++ t ∷ []))) lists

abbrev pub lists_without : Token → List (Key × List Token) → List (Key × Slot)
lists_without t lists = map (λ (l : Key × List Token). (l.0, tokens_slot (without_token t l.1))) lists

-- the change by a new row, with what becomes of the lists in which it stands
abbrev pub row_made : RowValue → OptSig → List (Key × Slot) → Change
row_made row sig contents = record { contents = contents; rows = Made row sig }
