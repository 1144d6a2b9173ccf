-- Small graphs, worked out by hand, so that a wrong order or number in a definition does not check.
use Rattle.std.specs.Prelude.{◌≡◌, refl, ℕ, false, List, [], ◌∷◌, Some, None}
use Rattle.std.specs.Map.{lookup}
use Rattle.std.specs.Option.{option_map_or}
use Rattle.cil_base.specs.Token.{Token, root}
use Rattle.il_code.specs.declared.operand.Operand.TheVariants as operands
use Rattle.md_schema.specs.Schema.{tables}
use Rattle.md_schema.specs.declared.link.Link.TheVariants.{InterfaceImpl, CustomAttribute, DeclSecurity, ClassLayout, EventMap, PropertyMap, MethodImpl, NestedClass, Nested, GenericParam}
use Rattle.node_model.specs.KeyKinds.{has_sig, is_root_table, may_link, owns_table}
use Rattle.node_model.specs.Keys.{same_key}
use Rattle.node_model.specs.RowLists.{list_key}
use Rattle.node_model.specs.RowTexts.{cell_among}
use Rattle.node_model.specs.declared.cell.Cell.{Cell}
use Rattle.node_model.specs.declared.cell.Cell.TheVariants as cells
use Rattle.node_model.specs.declared.key.Key.{Key}
use Rattle.node_model.specs.declared.key.Key.TheVariants.{Row, Owned, Linked, Body, Facts}
use Rattle.node_model.specs.declared.look.Look.{Look}
use Rattle.node_model.specs.declared.look.Look.TheVariants as looks
use Rattle.node_model.specs.declared.slot.Fault.{Fault}
use Rattle.node_model.specs.declared.slot.FaultKind.TheVariants.{BadRow, BadRange}
use Rattle.node_model.specs.declared.slot.Slot.{Slot}
use Rattle.node_model.specs.declared.slot.Slot.TheVariants as slots
use Rattle.node_model.specs.declared.value.BodyValue.TheVariants.{Il}
use Rattle.node_model.specs.declared.value.Value.TheVariants as values
use Rattle.write_plan.specs.GraphWalk.{graph_walk, walk_tables, walked_value}
use Rattle.write_plan.specs.Refusals.{later_refusal, plan_refusal}
use Rattle.write_plan.specs.Written.{link_number, token_renumbered, rows_in, sort_link, written_lists}
use Rattle.write_plan.specs.declared.refusal.WriteRefusal.TheVariants.{Reached, NotPureIl, Twice, Dangling}

abbrev row_of : ℕ → ℕ → Token
row_of table rid = record { table = table; rid = rid }

abbrev unlisted : Key → Look
unlisted (Owned t n) = looks.Slot (slots.Value (values.Tokens []))
unlisted (Linked t l) = looks.Slot (slots.Value (values.Tokens []))
unlisted (Row t) = looks.Removed t
unlisted k = looks.Absent root

-- a graph that holds this; its other lists are empty, and its other rows were removed
abbrev shown : List (Key × Slot) → Key → Look
shown held k = option_map_or looks.Slot (lookup (same_key k) held) (unlisted k)

abbrev list : List Token → Slot
list ts = slots.Value (values.Tokens ts)

abbrev cells_of : Token → List Cell → Slot
cells_of t cs = slots.Value (values.Row (record { token = t; cells = cs }))

abbrev facts : ℕ → Slot
facts flags = slots.Value (values.Facts (record {
  plus = false;
  machine = 0x14c;
  time = 0;
  characteristics = 0x2102;
  base = 0x400000;
  subsystem = 3;
  dll = 0x8540;
  runtime_major = 2;
  runtime_minor = 5;
  flags = flags;
  native = false;
  entry = root;
  version = [];
}))

abbrev module_row : Token
module_row = row_of 0x00 1

abbrev type_row : ℕ → Token
type_row rid = row_of 0x02 rid

abbrev method_row : ℕ → Token
method_row rid = row_of 0x06 rid

abbrev attribute : ℕ → Token
attribute rid = row_of 0x0c rid

-- an image with a module and a type
abbrev small : List (Key × Slot)
small =
    (Facts, facts 1)
    ∷ (Owned root 0x00, list (module_row ∷ []))
    ∷ (Owned root 0x02, list (type_row 1 ∷ []))
    ∷ (Row module_row, cells_of module_row [])
    ∷ (Row (type_row 1), cells_of (type_row 1) [])
    ∷ []

pub small-keys : (graph_walk (shown small)).keys ≡
    Facts ∷ Owned root 0x00 ∷ Row module_row ∷ Owned root 0x01 ∷ Owned root 0x02 ∷ Row (type_row 1)
    ∷ Owned root 0x0a ∷ Owned root 0x11 ∷ Owned root 0x1a ∷ Owned root 0x1b ∷ Owned root 0x20 ∷ Owned root 0x21
    ∷ Owned root 0x22 ∷ Owned root 0x23 ∷ Owned root 0x24 ∷ Owned root 0x25 ∷ Owned root 0x26 ∷ Owned root 0x27
    ∷ Owned root 0x28 ∷ Owned root 0x2b
    ∷ Owned (type_row 1) 0x04 ∷ Owned (type_row 1) 0x06 ∷ Linked (type_row 1) EventMap ∷ Linked (type_row 1) PropertyMap
    ∷ Linked (type_row 1) InterfaceImpl ∷ Linked (type_row 1) MethodImpl ∷ Linked (type_row 1) ClassLayout
    ∷ Linked (type_row 1) NestedClass ∷ Linked (type_row 1) Nested ∷ Linked (type_row 1) GenericParam
    ∷ Linked (type_row 1) DeclSecurity ∷ Linked module_row CustomAttribute ∷ Linked (type_row 1) CustomAttribute ∷ []
unfolding graph_walk walk_tables is_root_table has_sig owns_table may_link list_key tables
small-keys = refl

pub small-is_written : plan_refusal (shown small) ≡ None
unfolding plan_refusal later_refusal graph_walk walk_tables is_root_table has_sig owns_table may_link list_key tables
small-is_written = refl

-- a fault of a row, and one of a list before a later one
abbrev bad_row : Fault
bad_row = record { key = Row (type_row 1); kind = BadRow; column = 1 }

abbrev bad_range : Fault
bad_range = record { key = Owned (type_row 2) 0x06; kind = BadRange; column = 5 }

pub bad_row-is_reached : plan_refusal (shown ((Row (type_row 1), slots.Fault bad_row) ∷ small)) ≡ Some (Reached bad_row)
unfolding plan_refusal later_refusal graph_walk walk_tables is_root_table has_sig owns_table may_link list_key tables
bad_row-is_reached = refl

-- three types, of which the second's methods are at fault, and the third shares methods with the first
abbrev types : List (Key × Slot)
types =
    (Facts, facts 1)
    ∷ (Owned root 0x02, list (type_row 1 ∷ type_row 2 ∷ type_row 3 ∷ []))
    ∷ (Row (type_row 1), cells_of (type_row 1) [])
    ∷ (Row (type_row 2), cells_of (type_row 2) [])
    ∷ (Row (type_row 3), cells_of (type_row 3) [])
    ∷ (Owned (type_row 1) 0x06, list (method_row 1 ∷ method_row 2 ∷ []))
    ∷ (Owned (type_row 3) 0x06, list (method_row 2 ∷ []))
    ∷ (Row (method_row 1), cells_of (method_row 1) [])
    ∷ (Row (method_row 2), cells_of (method_row 2) [])
    ∷ []

pub bad_range-is_reached : plan_refusal (shown ((Owned (type_row 2) 0x06, slots.Fault bad_range) ∷ types)) ≡ Some (Reached bad_range)
unfolding plan_refusal later_refusal graph_walk walk_tables is_root_table has_sig owns_table may_link list_key tables
bad_range-is_reached = refl

pub shared-is_twice : plan_refusal (shown types) ≡ Some (Twice (method_row 2))
unfolding plan_refusal later_refusal graph_walk walk_tables is_root_table has_sig owns_table may_link list_key tables
shared-is_twice = refl

-- without ILONLY, before a row that was met twice
pub mixed-is_not_pure : plan_refusal (shown ((Facts, facts 0) ∷ types)) ≡ Some NotPureIl
unfolding plan_refusal later_refusal graph_walk walk_tables is_root_table has_sig owns_table may_link list_key tables
mixed-is_not_pure = refl

-- a call of a method that was removed
abbrev caller : List (Key × Slot)
caller =
    (Owned (type_row 1) 0x06, list (method_row 1 ∷ []))
    ∷ (
      Body (method_row 1),
      slots.Value (values.Body (Il (record {
        max_stack = 8;
        init_locals = false;
        locals = root;
        code = record { op = 0x28; operand = operands.Tok (method_row 2) } ∷ record { op = 0x2a; operand = operands.None } ∷ [];
        handlers = [];
      }))),
    )
    ∷ (Row (method_row 1), cells_of (method_row 1) [])
    ∷ small

pub call-is_dangling : plan_refusal (shown caller) ≡ Some (Dangling (Body (method_row 1)) (method_row 2))
unfolding plan_refusal later_refusal graph_walk walk_tables is_root_table has_sig owns_table may_link list_key tables
call-is_dangling = refl

-- attributes of a module and of a type: the number of the type is the lesser one
abbrev attributes : List (Key × Slot)
attributes =
    (Linked module_row CustomAttribute, list (attribute 1 ∷ attribute 4 ∷ []))
    ∷ (Linked (type_row 1) CustomAttribute, list (attribute 2 ∷ []))
    ∷ (Row (attribute 1), cells_of (attribute 1) (cells.Ref module_row ∷ cells.NoRef ∷ cells.Blob [] ∷ []))
    ∷ (Row (attribute 2), cells_of (attribute 2) (cells.Ref (type_row 1) ∷ cells.NoRef ∷ cells.Blob [] ∷ []))
    ∷ (Row (attribute 4), cells_of (attribute 4) (cells.Ref module_row ∷ cells.NoRef ∷ cells.Blob [] ∷ []))
    ∷ small

abbrev attribute_lists : List (List Token)
attribute_lists = written_lists (walked_value (shown attributes)) (graph_walk (shown attributes)).all

pub attributes-by_parent : rows_in attribute_lists 0x0c ≡ attribute 2 ∷ attribute 1 ∷ attribute 4 ∷ []
unfolding written_lists link_number sort_link cell_among graph_walk walk_tables is_root_table has_sig owns_table may_link list_key tables
attributes-by_parent = refl

pub attribute_1-is_second : token_renumbered attribute_lists (attribute 1) ≡ Some (attribute 2)
unfolding written_lists link_number sort_link cell_among graph_walk walk_tables is_root_table has_sig owns_table may_link list_key tables
attribute_1-is_second = refl

pub attribute_3-is_none : token_renumbered attribute_lists (attribute 3) ≡ None
unfolding written_lists link_number sort_link cell_among graph_walk walk_tables is_root_table has_sig owns_table may_link list_key tables
attribute_3-is_none = refl
