-- Which keys a row has, in which order, and where each key stands: ECMA-335 II.22.
use Rattle.std.specs.Prelude.{ℕ, List, [], ◌∷◌, ◌++◌, map, length, slice_set, Option, ◌==◌, if◌then◌else◌}
use Rattle.std.specs.List.{filter, position, range_with_len}
use Rattle.std.specs.Option.{option_map}
use Rattle.cil_base.specs.Token.{Token, root}
use Rattle.md_schema.specs.Link.{all_links}
use Rattle.md_schema.specs.Tables.{event, field, method_def, param, property}
use Rattle.slot_store.specs.SlotMap.{SlotMap, kept_slot}
use Rattle.slot_store.specs.declared.place.Place.{Place}
use Rattle.slot_store.specs.declared.place.Shape.{Shape}
use Rattle.node_model.specs.KeyKinds.{has_kind, is_root_table}
use Rattle.node_model.specs.Keys.{is_of_root, same_key, token_of_key}
use Rattle.node_model.specs.contracts.key.KeyPartialEq.TheImpl.{eq-value}
use Rattle.node_model.specs.declared.key.Key.{Key}
use Rattle.node_model.specs.declared.key.Key.TheVariants.{Row, Sig, Owned, Linked, Body, Data, Resource, Facts}
use Rattle.node_model.specs.declared.kinds.KeyKind.{KeyKind}
use Rattle.node_model.specs.declared.kinds.KeyKind.TheVariants as kinds
use Rattle.node_model.specs.declared.slot.Slot.{Slot}

-- the key of a row, or of the root, of a kind
abbrev pub key_of_kind : Token → KeyKind → Key
key_of_kind t kinds.Row = Row t
key_of_kind t kinds.Sig = Sig t
key_of_kind t (kinds.Owned n) = Owned t n
key_of_kind t (kinds.Linked l) = Linked t l
key_of_kind t kinds.Body = Body t
key_of_kind t kinds.Data = Data t
key_of_kind t kinds.Resource = Resource t
key_of_kind t kinds.Facts = Facts

-- the kinds of keys of rows, in order
abbrev pub all_kinds : List KeyKind
all_kinds =
    kinds.Row ∷ kinds.Sig
    ∷ (map kinds.Owned (field ∷ method_def ∷ param ∷ event ∷ property ∷ []) ++ map kinds.Linked all_links
    ++ kinds.Body ∷ kinds.Data ∷ kinds.Resource ∷ [])

-- those that the rows of a table have: as the first row has them
unfoldable pub kinds_of : ℕ → List KeyKind
kinds_of table = filter (λ kind. has_kind (key_of_kind (record { table = table; rid = 1 }) kind)) all_kinds

-- those of the root: the facts, and its lists by the numbers of their tables
unfoldable pub root_kinds : List KeyKind
root_kinds = kinds.Facts ∷ map kinds.Owned (filter is_root_table (range_with_len 0 64))

-- the keys of a row
abbrev pub row_keys : Token → List Key
row_keys t = map (key_of_kind t) (kinds_of t.table)

abbrev pub root_keys : List Key
root_keys = map (key_of_kind root) root_kinds

-- the place of a key of a row, by its number among these
abbrev pub place_among : List Key → ℕ → ℕ → Key → Option Place
place_among keys table rid k =
    option_map (λ (number : ℕ). record { table = table; rid = rid; kind = number }) (position (same_key k) keys)

-- where a key stands: with its row, those of the root as those of row 1 of table 63, which is no table. A key of a kind
-- that its row does not have has no place
unfoldable pub key_place : Key → Option Place
key_place k =
    if is_of_root k
    then place_among root_keys 63 1 k
    else place_among (row_keys (token_of_key k)) (token_of_key k).table (token_of_key k).rid k

-- how many kinds of keys a row of each table has
abbrev pub number_of_kinds : ℕ → ℕ
number_of_kinds table = if table == 63 then length root_kinds else length (kinds_of table)

-- the places of the keys of an image with so many rows
unfoldable pub image_shape : List ℕ → Shape
image_shape rows = record { rows = slice_set rows 63 1; kinds = map number_of_kinds (range_with_len 0 64) }

-- the slot of a key in a store, if it is filled
abbrev pub slot_at : SlotMap Key Slot → Key → Option Slot
slot_at slots k = kept_slot key_place (eq-value).it slots k
