-- What is written of a row would not be read back: ECMA-335 II.22.18, II.22.24, II.22.26, II.23.1.10.
use Rattle.std.specs.Prelude.{ℕ, Bool, true, false, not, List, [], ◌∷◌, Option, Some, None, codes, ◌==◌, ◌&&◌, bit_and}
use Rattle.std.specs.Prelude.{is_some, length, if◌then◌else◌}
use Rattle.std.specs.List.{find}
use Rattle.std.specs.Option.{option_map_or, option_or}
use Rattle.cil_base.specs.Steps.{◌>>=◌}
use Rattle.cil_base.specs.Token.{Token}
use Rattle.md_schema.specs.Tables.{field_rva, manifest_resource, method_def, type_def}
use Rattle.md_schema.specs.declared.link.Link.TheVariants.{ClassLayout}
use Rattle.sig_tree.specs.declared.tree.SigTree.{SigTree}
use Rattle.sig_tree.specs.declared.tree.SigTree.TheVariants as sorts
use Rattle.sig_tree.specs.declared.tree.TypeSig.{TypeSig}
use Rattle.sig_tree.specs.declared.tree.TypeSig.TheOpen.{TypeSig-F, Prim, Value as ValueType, Mod}
use Rattle.sig_tree.specs.declared.tree.TypeSig.TheFolds.{fold-TypeSig}
use Rattle.node_model.specs.Data.{prim_size}
use Rattle.node_model.specs.RowTexts.{number_named, token_named}
use Rattle.node_model.specs.declared.key.Key.{Key}
use Rattle.node_model.specs.declared.key.Key.TheVariants.{Row, Sig, Linked, Body, Data, Resource}
use Rattle.node_model.specs.declared.value.BodyValue.TheVariants.{Il}
use Rattle.node_model.specs.declared.value.ResourceValue.TheVariants.{Here, Elsewhere}
use Rattle.node_model.specs.declared.value.RowValue.{RowValue}
use Rattle.node_model.specs.declared.value.Value.{Value}
use Rattle.node_model.specs.declared.value.Value.TheVariants as values
use Rattle.write_plan.specs.GraphWalk.{rows_of_table}
use Rattle.write_plan.specs.Seen.{list_members}

abbrev pub row_held : Option Value → Option RowValue
row_held (Some (values.Row row)) = Some row
row_held _ = None

abbrev pub sig_in : Option Value → Option SigTree
sig_in (Some (values.Sig sig)) = Some sig
sig_in _ = None

abbrev pub is_il : Option Value → Bool
is_il (Some (values.Body (Il body))) = true
is_il _ = false

-- the code type of the row is not IL
abbrev pub is_other_code : RowValue → Bool
is_other_code row = not (bit_and (number_named (codes "ImplFlags") row) 3 == 0)

abbrev pub is_other_length : Option ℕ → Option Value → Bool
is_other_length (Some size) (Some (values.Data bytes)) = not (size == length bytes)
is_other_length None (Some (values.Data bytes)) = true
is_other_length _ _ = false

abbrev pub is_misplaced : Bool → Option Value → Bool
is_misplaced elsewhere (Some (values.Resource (Here bytes))) = elsewhere
is_misplaced elsewhere (Some (values.Resource (Elsewhere offset))) = not elsewhere
is_misplaced elsewhere _ = false

module _ (value : Key → Option Value) where
  -- an IL body of a method whose row says that it has none
  abbrev pub is_unfit_method : Token → Bool
  is_unfit_method t = is_il (value (Body t)) && option_map_or is_other_code (row_held (value (Row t))) false

  abbrev pub first_class_size : List Token → Option ℕ
  first_class_size [] = None
  first_class_size (layout ∷ more) =
      row_held (value (Row layout)) >>= λ row. Some (number_named (codes "ClassSize") row)

  -- the bytes of a value type: the ClassSize of the first ClassLayout row of a TypeDef
  abbrev pub class_size : Token → Option ℕ
  class_size t = if t.table == type_def then first_class_size (list_members (value (Linked t ClassLayout))) else None

  abbrev pub type_size_level : TypeSig-F (Option ℕ) (Unit {0}) → Option ℕ
  type_size_level (Prim code) = prim_size code
  type_size_level (ValueType of) = class_size of
  type_size_level (Mod required of size) = size
  type_size_level _ = None

  -- the bytes of a type: modifiers are passed over, and most types have no size
  abbrev pub type_size : TypeSig → Option ℕ
  type_size = fold-TypeSig (Option ℕ) (Unit {0}) type_size_level (λ m. tt)

  abbrev pub field_size : SigTree → Option ℕ
  field_size (sorts.Field t) = type_size t
  field_size _ = None

  -- the bytes of the type of the field that a FieldRVA row names
  abbrev pub data_size : Token → Option ℕ
  data_size t =
      row_held (value (Row t)) >>= λ row. token_named (codes "Field") row
      >>= λ field. sig_in (value (Sig field)) >>= λ sig. field_size sig

  -- data of another length than the field's type has, or of a type that has no length
  abbrev pub is_unfit_data : Token → Bool
  is_unfit_data t = is_other_length (data_size t) (value (Data t))

  abbrev pub has_implementation : Token → Bool
  has_implementation t = is_some (row_held (value (Row t)) >>= λ row. token_named (codes "Implementation") row)

  -- bytes of this image of a resource that is said to be elsewhere, or an offset of one that is said to be here
  abbrev pub is_unfit_resource : Token → Bool
  is_unfit_resource t = is_misplaced (has_implementation t) (value (Resource t))

  -- the first of these rows: methods, then data, then resources
  abbrev pub unfit : List Token → Option Token
  unfit rows =
      option_or (find is_unfit_method (rows_of_table method_def rows))
      (option_or (find is_unfit_data (rows_of_table field_rva rows))
      (find is_unfit_resource (rows_of_table manifest_resource rows)))
