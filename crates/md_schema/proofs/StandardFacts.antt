-- Values of the standard, so that a wrong number or place in a definition does not check.
use Rattle.std.proofs.Common.{◌≡◌, [], ◌∷◌, Some, None, map, refl}
use Rattle.std.specs.List.{filter}
use Rattle.md_schema.specs.CodedKind.{tag_table_of}
use lib.Chars.{codes}
use Rattle.std.specs.Option.{option_map}
use Rattle.md_schema.specs.Entry.{column_of, columns_of, owner_of, start_column_of}
use Rattle.md_schema.specs.Link.{link_kind_of}
use Rattle.md_schema.specs.Runs.{run_between}
use Rattle.md_schema.specs.Schema.{tables}
use Rattle.md_schema.specs.declared.coded_kind.CodedKind.TheVariants.{TypeDefOrRef, HasCustomAttribute, HasSemantics, CustomAttributeType}
use Rattle.md_schema.specs.declared.column.ColumnKind.TheVariants.{Coded}
use Rattle.md_schema.specs.declared.link.Link.TheVariants.{MethodSemantics}
use Rattle.md_schema.specs.declared.holder.Holder.{Holder}
use Rattle.md_schema.specs.declared.holder.Holder.TheVariants.{Root}
use Rattle.std.proofs.Common.{Bool, true, false, length}

abbrev pub is_root_holder : Holder → Bool
is_root_holder Root = true
is_root_holder _ = false

pub tag_2-is-type_spec : tag_table_of TypeDefOrRef 2 ≡ Some 0x1b
tag_2-is-type_spec = refl

pub tag_21-is-method_spec : tag_table_of HasCustomAttribute 21 ≡ Some 0x2b
tag_21-is-method_spec = refl

pub tag_22-is-unused : tag_table_of HasCustomAttribute 22 ≡ None
tag_22-is-unused = refl

pub tag_1-is-unused : tag_table_of CustomAttributeType 1 ≡ None
tag_1-is-unused = refl

pub thirty_eight-tables : length tables ≡ 38
unfolding tables
thirty_eight-tables = refl

pub root_tables : map (λ table. table.number) (filter (λ table. is_root_holder table.holder) tables) ≡
    0x00 ∷ 0x01 ∷ 0x02 ∷ 0x0a ∷ 0x11 ∷ 0x1a ∷ 0x1b ∷ 0x20 ∷ 0x21 ∷ 0x22 ∷ 0x23 ∷ 0x24 ∷ 0x25 ∷ 0x26 ∷ 0x27 ∷ 0x28 ∷ 0x2b ∷ []
unfolding tables
root_tables = refl

pub type_def-owns-methods : start_column_of 0x02 0x06 ≡ Some 5
unfolding tables
type_def-owns-methods = refl

pub method_def-owns-params : start_column_of 0x06 0x08 ≡ Some 5
unfolding tables
method_def-owns-params = refl

pub method_def-owns-param : owner_of 0x08 ≡ Some 0x06
unfolding tables
method_def-owns-param = refl

pub method_semantics-by-association : link_kind_of MethodSemantics ≡ Some (Coded HasSemantics)
unfolding tables
method_semantics-by-association = refl

pub assembly-hash_alg_id : option_map (λ column. column.name) (column_of 0x20 0) ≡ Some (codes "HashAlgId")
unfolding tables
assembly-hash_alg_id = refl

pub equal-ends_past_the_rows : run_between 6 9 9 ≡ Some (9, 9)
equal-ends_past_the_rows = refl

pub no-falling_run : run_between 6 5 3 ≡ None
no-falling_run = refl

pub event_map-owns-events : owner_of 0x14 ≡ Some 0x12
unfolding tables
event_map-owns-events = refl

pub no-table-03 : columns_of 0x03 ≡ None
unfolding tables
no-table-03 = refl
