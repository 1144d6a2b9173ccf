-- What the replies to the search for an enum by its name, and for the width of its values, lead to: ECMA-335 II.14.3,
-- II.22.15, II.23.3.
use Rattle.std.specs.Prelude.{ℕ, ◌-◌, ◌==◌, ◌&&◌, not, Bool, [], ◌∷◌, ◌++◌, bit_and, codes, nat_le, Option, Some, None}
use Rattle.std.specs.Prelude.{if◌then◌else◌}
use Rattle.sig_tree.specs.declared.tree.SigTree.{SigTree}
use Rattle.sig_tree.specs.declared.tree.SigTree.TheVariants as sorts
use Rattle.sig_tree.specs.declared.tree.TypeSig.{TypeSig}
use Rattle.sig_tree.specs.declared.tree.TypeSig.TheOpen.{TypeSig-F, Prim}
use Rattle.sig_tree.specs.declared.tree.TypeSig.TheViews.{out-TypeSig}
use Rattle.sig_tree.specs.declared.tree.MethodSig.{MethodSig}
use Rattle.node_model.specs.RowTexts.{number_named}
use Rattle.node_model.specs.declared.reply.Reply.{Reply}
use Rattle.node_model.specs.declared.value.RowValue.{RowValue}
use Rattle.resolver.specs.Attributes.{bad_attribute, read_on}
use Rattle.resolver.specs.Found.{found, on_found, on_row, on_sig, on_tokens}
use Rattle.resolver.specs.declared.enum_widths.EnumStage.{EnumStage}
use Rattle.resolver.specs.declared.enum_widths.EnumStage.TheVariants.{Here, Anywhere, Fields, Field, FieldSig}
use Rattle.resolver.specs.declared.reading.Reading.{Reading}
use Rattle.resolver.specs.declared.state.Advance.{Advance}
use Rattle.resolver.specs.declared.state.Advance.TheVariants.{To, Over, Onward}
use Rattle.resolver.specs.declared.state.Stage.TheVariants.{EnumType}
use Rattle.resolver.specs.declared.state.State.{State}

-- the bit Static of a field's flags (II.23.1.5)
abbrev pub is_static : RowValue → Bool
is_static row = not (bit_and (number_named (codes "Flags") row) 0x10 == 0)

-- BOOLEAN 02 to U8 0B
abbrev pub type_width : TypeSig-F TypeSig MethodSig → Option ℕ
type_width (Prim code) = if nat_le 0x02 code && nat_le code 0x0b then Some code else None
type_width _ = None

abbrev pub field_width : SigTree → Option ℕ
field_width (sorts.Field ty) = type_width (out-TypeSig ty)
field_width _ = None

abbrev pub after_field : ℕ → Bool → Advance
after_field at static = if static then Onward (EnumType (Field at)) else To (EnumType (FieldSig at))

-- the width of the enum is known, and the blob is read again
abbrev pub with_width : State → ℕ → Option Reading → Advance
with_width s elem None = bad_attribute
with_width s elem (Some reading) =
    read_on s (record reading { widths = reading.widths ++ record { name = reading.wanted; elem = elem } ∷ [] })

-- a field of another type is passed over
abbrev pub after_width : State → ℕ → Option ℕ → Advance
after_width s at None = Onward (EnumType (Field at))
after_width s at (Some elem) = with_width s elem s.reading

abbrev pub after_enum : State → EnumStage → Reply → Advance
after_enum s (Here wanted) r = on_found r (found s s.home) (To (EnumType (Anywhere s.modules wanted)))
after_enum s (Anywhere left wanted) r =
    on_found r (found s (s.modules - left)) (To (EnumType (Anywhere (left - 1) wanted)))
after_enum s (Fields at of) r = on_tokens r (λ ts. Over ts (EnumType (Field at)))
after_enum s (Field at) r = on_row r (λ row. after_field at (is_static row))
after_enum s (FieldSig at) r = on_sig r (λ sig. after_width s at (field_width sig))
