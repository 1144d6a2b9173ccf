-- What the replies about an attribute and its constructor lead to, and how its value is read: ECMA-335 II.22.10,
-- II.23.3.
use Rattle.std.specs.Prelude.{ℕ, ◌-◌, ◌==◌, List, [], ◌∷◌, ◌++◌, length, map, codes, Option, Some, None, if◌then◌else◌}
use Rattle.cil_base.specs.Token.{Token}
use Rattle.attr_blob.specs.Decoded.{attr_at}
use Rattle.attr_blob.specs.declared.value.ArgType.{ArgType}
use Rattle.attr_blob.specs.declared.value.AttrRead.{AttrRead}
use Rattle.attr_blob.specs.declared.value.AttrRead.TheVariants.{Value, Unknown, Bad}
use Rattle.sig_tree.specs.declared.tree.SigTree.{SigTree}
use Rattle.sig_tree.specs.declared.tree.SigTree.TheVariants.{Method}
use Rattle.sig_tree.specs.declared.tree.TypeSig.{TypeSig}
use Rattle.node_model.specs.RowTexts.{blob_named, token_named}
use Rattle.node_model.specs.declared.reply.Reply.{Reply}
use Rattle.node_model.specs.declared.value.RowValue.{RowValue}
use Rattle.resolver.specs.EnumNames.{enum_assembly, enum_type_name, nested_names, nested_waiting, search_stage}
use Rattle.resolver.specs.Found.{ended, first_stage, is_definition, on_name, on_row, on_sig}
use Rattle.resolver.specs.Parameters.{asked_of, parameter_of, types_of, value_token}
use Rattle.resolver.specs.declared.attributes.AttributeStage.{AttributeStage}
use Rattle.resolver.specs.declared.attributes.AttributeStage.TheVariants.{Row, Constructor, Parameter as ParameterName}
use Rattle.resolver.specs.declared.enum_widths.EnumStage.TheVariants.{Fields}
use Rattle.resolver.specs.declared.parameters.Parameter.{Parameter}
use Rattle.resolver.specs.declared.reading.Reading.{Reading}
use Rattle.resolver.specs.declared.state.Advance.{Advance}
use Rattle.resolver.specs.declared.state.Advance.TheVariants.{To, Named, Reads}
use Rattle.resolver.specs.declared.state.End.TheVariants as ends
use Rattle.resolver.specs.declared.state.Stage.{Stage}
use Rattle.resolver.specs.declared.state.Stage.TheVariants.{Attribute, EnumType}
use Rattle.resolver.specs.declared.state.State.{State}

abbrev pub bad_attribute : Advance
bad_attribute = ended ends.BadAttribute

-- the enum is looked for: a value type among the parameters by its token, and any other by its name. Its steps to other
-- tokens are counted anew
abbrev pub enum_stage : ℕ → Token → Stage
enum_stage at t = if is_definition t.table then EnumType (Fields at t) else first_stage at t

abbrev pub looked_by : State → Reading → Option Token → Advance
looked_by s reading (Some t) = Reads reading [] (enum_stage s.home t)
looked_by s reading None =
    Reads reading (nested_waiting (nested_names reading.wanted))
    (search_stage s (enum_type_name reading.wanted) (enum_assembly reading.wanted))

abbrev pub looked_for : State → Reading → Advance
looked_for s reading = looked_by s reading (value_token reading.asked reading.names reading.wanted)

abbrev pub read_as : State → Reading → AttrRead → Advance
read_as s reading (Value value) = ended (ends.Attribute value)
read_as s reading (Unknown name) = looked_for s (record reading { wanted = name })
read_as s reading Bad = bad_attribute

-- the blob by the widths that are known
unfoldable pub read_on : State → Reading → Advance
read_on s reading = read_as s reading (attr_at reading.types reading.widths reading.blob)

abbrev pub without_arguments : List Parameter → Advance
without_arguments [] = ended (ends.Attribute (record { fixed = []; named = [] }))
without_arguments (p ∷ params) = bad_attribute

-- an empty blob has no arguments
abbrev pub read_blob : State → Reading → Advance
read_blob s reading = if length reading.blob == 0 then without_arguments reading.params else read_on s reading

abbrev pub typed_by : State → Reading → Option (List ArgType) → Advance
typed_by s reading None = bad_attribute
typed_by s reading (Some types) = read_blob s (record reading { types = types })

-- all names are known
unfoldable pub after_names : State → Reading → Advance
after_names s reading = typed_by s reading (types_of reading.params reading.names)

abbrev pub new_reading : List ℕ → List TypeSig → Reading
new_reading blob types =
    record {
      blob = blob;
      params = map parameter_of types;
      asked = asked_of (map parameter_of types);
      names = [];
      types = [];
      widths = [];
      wanted = [];
    }

abbrev pub begun_reading : State → Reading → Advance
begun_reading s reading =
    if length reading.asked == 0 then after_names s reading else Reads reading [] (Attribute ParameterName)

-- the constructor by its signature
abbrev pub after_constructor : State → List ℕ → SigTree → Advance
after_constructor s blob (Method m) = begun_reading s (new_reading blob m.params)
after_constructor s blob sig = bad_attribute

abbrev pub after_type_cell : RowValue → Option Token → Advance
after_type_cell row None = bad_attribute
after_type_cell row (Some t) = To (Attribute (Constructor t (blob_named (codes "Value") row)))

abbrev pub after_name : State → List ℕ → Option Reading → Advance
after_name s name None = bad_attribute
after_name s name (Some reading) =
    if length reading.names == length reading.asked - 1
    then after_names s (record reading { names = reading.names ++ name ∷ [] })
    else Named name

abbrev pub after_attribute : State → AttributeStage → Reply → Advance
after_attribute s (Row t) r = on_row r (λ row. after_type_cell row (token_named (codes "Type") row))
after_attribute s (Constructor t blob) r = on_sig r (after_constructor s blob)
after_attribute s ParameterName r = on_name r (λ name. after_name s name s.reading)
