-- What is asked at each stage, and of which module: one equation for each stage. Where the rows or modules that are
-- gone over have come to an end, so has the search. ECMA-335 II.22, II.23.3.
use Rattle.std.specs.Prelude.{ℕ, ◌-◌, ◌==◌, List, [], ◌∷◌, length, Option, Some, None, slice_get, if◌then◌else◌}
use Rattle.cil_base.specs.Token.{Token, root}
use Rattle.md_schema.specs.Tables.{assembly, exported_type, field}
use Rattle.md_schema.specs.declared.link.Link.TheVariants.{Nested}
use Rattle.node_model.specs.declared.query.OptText.TheVariants.{Is}
use Rattle.node_model.specs.declared.query.Query.{Query}
use Rattle.node_model.specs.declared.query.Query.TheVariants as queries
use Rattle.node_model.specs.declared.reply.Reply.TheVariants.{WrongKind}
use Rattle.resolver.specs.declared.attributes.AttributeStage.{AttributeStage}
use Rattle.resolver.specs.declared.attributes.AttributeStage.TheVariants as attributes
use Rattle.resolver.specs.declared.enum_widths.EnumStage.{EnumStage}
use Rattle.resolver.specs.declared.enum_widths.EnumStage.TheVariants as enums
use Rattle.resolver.specs.declared.members.MemberStage.{MemberStage}
use Rattle.resolver.specs.declared.members.MemberStage.TheVariants as members
use Rattle.resolver.specs.declared.named_types.TypeName.{TypeName}
use Rattle.resolver.specs.declared.named_types.TypeStage.{TypeStage}
use Rattle.resolver.specs.declared.named_types.TypeStage.TheVariants as types
use Rattle.resolver.specs.declared.next.Next.{Next}
use Rattle.resolver.specs.declared.next.Next.TheVariants as nexts
use Rattle.resolver.specs.declared.parameters.Asked.{Asked}
use Rattle.resolver.specs.declared.reading.Reading.{Reading}
use Rattle.resolver.specs.declared.references.ReferenceStage.{ReferenceStage}
use Rattle.resolver.specs.declared.references.ReferenceStage.TheVariants as references
use Rattle.resolver.specs.declared.state.End.{End}
use Rattle.resolver.specs.declared.state.End.TheVariants as ends
use Rattle.resolver.specs.declared.state.Stage.{Stage}
use Rattle.resolver.specs.declared.state.Stage.TheVariants as stages
use Rattle.resolver.specs.declared.state.State.{State}

-- the row of a module's assembly, of which there is at most one (II.22.2)
abbrev pub first_assembly : Token
first_assembly = record { table = assembly; rid = 1 }

-- the name that is told to be unresolved: while an attribute is read, that of the enum whose width is needed
abbrev pub unresolved_name : Option Reading → List ℕ → List ℕ
unresolved_name None name = name
unresolved_name (Some reading) name = reading.wanted

abbrev pub unresolved_next : State → List ℕ → Next
unresolved_next s name = nexts.Unresolved (unresolved_name s.reading name)

-- something of the first of the rows that are left; the end where none is
abbrev pub of_first : List Token → ℕ → (Token → Query) → Next → Next
of_first [] at query end = end
of_first (t ∷ ts) at query end = nexts.Question at (query t)

-- something of the first of the last so many modules; the end where none is left
abbrev pub of_module : State → ℕ → Query → Next → Next
of_module s left query end = if left == 0 then end else nexts.Question (s.modules - left) query

abbrev pub find_type : TypeName → Query
find_type wanted = queries.FindType wanted.namespace wanted.name

abbrev pub reference_question : ReferenceStage → Next
reference_question (references.TypeRef at t) = nexts.Question at (queries.Row t)
reference_question (references.TypeSpec at t) = nexts.Question at (queries.Sig t)
reference_question (references.MethodSpec at t) = nexts.Question at (queries.Row t)
reference_question (references.MemberRef at t) = nexts.Question at (queries.Row t)

abbrev pub type_question : State → TypeStage → Next
type_question s (types.AssemblyRef at t wanted) = nexts.Question at (queries.Row t)
type_question s (types.Assembly left name wanted forwards) =
    of_module s left (queries.Row first_assembly) (unresolved_next s name)
type_question s (types.ByName at wanted forwards) = nexts.Question at (find_type wanted)
type_question s (types.ExportedTypes at wanted) = nexts.Question at (queries.Members root exported_type)
type_question s (types.ExportedType at wanted) = of_first s.left at queries.Row (unresolved_next s wanted.name)
type_question s (types.NestedTypes at t name) = nexts.Question at (queries.Links t Nested)
type_question s (types.NestedRow at name) = of_first s.left at queries.Row (unresolved_next s name)
type_question s (types.NestedType at t name) = nexts.Question at (queries.Row t)

abbrev pub member_question : MemberStage → Next
member_question (members.SigText at member name found_at of) = nexts.Question at (queries.Name member)
member_question (members.SigSort at member name text found_at of) = nexts.Question at (queries.Sig member)
member_question (members.ByName at of wanted) =
    nexts.Question at (queries.FindMember of wanted.table wanted.name (Is wanted.sig))
member_question (members.Base at of wanted) = nexts.Question at (queries.Row of)

abbrev pub name_question : ℕ → Option Asked → Next
name_question home None = nexts.BadAttribute
name_question home (Some asked) = nexts.Question home (queries.Name asked.token)

-- the name of the first parameter's type whose name is not known
abbrev pub parameter_question : ℕ → Option Reading → Next
parameter_question home None = nexts.BadAttribute
parameter_question home (Some reading) = name_question home (slice_get reading.asked (length reading.names))

abbrev pub attribute_question : State → AttributeStage → Next
attribute_question s (attributes.Row t) = nexts.Question s.home (queries.Row t)
attribute_question s (attributes.Constructor t blob) = nexts.Question s.home (queries.Sig t)
attribute_question s attributes.Parameter = parameter_question s.home s.reading

abbrev pub enum_question : State → EnumStage → Next
enum_question s (enums.Here wanted) = nexts.Question s.home (find_type wanted)
enum_question s (enums.Anywhere left wanted) = of_module s left (find_type wanted) (unresolved_next s wanted.name)
enum_question s (enums.Fields at of) = nexts.Question at (queries.Members of field)
enum_question s (enums.Field at) = of_first s.left at queries.Row nexts.BadAttribute
enum_question s (enums.FieldSig at) = of_first s.left at queries.Sig nexts.BadAttribute

abbrev pub end_next : End → Next
end_next (ends.Found at t) = nexts.Found at t
end_next (ends.Attribute value) = nexts.Attribute value
end_next ends.BadAttribute = nexts.BadAttribute
end_next (ends.Unresolved name) = nexts.Unresolved name
end_next ends.TooDeep = nexts.TooDeep
end_next (ends.Stopped r) = nexts.Stopped r
end_next (ends.NoReference t) = nexts.Stopped (WrongKind t)

abbrev pub stage_next : State → Stage → Next
stage_next s (stages.Reference stage) = reference_question stage
stage_next s (stages.NamedType stage) = type_question s stage
stage_next s (stages.Member stage) = member_question stage
stage_next s (stages.Attribute stage) = attribute_question s stage
stage_next s (stages.EnumType stage) = enum_question s stage
stage_next s (stages.Ended end) = end_next end

-- the next question, or the end
unfoldable pub state_next : State → Next
state_next s = stage_next s s.stage
