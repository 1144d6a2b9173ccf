-- Each question of an inquiry is of a module that is there, if the one where it began is.
use Rattle.std.proofs.Common.{◌≡◌, sym, ◌∙◌, ap, refl, ℕ, ◌-◌, ◌<◌, Bool, true, false, List, [], ◌∷◌, Option, Some, None, arith, ◌==◌, if◌then◌else◌}
use Rattle.cil_base.specs.Token.{Token}
use Rattle.node_model.specs.declared.query.Query.{Query}
use Rattle.resolver.specs.Inquiry.{Inquiry, is_question, next_of}
use Rattle.resolver.specs.Machine.{state_after}
use Rattle.resolver.specs.Questions.{attribute_question, end_next, enum_question, member_question, name_question, of_first, of_module, parameter_question, reference_question, stage_next, state_next, type_question}
use Rattle.resolver.specs.declared.attributes.AttributeStage.{AttributeStage}
use Rattle.resolver.specs.declared.attributes.AttributeStage.TheVariants as attributes
use Rattle.resolver.specs.declared.enum_widths.EnumStage.{EnumStage}
use Rattle.resolver.specs.declared.enum_widths.EnumStage.TheVariants as enums
use Rattle.resolver.specs.declared.members.MemberStage.{MemberStage}
use Rattle.resolver.specs.declared.members.MemberStage.TheVariants as members
use Rattle.resolver.specs.declared.named_types.TypeStage.{TypeStage}
use Rattle.resolver.specs.declared.named_types.TypeStage.TheVariants as types
use Rattle.resolver.specs.declared.next.Next.{Next}
use Rattle.resolver.specs.declared.next.Next.TheVariants.{Question}
use Rattle.resolver.specs.declared.parameters.Asked.{Asked}
use Rattle.resolver.specs.declared.reading.Reading.{Reading}
use Rattle.resolver.specs.declared.references.ReferenceStage.{ReferenceStage}
use Rattle.resolver.specs.declared.references.ReferenceStage.TheVariants as references
use Rattle.resolver.specs.declared.state.End.{End}
use Rattle.resolver.specs.declared.state.End.TheVariants as ends
use Rattle.resolver.specs.declared.state.Stage.{Stage}
use Rattle.resolver.specs.declared.state.Stage.TheVariants as stages
use Rattle.resolver.specs.declared.state.State.{State}
use Rattle.cecil_top.proofs.ReplyLemmas.{left_in, state_in}
use Rattle.cecil_top.proofs.StageLemmas.{EnumIn, IsWithin, MemberIn, ReferenceIn, StageIn, TypeIn}

no_question : (end : Next) (m : ℕ) (q : Query) → is_question end ≡ false → end ≡ Question m q → ⊥
no_question end m q ended is = let e : false ≡ true = sym ended ∙ ap is_question is in cc

module _ (n : ℕ) (s : State) (within : IsWithin n s) where
  at_home : (at m : ℕ) (query q : Query) → at < n → Question at query ≡ Question m q → m < n
  at_home at m query q less is = let same : at ≡ m = cc in omega (arith, same, less)

  -- the first of the last so many modules, and the first of the rows that are left
  module_home : (left m : ℕ) (query q : Query) (end : Next) → is_question end ≡ false → of_module s left query end ≡ Question m q → m < n
  module_home left m query q end ended is = by_left (left == 0) is
    where
      less : s.modules - left < n
      less = left_in n s within left m q query end ended is

      by_left : (none : Bool) → (if none then end else Question (s.modules - left) query) ≡ Question m q → m < n
      by_left true so = absurd (no_question end m q ended so)
      by_left false so = at_home (s.modules - left) m query q less so

  first_home : (ts : List Token) (at m : ℕ) (query : Token → Query) (q : Query) (end : Next) → at < n → is_question end ≡ false
      → of_first ts at query end ≡ Question m q → m < n
  first_home [] at m query q end less ended is = absurd (no_question end m q ended is)
  first_home (t ∷ ts) at m query q end less ended is = at_home at m (query t) q less is

  reference_home : (stage : ReferenceStage) (m : ℕ) (q : Query) → ReferenceIn n stage → reference_question stage ≡ Question m q → m < n
  reference_home (references.TypeRef at t) m q less is = at_home at m _ q less is
  reference_home (references.TypeSpec at t) m q less is = at_home at m _ q less is
  reference_home (references.MethodSpec at t) m q less is = at_home at m _ q less is
  reference_home (references.MemberRef at t) m q less is = at_home at m _ q less is

  type_home : (stage : TypeStage) (m : ℕ) (q : Query) → TypeIn n stage → type_question s stage ≡ Question m q → m < n
  type_home (types.AssemblyRef at t wanted) m q less is = at_home at m _ q less is
  type_home (types.Assembly left name wanted forwards) m q there is = module_home left m _ q _ refl is
  type_home (types.ByName at wanted forwards) m q less is = at_home at m _ q less is
  type_home (types.ExportedTypes at wanted) m q less is = at_home at m _ q less is
  type_home (types.ExportedType at wanted) m q less is = first_home s.left at m _ q _ less refl is
  type_home (types.NestedTypes at t name) m q less is = at_home at m _ q less is
  type_home (types.NestedRow at name) m q less is = first_home s.left at m _ q _ less refl is
  type_home (types.NestedType at t name) m q less is = at_home at m _ q less is

  member_home : (stage : MemberStage) (m : ℕ) (q : Query) → MemberIn n stage → member_question stage ≡ Question m q → m < n
  member_home (members.SigText at member name found_at of) m q there is = at_home at m _ q there.0 is
  member_home (members.SigSort at member name text found_at of) m q there is = at_home at m _ q there.0 is
  member_home (members.ByName at of wanted) m q less is = at_home at m _ q less is
  member_home (members.Base at of wanted) m q less is = at_home at m _ q less is

  name_home : (asked : Option Asked) (m : ℕ) (q : Query) → name_question s.home asked ≡ Question m q → m < n
  name_home None m q is = absurd (no_question _ m q refl is)
  name_home (Some asked) m q is = at_home s.home m _ q within.home is

  parameter_home : (reading : Option Reading) (m : ℕ) (q : Query) → parameter_question s.home reading ≡ Question m q → m < n
  parameter_home None m q is = absurd (no_question _ m q refl is)
  parameter_home (Some reading) m q is = name_home _ m q is

  attribute_home : (stage : AttributeStage) (m : ℕ) (q : Query) → attribute_question s stage ≡ Question m q → m < n
  attribute_home (attributes.Row t) m q is = at_home s.home m _ q within.home is
  attribute_home (attributes.Constructor t blob) m q is = at_home s.home m _ q within.home is
  attribute_home attributes.Parameter m q is = parameter_home s.reading m q is

  enum_home : (stage : EnumStage) (m : ℕ) (q : Query) → EnumIn n stage → enum_question s stage ≡ Question m q → m < n
  enum_home (enums.Here wanted) m q there is = at_home s.home m _ q within.home is
  enum_home (enums.Anywhere left wanted) m q there is = module_home left m _ q _ refl is
  enum_home (enums.Fields at of) m q less is = at_home at m _ q less is
  enum_home (enums.Field at) m q less is = first_home s.left at m _ q _ less refl is
  enum_home (enums.FieldSig at) m q less is = first_home s.left at m _ q _ less refl is

  end_home : (end : End) (m : ℕ) (q : Query) → end_next end ≡ Question m q → m < n
  end_home (ends.Found at t) m q is = absurd (no_question _ m q refl is)
  end_home (ends.Attribute value) m q is = absurd (no_question _ m q refl is)
  end_home ends.BadAttribute m q is = absurd (no_question _ m q refl is)
  end_home (ends.Unresolved name) m q is = absurd (no_question _ m q refl is)
  end_home ends.TooDeep m q is = absurd (no_question _ m q refl is)
  end_home (ends.Stopped r) m q is = absurd (no_question _ m q refl is)
  end_home (ends.NoReference t) m q is = absurd (no_question _ m q refl is)

  stage_home : (stage : Stage) (m : ℕ) (q : Query) → StageIn n stage → stage_next s stage ≡ Question m q → m < n
  stage_home (stages.Reference stage) m q there is = reference_home stage m q there is
  stage_home (stages.NamedType stage) m q there is = type_home stage m q there is
  stage_home (stages.Member stage) m q there is = member_home stage m q there is
  stage_home (stages.Attribute stage) m q there is = attribute_home stage m q is
  stage_home (stages.EnumType stage) m q there is = enum_home stage m q there is
  stage_home (stages.Ended end) m q there is = end_home end m q is

  next_home : (m : ℕ) (q : Query) → state_next s ≡ Question m q → m < n
  unfolding state_next
  next_home m q is = stage_home s.stage m q within.stage is

pub question_home : (i : Inquiry) → i.start.home < i.start.modules → (m : ℕ) (q : Query) → next_of i ≡ Question m q → m < i.start.modules
unfolding next_of
question_home i less m q is = next_home i.start.modules (state_after i.start i.transcript) (state_in i.start i.transcript less) m q is
